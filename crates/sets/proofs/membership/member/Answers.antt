use mathlib.Core.Path.{sym, ap, ◌∙◌}
use mathlib.Core.Bool.{not}
use Prim.Native.Nat.{ℕ, ◌%◌}
use lib.Bits.{bit_and}
use lib.Dec.{eqb}
use Rattle.word_bits.specs.Digits.{digit}
use Rattle.word_bits.proofs.SingleBit.{single_bit, test_bit}
use Rattle.sets.specs.Members.{bit_of}
use Rattle.sets.proofs.ReadLaws.{read_below, read_above}
use native.Mathlib.Omega.{arith}
use Rattle.sets.proofs.membership.member.Goals as goal

pub returns-then-set-p : goal.returns-then-set-p
returns-then-set-p c = sym (read_above _ _ _ c.if-set-p.true)

pub returns : goal.returns
unfolding bit_of
returns c =
    let p = c.args.p in
    ap (λ (y : ℕ). not (eqb (bit_and c.block.result y) 0)) (single_bit (p % 64) (omega arith))
    ∙ test_bit c.block.result (p % 64) (omega arith) ∙ ap (λ (x : ℕ). digit x (p % 64)) c.block.ensures
    ∙ sym (read_below _ _ _ c.if-set-p.false)
