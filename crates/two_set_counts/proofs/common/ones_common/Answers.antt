use mathlib.Core.Path.{◌≡◌, ap, ap₂, ◌∙◌}
use Prim.Native.Nat.{ℕ, ◌+◌, ◌*◌, min}
use lib.ListN.{length, get_or}
use Rattle.word_bits.specs.Counts.{count}
use Rattle.word_bits.specs.Digits.{digit, row}
use Rattle.word_bits.proofs.Ones.{count-le, row-none, row_more}
use Rattle.operations.specs.Operations.{joined_word}
use Rattle.operations.proofs.WordJoins.{word_by}
use Rattle.two_set_counts.proofs.RestLaws.{few}
use Rattle.two_set_counts.proofs.WordRows.{row_joined}
use native.Mathlib.Omega.{arith}
use Rattle.two_set_counts.proofs.common.ones_common.Goals as goal

pub loop-k-init : goal.loop-k-init
loop-k-init g c = (omega arith, row-none _)

pub overflow_add-sum : goal.overflow_add-sum
overflow_add-sum g c = omega (arith, few c.args.a, c.loop-k.invariant.0, c.count_ones-sum.ensures, count-le 64 (digit c.word.result))

pub loop-k-preserved : goal.loop-k-preserved
loop-k-preserved g c =
    let inv = c.loop-k.invariant in
    let a = c.args in (
      omega (arith, inv.0, c.count_ones-sum.ensures, count-le 64 (digit c.word.result)),
      ap₂ ◌+◌ inv.1 (c.count_ones-sum.ensures ∙ ap (λ (w : ℕ). count 64 (digit w)) (c.word.ensures ∙ word_by _ _ _ (omega arith) (omega arith)))
          ∙ row_more (λ i. joined_word g.S.Join.operation (get_or a.a.words.now i 0) (get_or a.b.words.now i 0)) c.loop-k.k,
    )

pub returns : goal.returns
returns g c =
    let a = c.args in
    let e : c.loop-k.k ≡ min (length a.a.words.now) (length a.b.words.now) = omega arith in
    row_joined g.S.Join.operation _ _ _
    (c.loop-k.invariant.1 ∙ ap (λ (n : ℕ). count (n * 64) (row (λ i. joined_word g.S.Join.operation (get_or a.a.words.now i 0) (get_or a.b.words.now i 0)))) e)
