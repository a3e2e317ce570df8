use mathlib.Core.Path.{sym, ap, ap₂, ◌∙◌}
use mathlib.Core.List.{List}
use Prim.Native.Nat.{ℕ}
use Rattle.blocks.specs.Sweeps.{swept}
use Rattle.sets.specs.declared.fixed_bit_set.FixedBitSet.{FixedBitSet}
use Rattle.blocks.proofs.BlockLaws.{zeroed}
use Rattle.sets.proofs.ZeroLaws.{zeroed_write}
use Rattle.sets.proofs.OutcomeLaws.{given_yes}
use Rattle.sets.proofs.RefusalLaws.{edit_refused}
use Rattle.sets.proofs.QuestionLaws.{room}
use Rattle.fresh_sets.proofs.fresh.with_capacity.Goals as goal

pub returns-in_err-check_new : goal.returns-in_err-check_new
returns-in_err-check_new c = edit_refused _ _ _ _ _ c.from_residual.ensures.1 c.in_err-check_new.ensures

pub returns : goal.returns
returns c =
    let a = c.args in
    let yes = c.in_ok-check_new.ensures in
    given_yes _ yes
    (ap₂ (λ (s : FixedBitSet) (w : List ℕ). record { number = 0; set = s; words = w }) c.new.ensures
    (c.change_blocks.ensures ∙ ap (λ (n : ℕ). swept 0 n zeroed a.words.now) c.blocks_of.ensures
    ∙ zeroed_write a.bits a.words.now (room _ _ (sym yes)).enough))
