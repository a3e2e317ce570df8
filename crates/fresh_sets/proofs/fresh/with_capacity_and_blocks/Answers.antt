use mathlib.Core.Path.{sym, ap₂, ◌∙◌}
use mathlib.Core.List.{List}
use Prim.Native.Nat.{ℕ}
use Rattle.sets.specs.Members.{read}
use Rattle.sets.specs.declared.fixed_bit_set.FixedBitSet.{FixedBitSet}
use Rattle.sets.proofs.OutcomeLaws.{given_yes}
use Rattle.sets.proofs.RefusalLaws.{edit_refused}
use Rattle.sets.proofs.QuestionLaws.{room}
use Rattle.fresh_sets.proofs.fresh.with_capacity_and_blocks.Goals as goal

pub returns-in_err-check_new : goal.returns-in_err-check_new
returns-in_err-check_new c = edit_refused _ _ _ _ _ c.from_residual.ensures.1 c.in_err-check_new.ensures

pub fill_from-requires : goal.fill_from-requires
fill_from-requires c = (room _ _ (sym c.in_ok-check_new.ensures)).enough

pub returns : goal.returns
unfolding read
returns c =
    given_yes _ (c.in_ok-check_new.ensures)
    (ap₂ (λ (s : FixedBitSet) (w : List ℕ). record { number = 0; set = s; words = w }) c.new.ensures c.fill_from.ensures)
