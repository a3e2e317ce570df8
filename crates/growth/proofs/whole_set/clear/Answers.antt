use mathlib.Core.Path.{sym, ap, ◌∙◌}
use Prim.Native.Nat.{ℕ}
use Rattle.blocks.specs.Sweeps.{swept}
use Rattle.sets.proofs.OutcomeLaws.{given_yes}
use Rattle.sets.proofs.QuestionLaws.{valid}
use Rattle.sets.proofs.RefusalLaws.{edit_refused}
use Rattle.blocks.proofs.BlockLaws.{zeroed}
use Rattle.sets.proofs.ReadLaws.{changed-outcome}
use Rattle.growth.proofs.GrowthLaws.{cleared-write}
use Rattle.growth.proofs.whole_set.clear.Goals as goal

pub returns-in_err-check : goal.returns-in_err-check
returns-in_err-check c = edit_refused _ _ _ _ _ c.from_residual.ensures.1 c.in_err-check.ensures

pub returns : goal.returns
returns c =
    let ws = c.args.words.now in
    let yes = c.in_ok-check.ensures in
    given_yes _ yes
    (changed-outcome _ ws _ _
    (c.change_blocks.ensures ∙ ap (λ (n : ℕ). swept 0 n zeroed ws) c.blocks_of.ensures ∙ cleared-write _ _ (valid _ _ (sym yes))))
