use mathlib.Core.Path.{sym, ◌∙◌}
use mathlib.Core.Bool.{true}
use native.Mathlib.Omega.{arith}
use Rattle.std.proofs.lemmas.Option.{cond_some, none-some}
use Rattle.parts.proofs.PartLaws.{back_found, back_lacks}
use Rattle.parts.proofs.steps.back_step.Goals as goal

pub returns-in-Some : goal.returns-in-Some
returns-in-Some g c = back_found _ c.args.part _ (sym c.back_selected.ensures ∙ c.in-Some.is) c.if-low-p.true

pub returns-in_default : goal.returns-in_default
returns-in_default g c =
    back_lacks _ c.args.part (λ r e. omega (arith, (cond_some true r _ (sym e ∙ sym c.back_selected.ensures ∙ c.in-Some.is)).1, c.if-low-p.false))

pub returns-in_default-2 : goal.returns-in_default-2
returns-in_default-2 g c =
    back_lacks _ c.args.part (λ r e. absurd (none-some r (sym c.in_default.is ∙ c.back_selected.ensures ∙ e)))
