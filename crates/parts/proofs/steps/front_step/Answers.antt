use mathlib.Core.Path.{sym, ◌∙◌}
use mathlib.Core.Bool.{true}
use native.Mathlib.Omega.{arith}
use Rattle.std.proofs.lemmas.Option.{cond_some, none-some}
use Rattle.parts.proofs.PartLaws.{front-found, front_lacks}
use Rattle.parts.proofs.steps.front_step.Goals as goal

pub returns-in-Some : goal.returns-in-Some
returns-in-Some g c = front-found _ c.args.part _ (sym c.front_selected.ensures ∙ c.in-Some.is) c.if-p-high.true

pub returns-in_default : goal.returns-in_default
returns-in_default g c =
    front_lacks _ c.args.part (λ r e. omega (arith, (cond_some true r _ (sym e ∙ sym c.front_selected.ensures ∙ c.in-Some.is)).1, c.if-p-high.false))

pub returns-in_default-2 : goal.returns-in_default-2
returns-in_default-2 g c =
    front_lacks _ c.args.part (λ r e. absurd (none-some r (sym c.in_default.is ∙ c.front_selected.ensures ∙ e)))
