use mathlib.Core.Path.{sym, ◌∙◌}
use native.Mathlib.Omega.{arith}
use Rattle.pair_listings.proofs.UnpairedLaws.{searching_found, searching_over}
use Rattle.pair_listings.proofs.unpaired.first_unpaired.Goals as goal

pub returns-then-is_unpaired : goal.returns-then-is_unpaired
returns-then-is_unpaired c =
    searching_found _ _ _ c.loop-p.invariant c.loop-p.auto.p c.loop-p-test.true (sym c.is_unpaired.ensures ∙ c.if-is_unpaired.true)

pub returns : goal.returns
returns c = searching_over _ _ _ c.loop-p.invariant (omega (arith, c.loop-p-test.false))
