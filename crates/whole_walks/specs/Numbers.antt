-- The walks by their numbers.
use Rattle.std.specs.Prelude.{cond, ℕ, eqb}
use Rattle.whole_walks.specs.declared.walk.Walk.{Walk}
use Rattle.whole_walks.specs.declared.walk.Walk.TheVariants.{Ones, Intersection, Difference, Union, SymmetricDifference}

-- the numbers 0 to 4 name the walks in this order
abbrev pub walk_of : ℕ → Walk
walk_of n = cond (eqb n 0) Ones (cond (eqb n 1) Intersection (cond (eqb n 2) Difference (cond (eqb n 3) Union SymmetricDifference)))
