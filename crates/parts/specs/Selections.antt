-- Which positions of one set a part of a walk is, given another set.
use Rattle.std.specs.Prelude.{Bool, not, ◌&&◌}

-- members, non-members, members that are in the other set, members that are not
pub data Selection : Type 0 where
  Ones : Selection
  Zeroes : Selection
  Intersection : Selection
  Difference : Selection

abbrev pub selected : Selection → Bool → Bool → Bool
selected Ones a b = a
selected Zeroes a b = not a
selected Intersection a b = a && b
selected Difference a b = a && not b
