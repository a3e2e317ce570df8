use mathlib.Core.Path.{refl}
use mathlib.Core.Bool.{xor}
use Rattle.operations.proofs.join.SymmetricDifferenceJoin.second_alone.Goals as goal

pub returns : goal.returns
unfolding xor
returns c = refl
