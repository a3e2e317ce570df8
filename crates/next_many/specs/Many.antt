-- Front steps in a row: each takes the records that the one before gave.
use Rattle.std.specs.Prelude.{Bool, List, [], ◌++◌, ℕ, zero, suc}
use Rattle.sets.specs.Outcomes.{position_of}
use Rattle.sets.specs.declared.answers.Part.{Part}
use Rattle.parts.specs.Steps.{front}
use Rattle.parts.specs.declared.records.End.TheVariants.{Front}
use Rattle.walks.specs.Rules.{pair_step}

-- the positions that the steps give, in order, and the record after them
pub record Many : Type 0 where
  pub positions : List ℕ
  pub part : Part

-- n front steps of a part
unfoldable pub front_steps : ℕ → (ℕ → Bool) → Part → Many
front_steps zero has part = record { positions = []; part = part }
front_steps (suc n) has part = record {
  positions = position_of (front has part).at ++ (front_steps n has (front has part).part).positions;
  part = (front_steps n has (front has part).part).part;
}

pub record ManyPair : Type 0 where
  pub positions : List ℕ
  pub one : Part
  pub two : Part

-- n front steps of two parts
unfoldable pub front_pairs : ℕ → (ℕ → Bool) → (ℕ → Bool) → Part → Part → ManyPair
front_pairs zero f g one two = record { positions = []; one = one; two = two }
front_pairs (suc n) f g one two = record {
  positions = position_of (pair_step Front f g one two).at ++ (front_pairs n f g (pair_step Front f g one two).one (pair_step Front f g one two).two).positions;
  one = (front_pairs n f g (pair_step Front f g one two).one (pair_step Front f g one two).two).one;
  two = (front_pairs n f g (pair_step Front f g one two).one (pair_step Front f g one two).two).two;
}
