-- What the steps of a whole walk run on.
use Rattle.std.specs.Prelude.{cond, ℕ, Option, Some, None}
use Rattle.sets.specs.declared.answers.Part.{Part}
use Rattle.sets.specs.declared.fixed_bit_set.FixedBitSet.{FixedBitSet}
use Rattle.parts.specs.declared.records.End.{End}
use Rattle.parts.specs.declared.records.End.TheVariants.{Front, Back}
use Rattle.parts.specs.Selections.{Selection}
use Rattle.parts.specs.Selections as Selected
use Rattle.walks.specs.Rules.{first_part}
use Rattle.walks.specs.declared.rows.RowStep.{RowStep}
use Rattle.whole_walks.specs.declared.walk.Walk.{Walk}
use Rattle.whole_walks.specs.declared.walk.Walk.TheVariants.{Ones, Intersection, Difference, Union, SymmetricDifference}
use Rattle.whole_walks.specs.declared.whole.Records.{Records}

-- the selection that gives the positions of the first part
abbrev pub selection_of : Walk → Selection
selection_of Ones = Selected.Ones
selection_of Intersection = Selected.Intersection
selection_of Difference = Selected.Difference
selection_of Union = Selected.Ones
selection_of SymmetricDifference = Selected.Difference

-- the record of a part with nothing left
abbrev pub nothing_left : Part
nothing_left = record { low = 0; high = 0 }

-- the second part's record before the first step, with nothing left where the walk has one part
abbrev pub second_part : Walk → FixedBitSet → Part
second_part Ones b = nothing_left
second_part Intersection b = nothing_left
second_part Difference b = nothing_left
second_part Union b = first_part b
second_part SymmetricDifference b = first_part b

-- the records after a step, with nothing left of a part that gave none: the one that was stepped, and before it the one tried first
abbrev pub left_of : Option ℕ → Part → Part
left_of (Some p) part = part
left_of None part = nothing_left

abbrev pub records_after : Part → Part → End → RowStep → Records
records_after one two Front r = cond r.second (record { one = nothing_left; two = left_of r.at r.part }) (record { one = left_of r.at r.part; two = two })
records_after one two Back r = cond r.second (record { one = one; two = left_of r.at r.part }) (record { one = left_of r.at r.part; two = nothing_left })
