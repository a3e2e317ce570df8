-- The positions of a part, and a step of one of two parts as the code takes it.
use Rattle.std.specs.Prelude.{Bool, true, false, cond, not, List, ℕ}
use Rattle.sets.specs.Members.{Members, bit_of}
use Rattle.parts.specs.Selections.{Selection, selected}
use Rattle.parts.specs.Steps.{front, back}
use Rattle.parts.specs.declared.records.End.{End}
use Rattle.parts.specs.declared.records.End.TheVariants.{Front, Back}
use Rattle.parts.specs.declared.records.Step.{Step}
use Rattle.sets.specs.declared.answers.Part.{Part}
use Rattle.walks.specs.Rules.{or_else}
use Rattle.walks.specs.declared.answers.PairStep.{PairStep}
use Rattle.walks.specs.declared.rows.RowStep.{RowStep}

-- what the selection gives of the first set, given the second
abbrev pub chosen : Selection → Members → Members → ℕ → Bool
chosen selection a b p = selected selection (a.has p) (b.has p)

-- and of the first words, given the second
abbrev pub row_of : Selection → List ℕ → List ℕ → ℕ → Bool
row_of selection ws vs p = selected selection (bit_of ws p) (bit_of vs p)

-- the steps of both, the one tried first in front; `second` tells whether that is the second part's
abbrev pub tried : Bool → Step → Step → RowStep
tried second s t = or_else s.at (record { second = second; at = s.at; part = s.part }) (record { second = not second; at = t.at; part = t.part })

abbrev pub row_step : End → (ℕ → Bool) → (ℕ → Bool) → Part → Part → RowStep
row_step Front f g one two = tried false (front f one) (front g two)
row_step Back f g one two = tried true (back g two) (back f one)

-- the part that was stepped has the record after the step, the other its own
abbrev pub placed : Part → Part → RowStep → PairStep
placed one two r = record { at = r.at; one = cond r.second one r.part; two = cond r.second r.part two }
