-- The rule of each step of a walk: a over ws, b over vs.
use Rattle.std.specs.Prelude.{Bool, not, ◌&&◌, List, ℕ}
use Rattle.sets.specs.Members.{read, Members}
use Rattle.sets.specs.Outcomes.{given}
use Rattle.sets.specs.Refusals.{answer_of}
use Rattle.sets.specs.declared.refusal.Refusal.{Refusal}
use Rattle.sets.specs.Questions.{part_questions, two_questions, pair_questions}
use Rattle.sets.specs.declared.fixed_bit_set.FixedBitSet.{FixedBitSet}
use Rattle.std.specs.Prelude.{None, Some}
use Rattle.parts.specs.Steps.{front, back}
use Rattle.parts.specs.declared.records.End.{End}
use Rattle.parts.specs.declared.records.End.TheVariants.{Front, Back}
use Rattle.sets.specs.declared.answers.Part.{Part}
use Rattle.parts.specs.declared.records.Step.{Step}
use Rattle.std.specs.Prelude.{Option, Result}
use Rattle.walks.specs.declared.answers.PairStep.{PairStep}

-- at first 0 and L
abbrev pub first_part : FixedBitSet → Part
first_part set = record { low = 0; high = set.length }

-- what a step gives: a number, a position or none, and the record of the part after it
pub record Stepped : Type 0 where
  pub number : ℕ
  pub at : Option ℕ
  pub part : Part

-- refused, none and the record as handed in; else what the step gives
abbrev pub taken : Step → Stepped
taken s = record { number = 0; at = s.at; part = s.part }

abbrev pub stepped_of : Part → Result Step Refusal → Stepped
stepped_of part = answer_of (λ m. record { number = m; at = None; part = part }) taken

abbrev pub stepped : ℕ → Part → Step → Stepped
stepped n part s = given n (λ m. record { number = m; at = None; part = part }) (taken s)

-- `ones`: members of A, rising
abbrev pub ones_next_rule : FixedBitSet → List ℕ → Part → Stepped
ones_next_rule set ws part = stepped (part_questions set ws part) part (front (read ws set).has part)

abbrev pub ones_next_back_rule : FixedBitSet → List ℕ → Part → Stepped
ones_next_back_rule set ws part = stepped (part_questions set ws part) part (back (read ws set).has part)

-- `zeroes`: non-members below L, rising, front steps only
abbrev pub zeroes_next_rule : FixedBitSet → List ℕ → Part → Stepped
zeroes_next_rule set ws part = stepped (part_questions set ws part) part (front (λ p. not ((read ws set).has p)) part)

-- `intersection`, `difference`: members of A that are, or are not, in B, rising
abbrev pub intersection_next_rule : FixedBitSet → List ℕ → FixedBitSet → List ℕ → Part → Stepped
intersection_next_rule a ws b vs part = stepped (two_questions a ws b vs part) part (front (λ p. (read ws a).has p && (read vs b).has p) part)

abbrev pub intersection_next_back_rule : FixedBitSet → List ℕ → FixedBitSet → List ℕ → Part → Stepped
intersection_next_back_rule a ws b vs part = stepped (two_questions a ws b vs part) part (back (λ p. (read ws a).has p && (read vs b).has p) part)

abbrev pub difference_next_rule : FixedBitSet → List ℕ → FixedBitSet → List ℕ → Part → Stepped
difference_next_rule a ws b vs part = stepped (two_questions a ws b vs part) part (front (λ p. (read ws a).has p && not ((read vs b).has p)) part)

abbrev pub difference_next_back_rule : FixedBitSet → List ℕ → FixedBitSet → List ℕ → Part → Stepped
difference_next_back_rule a ws b vs part = stepped (two_questions a ws b vs part) part (back (λ p. (read ws a).has p && not ((read vs b).has p)) part)

-- the part that is tried first decides where it gives a position, else the other
abbrev pub or_else : {A : Type 0} → Option ℕ → A → A → A
or_else (Some p) x y = x
or_else None x y = y

-- a front step tries the first part, then the second; a back step the second, then the first
abbrev pub pair_step : End → (ℕ → Bool) → (ℕ → Bool) → Part → Part → PairStep
pair_step Front f g one two = or_else (front f one).at
    (record { at = (front f one).at; one = (front f one).part; two = two })
    (record { at = (front g two).at; one = one; two = (front g two).part })
pair_step Back f g one two = or_else (back g two).at
    (record { at = (back g two).at; one = one; two = (back g two).part })
    (record { at = (back f one).at; one = (back f one).part; two = two })

-- the same of two parts
pub record SteppedPair : Type 0 where
  pub number : ℕ
  pub at : Option ℕ
  pub one : Part
  pub two : Part

-- refused, none and both records as handed in; else what the step gives
abbrev pub taken_pair : PairStep → SteppedPair
taken_pair s = record { number = 0; at = s.at; one = s.one; two = s.two }

abbrev pub stepped_pair_of : Part → Part → Result PairStep Refusal → SteppedPair
stepped_pair_of one two = answer_of (λ m. record { number = m; at = None; one = one; two = two }) taken_pair

abbrev pub stepped_pair : ℕ → Part → Part → PairStep → SteppedPair
stepped_pair n one two s = given n (λ m. record { number = m; at = None; one = one; two = two }) (taken_pair s)

-- the members of the first that are not in the second
abbrev pub without : Members → Members → ℕ → Bool
without s o p = s.has p && not (o.has p)

-- `union`: members of A rising, then members of B not in A rising
abbrev pub union_next_rule : FixedBitSet → List ℕ → FixedBitSet → List ℕ → Part → Part → SteppedPair
union_next_rule a ws b vs one two = stepped_pair (pair_questions a ws b vs one two) one two (pair_step Front (read ws a).has (without (read vs b) (read ws a)) one two)

abbrev pub union_next_back_rule : FixedBitSet → List ℕ → FixedBitSet → List ℕ → Part → Part → SteppedPair
union_next_back_rule a ws b vs one two = stepped_pair (pair_questions a ws b vs one two) one two (pair_step Back (read ws a).has (without (read vs b) (read ws a)) one two)

-- `symmetric_difference`: A without B rising, then B without A rising
abbrev pub symmetric_difference_next_rule : FixedBitSet → List ℕ → FixedBitSet → List ℕ → Part → Part → SteppedPair
symmetric_difference_next_rule a ws b vs one two =
    stepped_pair (pair_questions a ws b vs one two) one two (pair_step Front (without (read ws a) (read vs b)) (without (read vs b) (read ws a)) one two)

abbrev pub symmetric_difference_next_back_rule : FixedBitSet → List ℕ → FixedBitSet → List ℕ → Part → Part → SteppedPair
symmetric_difference_next_back_rule a ws b vs one two =
    stepped_pair (pair_questions a ws b vs one two) one two (pair_step Back (without (read ws a) (read vs b)) (without (read vs b) (read ws a)) one two)
