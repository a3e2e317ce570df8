-- The rule of each call that gives many positions: a over ws, b over vs. A call asks what a step of its walk asks.
use Rattle.std.specs.Prelude.{Bool, not, ◌&&◌, List, ◌++◌, ℕ, length, drop}
use Rattle.sets.specs.Members.{read}
use Rattle.sets.specs.Outcomes.{given}
use Rattle.sets.specs.Questions.{part_questions, two_questions, pair_questions}
use Rattle.sets.specs.declared.answers.Part.{Part}
use Rattle.sets.specs.declared.fixed_bit_set.FixedBitSet.{FixedBitSet}
use Rattle.walks.specs.Rules.{without}
use Rattle.next_many.specs.Many.{Many, front_steps, ManyPair, front_pairs}
use Rattle.next_many.specs.declared.answers.NextMany.{NextMany}
use Rattle.next_many.specs.declared.answers.NextManyPair.{NextManyPair}

-- of a call over one part: its number, how many positions, the record after them, and the buffer after it
pub record ManyOutcome : Type 0 where
  pub number : ℕ
  pub count : ℕ
  pub part : Part
  pub out : List ℕ

abbrev pub many_outcome : NextMany → List ℕ → ManyOutcome
many_outcome r out = record { number = r.number; count = r.count; part = r.part; out = out }

-- the positions of the steps stand at the start of the buffer, and its later words are as they were
abbrev pub written : List ℕ → Many → ManyOutcome
written out m = record { number = 0; count = length m.positions; part = m.part; out = m.positions ++ drop (length m.positions) out }

-- as many front steps as the buffer has words; refused, nothing is written and the record is as handed in
abbrev pub many : ℕ → (ℕ → Bool) → Part → List ℕ → ManyOutcome
many n has part out = given n (λ m. record { number = m; count = 0; part = part; out = out }) (written out (front_steps (length out) has part))

abbrev pub ones_next_many_rule : FixedBitSet → List ℕ → Part → List ℕ → ManyOutcome
ones_next_many_rule set ws part out = many (part_questions set ws part) (read ws set).has part out

abbrev pub zeroes_next_many_rule : FixedBitSet → List ℕ → Part → List ℕ → ManyOutcome
zeroes_next_many_rule set ws part out = many (part_questions set ws part) (λ p. not ((read ws set).has p)) part out

abbrev pub intersection_next_many_rule : FixedBitSet → List ℕ → FixedBitSet → List ℕ → Part → List ℕ → ManyOutcome
intersection_next_many_rule a ws b vs part out = many (two_questions a ws b vs part) (λ p. (read ws a).has p && (read vs b).has p) part out

abbrev pub difference_next_many_rule : FixedBitSet → List ℕ → FixedBitSet → List ℕ → Part → List ℕ → ManyOutcome
difference_next_many_rule a ws b vs part out = many (two_questions a ws b vs part) (λ p. (read ws a).has p && not ((read vs b).has p)) part out

-- the same of a call over two parts
pub record ManyPairOutcome : Type 0 where
  pub number : ℕ
  pub count : ℕ
  pub one : Part
  pub two : Part
  pub out : List ℕ

abbrev pub many_pair_outcome : NextManyPair → List ℕ → ManyPairOutcome
many_pair_outcome r out = record { number = r.number; count = r.count; one = r.one; two = r.two; out = out }

abbrev pub written_pair : List ℕ → ManyPair → ManyPairOutcome
written_pair out m = record { number = 0; count = length m.positions; one = m.one; two = m.two; out = m.positions ++ drop (length m.positions) out }

abbrev pub many_pair : ℕ → (ℕ → Bool) → (ℕ → Bool) → Part → Part → List ℕ → ManyPairOutcome
many_pair n f g one two out =
    given n (λ m. record { number = m; count = 0; one = one; two = two; out = out }) (written_pair out (front_pairs (length out) f g one two))

abbrev pub union_next_many_rule : FixedBitSet → List ℕ → FixedBitSet → List ℕ → Part → Part → List ℕ → ManyPairOutcome
union_next_many_rule a ws b vs one two out = many_pair (pair_questions a ws b vs one two) (read ws a).has (without (read vs b) (read ws a)) one two out

abbrev pub symmetric_difference_next_many_rule : FixedBitSet → List ℕ → FixedBitSet → List ℕ → Part → Part → List ℕ → ManyPairOutcome
symmetric_difference_next_many_rule a ws b vs one two out =
    many_pair (pair_questions a ws b vs one two) (without (read ws a) (read vs b)) (without (read vs b) (read ws a)) one two out
