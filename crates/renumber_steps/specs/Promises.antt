-- What an accepted renumbering promises: the counts, and the way back.
use Rattle.std.specs.Prelude.{◌≡◌, true, false, List, ℕ, ◌≤◌, length, take, drop}
use Rattle.word_bits.specs.Counts.{count}
use Rattle.sets.specs.Members.{Members, words_of, read}
use Rattle.sets.specs.Questions.{positions_question}
use Rattle.sets.specs.Outcomes.{Outcome, given}
use Rattle.sets.specs.declared.fixed_bit_set.FixedBitSet.{FixedBitSet}
use Rattle.sets.specs.declared.answers.Told.{Told}
use Rattle.comparisons.specs.Rules.{eq_rule}
use Rattle.renumber_steps.specs.Pairs.{olds, swapped}
use Rattle.renumber_steps.specs.Rules.{renumber_rule}
use Rattle.renumber_steps.specs.declared.pair.Pair.{Pair}

-- how many members a set has
abbrev pub size : Members → ℕ
size s = count s.len s.has

-- the set that a call leaves
abbrev pub leaves : Outcome → Members
leaves o = read o.words o.set

module _ (set : FixedBitSet) (ws : List ℕ) (pairs : List Pair) (n : ℕ) (vs : List ℕ) where
  -- the counts of both sets are equal
  abbrev pub SameCount : Type 0
  SameCount = (renumber_rule set ws pairs n vs).number ≡ 0 → size (leaves (renumber_rule set ws pairs n vs)) ≡ size (read ws set)

  -- the result, renumbered with every pair swapped to the old length, into a buffer us
  abbrev pub way_back : List ℕ → Outcome
  way_back us = renumber_rule (renumber_rule set ws pairs n vs).set (renumber_rule set ws pairs n vs).words (swapped pairs) set.length us

  -- the way back is accepted and gives the old set: its length, exactly its W words, and the words after them as they were
  pub record Restored (us : List ℕ) : Type 0 where
    pub accepted : (way_back us).number ≡ 0
    pub same_set : (way_back us).set ≡ set
    pub same_words : take (words_of set.length) (way_back us).words ≡ take (words_of set.length) ws
    pub rest : drop (words_of set.length) (way_back us).words ≡ drop (words_of set.length) us

  -- so it is where every old offset of the list is below the old length and the buffer has its words; an old offset that is not refuses it with 4
  pub record WayBack (us : List ℕ) : Type 0 where
    pub restored : positions_question set (olds pairs) ≡ 0 → Restored us
    pub beyond : (positions_question set (olds pairs) ≡ 0 → ⊥) → (way_back us).number ≡ 4

-- whether the set that a call leaves is the old one
unfoldable pub came_back : FixedBitSet → List ℕ → Outcome → Told
came_back set ws o = given o.number (λ m. record { number = m; yes = false }) (eq_rule set ws o.set o.words)

-- `renumber`, then the way back: what both calls leave, and what is told
pub record AndBack (set : FixedBitSet) (ws : List ℕ) (pairs : List Pair) (n : ℕ) (vs us : List ℕ) (r : Told) (vs₁ us₁ : List ℕ) : Type 0 where
  pub told : r ≡ given (renumber_rule set ws pairs n vs).number (λ m. record { number = m; yes = false }) (came_back set ws (way_back set ws pairs n vs us))
  pub out : vs₁ ≡ (renumber_rule set ws pairs n vs).words
  pub again : us₁ ≡ given (renumber_rule set ws pairs n vs).number (λ m. us) (way_back set ws pairs n vs us).words
  -- accepted, with every old offset of the list below the old length and room for its words, it says yes
  pub yes : (renumber_rule set ws pairs n vs).number ≡ 0 → positions_question set (olds pairs) ≡ 0 → words_of set.length ≤ length us
      → r ≡ record { number = 0; yes = true }
