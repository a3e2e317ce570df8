-- A walk with any mix of single steps and of calls that give many positions.
use Rattle.std.specs.Prelude.{◌≡◌, Bool, List, [], ◌∷◌, ◌++◌, reverse, ℕ, zero, suc, ◌+◌, min, length}
use Rattle.sets.specs.Members.{Members, set_of}
use Rattle.sets.specs.Outcomes.{position_of}
use Rattle.sets.specs.declared.answers.Part.{Part}
use Rattle.parts.specs.declared.records.End.{End}
use Rattle.parts.specs.declared.records.End.TheVariants.{Front, Back}
use Rattle.walks.specs.Rules.{first_part, pair_step}
use Rattle.whole_walks.specs.Walks.{walk_list, first_row, second_row}
use Rattle.whole_walks.specs.declared.walk.Walk.{Walk}
use Rattle.next_many.specs.Many.{front_pairs}

-- a step at either end, or a call with a buffer of n words
pub data Taking : Type 0 where
  single : End → Taking
  many : ℕ → Taking

-- the positions given at the front, and at the back, in the order given: each step and each call takes the records that the one before it gave
unfoldable pub fronts_of : (ℕ → Bool) → (ℕ → Bool) → List Taking → Part → Part → List ℕ
fronts_of f g [] one two = []
fronts_of f g (single Front ∷ ts) one two = position_of (pair_step Front f g one two).at ++ fronts_of f g ts (pair_step Front f g one two).one (pair_step Front f g one two).two
fronts_of f g (single Back ∷ ts) one two = fronts_of f g ts (pair_step Back f g one two).one (pair_step Back f g one two).two
fronts_of f g (many n ∷ ts) one two = (front_pairs n f g one two).positions ++ fronts_of f g ts (front_pairs n f g one two).one (front_pairs n f g one two).two

unfoldable pub backs_of : (ℕ → Bool) → (ℕ → Bool) → List Taking → Part → Part → List ℕ
backs_of f g [] one two = []
backs_of f g (single Front ∷ ts) one two = backs_of f g ts (pair_step Front f g one two).one (pair_step Front f g one two).two
backs_of f g (single Back ∷ ts) one two = position_of (pair_step Back f g one two).at ++ backs_of f g ts (pair_step Back f g one two).one (pair_step Back f g one two).two
backs_of f g (many n ∷ ts) one two = backs_of f g ts (front_pairs n f g one two).one (front_pairs n f g one two).two

-- the same steps one by one: a call with a buffer of n words is n front steps
abbrev pub front_times : ℕ → List End → List End
front_times zero ends = ends
front_times (suc n) ends = Front ∷ front_times n ends

abbrev pub steps_of : List Taking → List End
steps_of [] = []
steps_of (single end ∷ ts) = end ∷ steps_of ts
steps_of (many n ∷ ts) = front_times n (steps_of ts)

-- how many positions a mix asks for
abbrev pub asked : List Taking → ℕ
asked [] = 0
asked (single end ∷ ts) = suc (asked ts)
asked (many n ∷ ts) = n + asked ts

-- any of the five walks over sets A and B with any mix, from the first records on
pub record MixInOrder (walk : Walk) (a b : Members) (ts : List Taking) : Type 0 where
  -- the positions given at the front are, in order, the start of the walk's list; those given at the back are its end, last one first; `middle` is what nothing gave
  pub middle : List ℕ
  pub in_order : fronts_of (first_row walk a b) (second_row walk a b) ts (first_part (set_of a)) (first_part (set_of b)) ++ middle
      ++ reverse (backs_of (first_row walk a b) (second_row walk a b) ts (first_part (set_of a)) (first_part (set_of b))) ≡ walk_list walk a b
  -- as many as the mix asks for, or all of them
  pub gives : length (fronts_of (first_row walk a b) (second_row walk a b) ts (first_part (set_of a)) (first_part (set_of b)))
      + length (backs_of (first_row walk a b) (second_row walk a b) ts (first_part (set_of a)) (first_part (set_of b))) ≡ min (asked ts) (length (walk_list walk a b))
