-- What a walk with any mix of front and back steps has to answer.
use Rattle.std.specs.Prelude.{◌≡◌, Bool, true, false, ◌&&◌, List, [], ◌∷◌, ◌++◌, reverse, ℕ, ◌+◌, ◌<◌, eqb, ltb, length, get_or, take}
use Rattle.word_bits.specs.Digits.{one}
use Rattle.sets.specs.Members.{Members}
use Rattle.sets.specs.Outcomes.{position_of}
use Rattle.std.specs.Prelude.{Option}
use Rattle.std.specs.Prelude.{Some, None}
use Rattle.parts.specs.declared.records.End.{End}
use Rattle.parts.specs.declared.records.End.TheVariants.{Front, Back}
use Rattle.whole_walks.specs.Walks.{walk_list, first_list, second_list, wanted}
use Rattle.whole_walks.specs.declared.walk.Walk.{Walk}

abbrev pub is_nothing : Option ℕ → Bool
is_nothing (Some p) = false
is_nothing None = true

-- the positions given at the front, and at the back, in the order given
abbrev pub fronts : List End → List (Option ℕ) → List ℕ
fronts (Front ∷ ends) (x ∷ xs) = position_of x ++ fronts ends xs
fronts (Back ∷ ends) (x ∷ xs) = fronts ends xs
fronts [] xs = []
fronts (Front ∷ ends) [] = []
fronts (Back ∷ ends) [] = []

abbrev pub backs : List End → List (Option ℕ) → List ℕ
backs (Front ∷ ends) (x ∷ xs) = backs ends xs
backs (Back ∷ ends) (x ∷ xs) = position_of x ++ backs ends xs
backs [] xs = []
backs (Front ∷ ends) [] = []
backs (Back ∷ ends) [] = []

-- how many positions the answers gave, at both ends together
abbrev pub gave : List (Option ℕ) → ℕ
gave [] = 0
gave (x ∷ xs) = length (position_of x) + gave xs

-- how often p stands in a list
abbrev pub occurrences : ℕ → List ℕ → ℕ
occurrences p [] = 0
occurrences p (q ∷ qs) = one (eqb p q) + occurrences p qs

-- each position is above the one before it
abbrev pub rising : List ℕ → Bool
rising [] = true
rising (p ∷ []) = true
rising (p ∷ q ∷ qs) = ltb p q && rising (q ∷ qs)

pub record Walked (walk : Walk) (a b : Members) (ends : List End) (xs : List (Option ℕ)) (count : ℕ) : Type 0 where
  -- every step has an answer
  pub answered : length xs ≡ length ends
  -- the positions given at the front are, in order, the start of the walk's list; those given at the back are its end, last one first; `middle` is what no step gave
  pub middle : List ℕ
  pub in_order : fronts ends xs ++ middle ++ reverse (backs ends xs) ≡ walk_list walk a b
  -- the list has exactly the positions that belong in it, each once
  pub exactly : (p : ℕ) → occurrences p (walk_list walk a b) ≡ one (wanted walk a b p)
  -- and each part rises
  pub parts : first_list walk a b ++ second_list walk a b ≡ walk_list walk a b
  pub rises : (rising (first_list walk a b) ≡ true) × (rising (second_list walk a b) ≡ true)
  -- a step answers none exactly when the steps before it, at both ends together, gave as many positions as the count reports
  pub none : (k : ℕ) → k < length ends → is_nothing (get_or xs k None) ≡ eqb (gave (take k xs)) count
  -- the count is the list's length
  pub count_right : count ≡ length (walk_list walk a b)
