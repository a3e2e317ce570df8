-- The five walks over sets A and B: their lists, and the answers to steps from the first records on.
use Rattle.std.specs.Prelude.{Bool, false, not, ◌&&◌, ◌||◌, List, [], ◌∷◌, ℕ}
use Rattle.std.specs.Bool.{xor}
use Rattle.sets.specs.Members.{Members, set_of}
use Rattle.sets.specs.declared.answers.Part.{Part}
use Rattle.std.specs.Prelude.{Option}
use Rattle.two_set_counts.specs.Lists.{positions, ones_list, intersection_list, difference_list, union_list, symmetric_difference_list}
use Rattle.parts.specs.declared.records.End.{End}
use Rattle.walks.specs.Rules.{first_part, pair_step, without}
use Rattle.whole_walks.specs.declared.walk.Walk.{Walk}
use Rattle.whole_walks.specs.declared.walk.Walk.TheVariants.{Ones, Intersection, Difference, Union, SymmetricDifference}

-- the walk's list
abbrev pub walk_list : Walk → Members → Members → List ℕ
walk_list Ones a b = ones_list a
walk_list Intersection a b = intersection_list a b
walk_list Difference a b = difference_list a b
walk_list Union a b = union_list a b
walk_list SymmetricDifference a b = symmetric_difference_list a b

-- the positions of its first part, over the first set
abbrev pub first_row : Walk → Members → Members → ℕ → Bool
first_row Ones a b = a.has
first_row Intersection a b = λ p. a.has p && b.has p
first_row Difference a b = without a b
first_row Union a b = a.has
first_row SymmetricDifference a b = without a b

-- and of its second, over the second set; a walk of one part has none there
abbrev pub second_row : Walk → Members → Members → ℕ → Bool
second_row Ones a b = λ p. false
second_row Intersection a b = λ p. false
second_row Difference a b = λ p. false
second_row Union a b = without b a
second_row SymmetricDifference a b = without b a

-- each as a rising list
abbrev pub first_list : Walk → Members → Members → List ℕ
first_list walk a b = positions a.len (first_row walk a b)

abbrev pub second_list : Walk → Members → Members → List ℕ
second_list walk a b = positions b.len (second_row walk a b)

-- which positions belong in it: members of A; in both; in A and not in B; in A or B; in one and not in the other
abbrev pub wanted : Walk → Members → Members → ℕ → Bool
wanted Ones a b p = a.has p
wanted Intersection a b p = a.has p && b.has p
wanted Difference a b p = a.has p && not (b.has p)
wanted Union a b p = a.has p || b.has p
wanted SymmetricDifference a b p = xor (a.has p) (b.has p)

-- the answers to a list of steps of two parts: each takes the records that the one before gave
unfoldable pub answers_from : (ℕ → Bool) → (ℕ → Bool) → List End → Part → Part → List (Option ℕ)
answers_from f g [] one two = []
answers_from f g (end ∷ ends) one two =
    (pair_step end f g one two).at ∷ answers_from f g ends (pair_step end f g one two).one (pair_step end f g one two).two

-- the first step takes each part's record as it is at first
abbrev pub answers : Walk → Members → Members → List End → List (Option ℕ)
answers walk a b ends = answers_from (first_row walk a b) (second_row walk a b) ends (first_part (set_of a)) (first_part (set_of b))
