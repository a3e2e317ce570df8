-- A walk with any mix of front and back steps answers what it has to. Assumes nothing.
use mathlib.Core.Path.{◌≡◌, refl, sym, ap, ap₂, ◌∙◌}
use mathlib.Core.Bool.{Bool, false}
use mathlib.Core.List.{List, [], ◌∷◌, ◌++◌, reverse, reverse-cons, append_assoc, append-nil}
use Prim.Native.Nat.{ℕ, zero, suc, ◌+◌, ◌<◌}
use native.Mathlib.Nat.{not-suc-le-zero, le_of_suc-le-suc, zero-add, suc-add}
use native.Mathlib.Omega.{arith}
use borrow.Author.Tests.{ne_eqb}
use lib.Dec.{eqb, eqb-suc-suc}
use lib.ListN.{length, get_or, take, length-append}
use Rattle.sets.specs.Members.{Members, set_of}
use Rattle.sets.proofs.WriteLaws.{Clipped}
use Rattle.std.specs.Prelude.{Option}
use Rattle.std.specs.Prelude.{Some, None}
use Rattle.two_set_counts.specs.Lists.{positions, ones_list, intersection_list, difference_list}
use Rattle.parts.specs.declared.records.End.{End}
use Rattle.parts.specs.declared.records.End.TheVariants.{Front, Back}
use Rattle.sets.specs.declared.answers.Part.{Part}
use Rattle.walks.specs.Rules.{first_part, pair_step}
use Rattle.whole_walks.specs.Walks.{walk_list, first_row, second_row, first_list, second_list, answers_from, answers}
use Rattle.whole_walks.specs.Walked.{is_nothing, fronts, backs, Walked, gave}
use Rattle.sets.specs.Outcomes.{position_of}
use Rattle.whole_walks.specs.declared.walk.Walk.{Walk}
use Rattle.whole_walks.specs.declared.walk.Walk.TheVariants.{Ones, Intersection, Difference, Union, SymmetricDifference}
use Rattle.whole_walks.proofs.PartSteps.{Taken}
use Rattle.whole_walks.proofs.PartLists.{left_first}
use Rattle.whole_walks.proofs.WalkSteps.{both_left, row-good}
use Rattle.whole_walks.proofs.Occurrences.{exact, rises}

eqb-add : (c m n : ℕ) → eqb (c + m) (c + n) ≡ eqb m n
eqb-add zero m n = ap₂ eqb (zero-add m) (zero-add n)
eqb-add (suc c) m n = ap₂ eqb (suc-add c m) (suc-add c n) ∙ eqb-suc-suc (c + m) (c + n) ∙ eqb-add c m n

-- ---- steps from any records on: the list left before them, by what they gave

record Run (ends : List End) (xs : List (Option ℕ)) (whole : List ℕ) : Type 0 where
  answered : length xs ≡ length ends
  middle : List ℕ
  in_order : fronts ends xs ++ middle ++ reverse (backs ends xs) ≡ whole
  none : (k : ℕ) → k < length ends → is_nothing (get_or xs k None) ≡ eqb (gave (take k xs)) (length whole)

-- one step, and those after it
module _ (whole rest : List ℕ) where
  taken-length : (x : Option ℕ) (end : End) → Taken x end whole rest → length whole ≡ length (position_of x) + length rest
  taken-length (Some p) Front t = ap length t ∙ omega arith
  taken-length (Some p) Back t = ap length t ∙ length-append rest (p ∷ []) ∙ omega arith
  taken-length None end t = omega (arith, ap length t.0, ap length t.1)

  taken_none : (x : Option ℕ) (end : End) → Taken x end whole rest → is_nothing x ≡ eqb 0 (length whole)
  taken_none (Some p) end t = sym (ne_eqb 0 (length whole) (λ e. omega (arith, taken-length (Some p) end t)))
  taken_none None end t = sym (ap (λ (ys : List ℕ). eqb 0 (length ys)) t.0)

  module _ (ends : List End) (xs : List (Option ℕ)) where
    ordered : (x : Option ℕ) (end : End) → Taken x end whole rest → (middle : List ℕ) → fronts ends xs ++ middle ++ reverse (backs ends xs) ≡ rest
        → fronts (end ∷ ends) (x ∷ xs) ++ middle ++ reverse (backs (end ∷ ends) (x ∷ xs)) ≡ whole
    ordered (Some p) Front t middle e = ap (λ (ys : List ℕ). p ∷ ys) e ∙ sym t
    ordered (Some p) Back t middle e =
        ap (λ (ys : List ℕ). fronts ends xs ++ middle ++ ys) (reverse-cons p (backs ends xs))
        ∙ sym (append_assoc (fronts ends xs ++ middle) (reverse (backs ends xs)) (p ∷ [])) ∙ ap (λ (ys : List ℕ). ys ++ (p ∷ [])) e ∙ sym t
    ordered None Front t middle e = e ∙ t.1 ∙ sym t.0
    ordered None Back t left e = e ∙ t.1 ∙ sym t.0

    one_more : (x : Option ℕ) (end : End) → Taken x end whole rest → Run ends xs rest → Run (end ∷ ends) (x ∷ xs) whole
    one_more x end t r = record { answered = ap suc r.answered; middle = r.middle; in_order = ordered x end t r.middle r.in_order; none = go }
      where
        go : (k : ℕ) → k < suc (length ends) → is_nothing (get_or (x ∷ xs) k None) ≡ eqb (gave (take k (x ∷ xs))) (length whole)
        go zero l = taken_none x end t
        go (suc k) l =
            r.none k (le_of_suc-le-suc l)
            ∙ sym (ap (eqb (length (position_of x) + gave (take k xs))) (taken-length x end t) ∙ eqb-add (length (position_of x)) (gave (take k xs)) (length rest))

module _ (f g : ℕ → Bool) where
  run : (ends : List End) (one two : Part) → Run ends (answers_from f g ends one two) (both_left f g one two)
  unfolding answers_from
  run [] one two = record { answered = refl; middle = both_left f g one two; in_order = append-nil (both_left f g one two); none = λ k l. absurd (not-suc-le-zero l) }
  run (end ∷ ends) one two =
      let s = pair_step end f g one two in
      one_more (both_left f g one two) (both_left f g s.one s.two) ends (answers_from f g ends s.one s.two)
      s.at end (row-good f g one two end).0 (run ends s.one s.two)

-- ---- the lists, by their parts

no_positions : (n : ℕ) → positions n (λ p. false) ≡ []
unfolding positions
no_positions zero = refl
no_positions (suc n) = append-nil (positions n (λ p. false)) ∙ no_positions n

module _ (a b : Members) where
  -- a walk of one part
  alone : (xs : List ℕ) → xs ++ positions b.len (λ p. false) ≡ xs
  alone xs = ap (λ (ys : List ℕ). xs ++ ys) (no_positions b.len) ∙ append-nil xs

  in_parts : (walk : Walk) → first_list walk a b ++ second_list walk a b ≡ walk_list walk a b
  in_parts Ones = alone (ones_list a)
  in_parts Intersection = alone (intersection_list a b)
  in_parts Difference = alone (difference_list a b)
  in_parts Union = refl
  in_parts SymmetricDifference = refl

pub walked : (walk : Walk) (a b : Members) → Clipped a → Clipped b → (ends : List End) → Walked walk a b ends (answers walk a b ends) (length (walk_list walk a b))
walked walk a b ca cb ends =
    let f = first_row walk a b in
    let g = second_row walk a b in
    let whole = ap₂ ◌++◌ (left_first a f) (left_first b g) ∙ in_parts a b walk in
    let r : Run ends (answers walk a b ends) (walk_list walk a b) = rw whole at (run f g ends (first_part (set_of a)) (first_part (set_of b))) in
    record {
      answered = r.answered;
      middle = r.middle;
      in_order = r.in_order;
      exactly = λ p. exact a b ca cb p walk;
      parts = in_parts a b walk;
      rises = (rises f a.len, rises g b.len);
      none = r.none;
      count_right = refl;
    }
