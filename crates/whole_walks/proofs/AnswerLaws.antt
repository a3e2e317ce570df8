-- The answers that the loop of a whole walk has stored. Assumes nothing.
use mathlib.Core.Path.{◌≡◌, refl, sym, ap, ap₂, ◌∙◌}
use mathlib.Core.Bool.{Bool, false, ◌&&◌}
use mathlib.Core.List.{List, [], ◌∷◌, ◌++◌, append-nil, map}
use Prim.Native.Nat.{ℕ, suc, ◌+◌, ◌≤◌, ◌<◌}
use native.Mathlib.Numerals.{add-one}
use native.Mathlib.Omega.{arith}
use lib.ListN.{length, get_or, take, drop, set, length-set, take-append-drop}
use lib.Seq.{take-suc-set, drop-set-lt, drop-cons, drop-length, append_snoc}
use Rattle.sets.specs.Members.{Members, read}
use Rattle.sets.specs.declared.answers.Part.{Part}
use Rattle.std.specs.Prelude.{Option}
use Rattle.sets.specs.declared.fixed_bit_set.FixedBitSet.{FixedBitSet}
use Rattle.parts.specs.Selections.{Difference}
use Rattle.parts.specs.declared.records.End.{End}
use Rattle.walks.specs.Helpers.{chosen, row_step}
use Rattle.walks.proofs.PairLaws.{placed_is}
use Rattle.walks.specs.Rules.{first_part, pair_step, without}
use Rattle.walks.specs.declared.answers.PairStep.{PairStep}
use Rattle.walks.specs.declared.rows.RowStep.{RowStep}
use Rattle.whole_walks.specs.Walks.{first_row, second_row, answers_from, answers}
use Rattle.whole_walks.specs.Helpers.{selection_of, nothing_left, second_part, records_after}
use Rattle.whole_walks.specs.Rules.{end_of, answer_word}
use Rattle.whole_walks.specs.declared.whole.Records.{Records}
use Rattle.whole_walks.specs.declared.walk.Walk.{Walk}
use Rattle.whole_walks.proofs.PartLists.{part_left, left_none}
use Rattle.whole_walks.proofs.WalkSteps.{both_left, nothing_left_lem, row-good, same_answers}

module _ (f g : ℕ → Bool) (steps : List ℕ) (one₀ two₀ : Part) (out₀ : List ℕ) where
  -- the words of the answers from step k on
  abbrev words_from : ℕ → Part → Part → List ℕ
  words_from k one two = map answer_word (answers_from f g (map end_of (drop k steps)) one two)

  -- and step k
  abbrev step_at : ℕ → Part → Part → PairStep
  step_at k one two = pair_step (end_of (get_or steps k 0)) f g one two

  -- the buffer in the end
  abbrev pub answered : List ℕ
  answered = map answer_word (answers_from f g (map end_of steps) one₀ two₀) ++ drop (length steps) out₀

  -- before step k: with the answers yet to come the buffer is as it is in the end
  pub record Answered (one two : Part) (k : ℕ) (out : List ℕ) : Type 0 where
    pub passed : k ≤ length steps
    pub same : length out ≡ length out₀
    pub stored : take k out ++ words_from k one two ++ drop (length steps) out ≡ answered

  none_left : (one two : Part) → words_from (length steps) one two ≡ []
  unfolding answers_from
  none_left one two = rw (drop-length steps)

  pub answered_all : {one two : Part} {k : ℕ} {out : List ℕ} → Answered one two k out → length steps ≤ k → out ≡ answered
  answered_all {one} {two} {k} {out} h l =
      let n = length steps in
      let e : k ≡ length steps = omega arith in
      sym (ap (λ (xs : List ℕ). take n out ++ xs ++ drop n out) (none_left one two)
      ∙ ap (λ (xs : List ℕ). xs ++ drop n out) (append-nil (take n out)) ∙ take-append-drop n out)
      ∙ ap (λ (j : ℕ). take j out ++ words_from j one two ++ drop n out) (sym e) ∙ h.stored

  -- a step and those after it
  next_word : (k : ℕ) (one two : Part) → k < length steps
      → words_from k one two ≡ answer_word (step_at k one two).at ∷ words_from (suc k) (step_at k one two).one (step_at k one two).two
  unfolding answers_from
  next_word k one two l = rw (drop-cons steps k 0 l)

  -- the answer of a step is stored
  pub answered_more : {one two : Part} {k : ℕ} {out : List ℕ} {end : End} {r : RowStep} {after : Records} {w : ℕ} → Answered one two k out
      → end ≡ end_of (get_or steps k 0) → r ≡ row_step end f g one two → after ≡ records_after one two end r → w ≡ answer_word r.at
      → k < length steps → length steps ≤ length out₀ → Answered after.one after.two (k + 1) (set out k w)
  answered_more {one} {two} {k} {out} h e st af v l room =
      let n = length steps in
      let t = end_of (get_or steps k 0) in
      let s = step_at k one two in
      let x = answer_word (row_step t f g one two).at in
      let same : x ≡ answer_word s.at = ap (λ (q : PairStep). answer_word q.at) (placed_is f g one two t) in
      let left = records_after one two t (row_step t f g one two) in
      let rest = words_from (suc k) left.one left.two in
      let ends = map end_of (drop (suc k) steps) in
      let later : rest ≡ words_from (suc k) s.one s.two =
      ap (λ (xs : List (Option ℕ)). map answer_word xs) (same_answers f g f g ends left.one left.two s.one s.two (row-good f g one two t).1) in
      rw (v, af, st, e, add-one k) record {
        passed = l;
        same = length-set out k x ∙ h.same;
        stored =
            ap₂ (λ (xs ys : List ℕ). xs ++ rest ++ ys) (take-suc-set out k x (omega arith)) (drop-set-lt n out k x l)
            ∙ ap (λ (xs : List ℕ). xs ++ drop n out) (append_snoc (take k out) x rest)
            ∙ ap (λ (xs : List ℕ). take k out ++ xs ++ drop n out) (ap₂ (λ (y : ℕ) (xs : List ℕ). y ∷ xs) same later ∙ sym (next_word k one two l)) ∙ h.stored;
      }

-- ---- the answers of a walk, by what its steps run on

module _ (a : FixedBitSet) (ws : List ℕ) (b : FixedBitSet) (vs : List ℕ) where
  abbrev A : Members
  A = read ws a

  abbrev B : Members
  B = read vs b

  one_part : (f : ℕ → Bool) → both_left f (without B A) (first_part a) nothing_left ≡ both_left f (λ p. false) (first_part a) (first_part b)
  one_part f = ap (λ (xs : List ℕ). part_left f (first_part a) ++ xs) (nothing_left_lem (without B A) ∙ sym (left_none (λ p. false) (first_part b) (λ p l h. refl)))

  -- before the first step as much is left; a walk of one part has nothing in the second
  at_first : (walk : Walk) → both_left (chosen (selection_of walk) A B) (without B A) (first_part a) (second_part walk b)
      ≡ both_left (first_row walk A B) (second_row walk A B) (first_part a) (first_part b)
  at_first Walk.Ones = one_part A.has
  at_first Walk.Intersection = one_part (λ p. A.has p && B.has p)
  at_first Walk.Difference = one_part (without A B)
  at_first Walk.Union = refl
  at_first Walk.SymmetricDifference = refl

  pub walk_answers : (walk : Walk) (ends : List End) {m n : Members} {one two : Part} → m ≡ A → n ≡ B → one ≡ first_part a → two ≡ second_part walk b
      → answers_from (chosen (selection_of walk) m n) (chosen Difference n m) ends one two ≡ answers walk A B ends
  unfolding read
  walk_answers walk ends e f first second =
      (λ i. answers_from (chosen (selection_of walk) (e i) (f i)) (chosen Difference (f i) (e i)) ends (first i) (second i))
      ∙ same_answers _ _ (first_row walk A B) (second_row walk A B) ends (first_part a) (second_part walk b) (first_part a) (first_part b) (at_first walk)
