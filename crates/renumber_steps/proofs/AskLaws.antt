-- The questions of the pairs, as they are asked, and what is left where all are passed. Assumes nothing.
use mathlib.Core.Path.{◌≡◌, refl, sym, ap, ◌∙◌}
use mathlib.Core.Bool.{Bool, true, false, cond, not, ◌&&◌, ◌||◌}
use mathlib.Core.List.{List, [], ◌∷◌}
use mathlib.Core.Logic.{◌⊎◌, inl, inr}
use Prim.Native.Nat.{ℕ, suc, ◌≤◌, ◌<◌}
use native.Mathlib.Omega.{arith}
use borrow.Author.Tests.{le-leb, lt-leb}
use lib.Dec.{leb}
use lib.ListN.{length}
use Rattle.std.specs.List.{list_any}
use Rattle.word_bits.specs.Counts.{some}
use Rattle.word_bits.proofs.Order.{lt-or-le}
use Rattle.sets.specs.Members.{Members, words_of, read, write, empty, set_of}
use Rattle.sets.specs.Questions.{first, questions, new_questions, position_question, positions_question, both_questions}
use Rattle.sets.specs.Outcomes.{Outcome}
use Rattle.sets.specs.declared.fixed_bit_set.FixedBitSet.{FixedBitSet}
use Rattle.sets.specs.declared.answers.Told.{Told}
use Rattle.sets.proofs.OutcomeLaws.{given_yes, edited_no}
use Rattle.sets.proofs.QuestionLaws.{Valid, valid, valid_yes, first_no, first-yes, first-both, position_yes, position_no, room}
use Rattle.sets.proofs.ReadLaws.{write_valid}
use Rattle.sets.proofs.WriteLaws.{Clipped, read-write}
use Rattle.tests.proofs.RowLaws.{all-not-some}
use Rattle.comparisons.specs.Relations.{subset}
use Rattle.comparisons.specs.Rules.{is_subset_rule}
use Rattle.edits.specs.Edits.{is_in}
use Rattle.renumber_steps.specs.Pairs.{olds, news, repeats, renumbered, sided_pair, sided}
use Rattle.renumber_steps.specs.Rules.{olds_question, news_question, members_question, pairs_questions, renumber_questions, renumber_rule}
use Rattle.renumber_steps.specs.Passes.{aboves, moved, no_marks, shared, pairs_number}
use Rattle.renumber_steps.specs.declared.pair.Pair.{Pair}
use Rattle.renumber_steps.proofs.HeldLaws.{hits, marks, marks_len, marks_clipped, marks_has}
use Rattle.renumber_steps.proofs.RepeatLaws.{hits_repeats}
use Rattle.renumber_steps.proofs.RunLaws.{moved_all}
use Rattle.renumber_steps.proofs.SharedLaws.{no_marks_long, none_clipped, shared-found, shared-words}

-- ---- the sides

-- what one way calls new, the other calls old
pub sides : (back : Bool) (ps : List Pair) → olds (sided (not back) ps) ≡ news (sided back ps)
unfolding olds news sided sided_pair
sides back [] = refl
sides true (p ∷ ps) = ap (λ (l : List ℕ). p.old ∷ l) (sides true ps)
sides false (p ∷ ps) = ap (λ (l : List ℕ). p.new ∷ l) (sides false ps)

-- ---- 4

pub beyond : (n : ℕ) (back : Bool) (ps : List Pair) → cond (list_any (λ p. leb n (sided_pair back p).old) ps) 4 0 ≡ positions_question (set_of (empty n)) (olds (sided back ps))
unfolding positions_question olds sided
beyond n back [] = refl
beyond n back (p ∷ ps) = go (sided_pair back p).old (lt-or-le (sided_pair back p).old n) (beyond n back ps)
  where
    go : (x : ℕ) → (x < n) ⊎ (n ≤ x)
        → cond (list_any (λ p. leb n (sided_pair back p).old) ps) 4 0 ≡ positions_question (set_of (empty n)) (olds (sided back ps))
        → cond (leb n x || list_any (λ p. leb n (sided_pair back p).old) ps) 4 0
        ≡ first (position_question (set_of (empty n)) x) (positions_question (set_of (empty n)) (olds (sided back ps)))
    go x (inl l) e = rw (lt-leb n x l) (first-yes (position_yes (set_of (empty n)) x l) e)
    go x (inr g) e = rw (le-leb n x g) (first_no _ (sym (position_no (set_of (empty n)) x g)) (λ z. omega arith))

-- ---- 12

module _ (set : FixedBitSet) (ws : List ℕ) (ps : List Pair) (v : Valid set ws) (e : repeats (olds ps) ≡ false) where
  abbrev ts : Members
  ts = marks (empty 65536) (olds ps)

  none_hit : hits (empty 65536) (olds ps) ≡ false
  none_hit = go (hits (empty 65536) (olds ps)) (hits_repeats (olds ps) ∙ e)
    where
      go : (b : Bool) → (b || repeats (aboves (olds ps))) ≡ false → b ≡ false
      go true q = q
      go false q = refl

  marked_set : set_of ts ≡ set_of (empty 65536)
  marked_set = ap (λ (n : ℕ). record { length = n }) (marks_len (empty 65536) (olds ps))

  marked_room : words_of ts.len ≤ length no_marks
  unfolding words_of
  marked_room = rw (marks_len (empty 65536) (olds ps), no_marks_long) (omega arith)

  marked_clipped : Clipped ts
  marked_clipped = marks_clipped (empty 65536) (olds ps) (none_clipped 65536)

  marked_valid : Valid (set_of (empty 65536)) (write no_marks ts)
  marked_valid = rw (sym marked_set) (write_valid no_marks ts marked_clipped (rw (marks_len (empty 65536) (olds ps)) (omega arith)) marked_room)

  marked-read : read (write no_marks ts) (set_of (empty 65536)) ≡ ts
  marked-read = rw (sym marked_set) (read-write no_marks ts marked_clipped)

  asked-both : both_questions set ws (set_of (empty 65536)) (write no_marks ts) ≡ 0
  unfolding both_questions
  asked-both = sym (first-yes (valid_yes set ws v) (sym (valid_yes (set_of (empty 65536)) (write no_marks ts) marked_valid)))

  listed : (p : ℕ) → p < set.length → (not ((read ws set).has p) || ts.has p) ≡ not ((read ws set).has p && not (is_in (olds ps) p))
  listed p l =
      ap (λ (b : Bool). not ((read ws set).has p) || b) (marks_has (empty 65536) (olds ps) p (omega (arith, v.small)) none_hit)
      ∙ go ((read ws set).has p) (is_in (olds ps) p)
    where
      go : (a b : Bool) → (not a || (b || false)) ≡ not (a && not b)
      go true true = refl
      go true false = refl
      go false b = refl

  paired : (is_subset_rule set ws (set_of (empty 65536)) (shared (olds ps)).words).yes
      ≡ not (some (read ws set).len (λ p. (read ws set).has p && not (is_in (olds ps) p)))
  unfolding read
  paired =
      ap (λ (l : List ℕ). (is_subset_rule set ws (set_of (empty 65536)) l).yes) (shared-words (olds ps))
      ∙ ap (λ (t : Told). t.yes) (sym (given_yes (λ m. record { number = m; yes = false }) (sym asked-both) refl))
      ∙ ap (subset (read ws set)) marked-read
      ∙ all-not-some set.length _ (λ p. (read ws set).has p && not (is_in (olds ps) p)) listed

-- ---- all of them

twelve : (a b : Bool) → a ≡ not b → ◌≡◌ {A = ℕ} (cond b 12 0) (cond a 0 12)
twelve a b z = go b ∙ ap (λ (t : Bool). cond t 0 12) (sym z)
  where
    go : (b : Bool) → ◌≡◌ {A = ℕ} (cond b 12 0) (cond (not b) 0 12)
    go true = refl
    go false = refl

decided : (a b c d : Bool) {o n q m : ℕ} → o ≡ cond a 10 0 → n ≡ cond b 11 0 → q ≡ cond c 4 0 → (a ≡ false → m ≡ cond d 0 12)
    → pairs_number a b c d ≡ first o (first n (first q m))
unfolding pairs_number
decided true b c d o n q m = first_no _ (sym o) (λ z. omega arith)
decided false true c d o n q m = first-yes o (first_no _ (sym n) (λ z. omega arith))
decided false false true d o n q m = first-yes o (first-yes n (first_no _ (sym q) (λ z. omega arith)))
decided false false false d o n q m = first-yes o (first-yes n (first-yes q (sym (m refl))))

module _ (set : FixedBitSet) (ws : List ℕ) (back : Bool) (pairs : List Pair) (n : ℕ) (e : questions set ws ≡ 0) where
  abbrev ps : List Pair
  ps = sided back pairs

  abbrev qs : List Pair
  qs = sided (not back) pairs

  pub asked-pairs : (b : Bool) → cond b 4 0 ≡ positions_question (set_of (empty n)) (olds qs)
      → pairs_number (shared (olds ps)).found (shared (olds qs)).found b (is_subset_rule set ws (set_of (empty 65536)) (shared (olds ps)).words).yes
      ≡ pairs_questions ps n (read ws set)
  unfolding olds_question news_question members_question
  asked-pairs b beyond =
      decided _ _ _ _
      (ap (λ (b : Bool). cond b 10 0) (sym (shared-found (olds ps))))
      (ap (λ (l : List ℕ). cond (repeats l) 11 0) (sym (sides back pairs))
      ∙ ap (λ (b : Bool). cond b 11 0) (sym (shared-found (olds qs))))
      (ap (positions_question (set_of (empty n))) (sym (sides back pairs)) ∙ sym beyond)
      (λ q. twelve (is_subset_rule set ws (set_of (empty 65536)) (shared (olds ps)).words).yes
      (some (read ws set).len (λ p. (read ws set).has p && not (is_in (olds ps) p))) (paired set ws ps (valid set ws e) (sym (shared-found (olds ps)) ∙ q)))

-- ---- what is left

module _ (set : FixedBitSet) (ws : List ℕ) (ps : List Pair) (n : ℕ) (vs : List ℕ) where
  pub renumbered_by : renumber_questions set ws ps n (length vs) ≡ 0
      → ◌≡◌ {A = Outcome} (record { number = 0; set = set_of (empty n); words = moved (read ws set) (write vs (empty n)) ps }) (renumber_rule set ws ps n vs)
  unfolding renumbered
  renumbered_by e =
      let s = first-both (first (questions set ws) (new_questions n (length vs))) (pairs_questions ps n (read ws set)) e in
      let room-asked = (first-both (questions set ws) (new_questions n (length vs)) s.0).1 in
      let news-asked = (first-both (olds_question ps) (first (news_question ps) (first (positions_question (set_of (empty n)) (news ps)) (members_question ps (read ws set)))) s.1).1 in
      let below-asked = (first-both (news_question ps) (first (positions_question (set_of (empty n)) (news ps)) (members_question ps (read ws set))) news-asked).1 in
      let below = (first-both (positions_question (set_of (empty n)) (news ps)) (members_question ps (read ws set)) below-asked).0 in
      given_yes _ (sym e)
      (ap (λ (l : List ℕ). record { number = 0; set = set_of (empty n); words = l })
      (moved_all (read ws set) vs ps n (room n (length vs) room-asked).enough below))

  pub refused_by : (m : ℕ) → renumber_questions set ws ps n (length vs) ≡ suc m
      → ◌≡◌ {A = Outcome} (record { number = suc m; set = set_of (empty 0); words = vs }) (renumber_rule set ws ps n vs)
  refused_by m e = edited_no (set_of (empty 0)) vs _ (sym e) (λ z. omega arith)
