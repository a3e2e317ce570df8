-- As many marks as pairs: then no offset is from 65,536 up. Assumes nothing.
use mathlib.Core.Path.{◌≡◌, refl, sym, ap, ap₂, ◌∙◌}
use mathlib.Core.Bool.{Bool, true, false, cond, not, ◌||◌, true≢false}
use mathlib.Core.List.{List, [], ◌∷◌}
use mathlib.Core.Logic.{◌⊎◌, inl, inr}
use Prim.Native.Nat.{ℕ, suc, ◌+◌, ◌/◌, ◌≤◌, ◌<◌}
use native.Mathlib.Omega.{arith}
use borrow.Author.Tests.{le-leb, lt-leb, eq-eqb, ne_eqb}
use lib.Dec.{eqb, leb}
use Rattle.std.proofs.Math.Bool.{or-true, or-false}
use lib.ListN.{length, length-set}
use Rattle.std.specs.List.{filter}
use Rattle.std.proofs.lemmas.Bool.{or_parts}
use Rattle.std.proofs.lemmas.List.Filters.{length-filter_both}
use Rattle.word_bits.specs.Counts.{count}
use Rattle.word_bits.proofs.Ones.{count_ext}
use Rattle.word_bits.proofs.Order.{lt-or-le}
use Rattle.sets.specs.Members.{Members, words_of, bit_of, empty, set_of}
use Rattle.sets.specs.Questions.{positions_question}
use Rattle.sets.proofs.QuestionLaws.{first-yes, position_yes}
use Rattle.sets.proofs.WriteLaws.{bit_write}
use Rattle.edits.specs.Edits.{is_in}
use Rattle.renumber_steps.specs.Pairs.{olds, repeats, sided}
use Rattle.renumber_steps.specs.Passes.{Taken, marked, marking_all, aboves, no_marks}
use Rattle.renumber_steps.specs.declared.pair.Pair.{Pair}
use Rattle.renumber_steps.proofs.CountLaws.{count_list}
use Rattle.renumber_steps.proofs.HeldLaws.{held, held_len, held_has, hits, marks, marks_len, marks_has}
use Rattle.renumber_steps.proofs.SharedLaws.{no_marks_long, run}

-- ---- marks that none was there for

-- an offset that is there is not in the list
hit_no : (u : Members) (xs : List ℕ) (x : ℕ) → x < u.len → hits u xs ≡ false → u.has x ≡ true → is_in xs x ≡ false
unfolding hits is_in
hit_no u [] x l e h = refl
hit_no u (y ∷ ys) x l e h =
    let both = or_parts (u.has y) (hits (held y u) ys) e in
    ap₂ ◌||◌ (ne_eqb y x (λ z. true≢false (sym h ∙ ap u.has (sym z) ∙ both.0)))
    (hit_no (held y u) ys x (rw (held_len y u) l) both.1 (held_has y u x l ∙ ap (λ (b : Bool). eqb y x || b) h ∙ or-true (eqb y x)))

-- those of a list below 65,536
abbrev belows : List ℕ → List ℕ
belows xs = filter (λ x. not (leb 65536 x)) xs

belows_in : (xs : List ℕ) (p : ℕ) → p < 65536 → is_in (belows xs) p ≡ is_in xs p
unfolding is_in
belows_in [] p h = refl
belows_in (x ∷ xs) p h = go (lt-or-le x 65536) (belows_in xs p h)
  where
    go : (x < 65536) ⊎ (65536 ≤ x) → is_in (belows xs) p ≡ is_in xs p → is_in (cond (not (leb 65536 x)) (x ∷ belows xs) (belows xs)) p ≡ (eqb x p || is_in xs p)
    go (inl l) e = rw (lt-leb 65536 x l) (ap (λ (b : Bool). eqb x p || b) e)
    go (inr g) e = rw (le-leb 65536 x g, ne_eqb x p (λ z. omega arith)) e

belows_once : (u : Members) (xs : List ℕ) → u.len ≡ 65536 → hits u xs ≡ false → repeats (belows xs) ≡ false
unfolding hits repeats
belows_once u [] n e = refl
belows_once u (x ∷ xs) n e =
    let both = or_parts (u.has x) (hits (held x u) xs) e in
    go (lt-or-le x 65536) both.1 (belows_once (held x u) xs (held_len x u ∙ n) both.1)
  where
    go : (x < 65536) ⊎ (65536 ≤ x) → hits (held x u) xs ≡ false → repeats (belows xs) ≡ false → repeats (cond (not (leb 65536 x)) (x ∷ belows xs) (belows xs)) ≡ false
    go (inl l) h r =
        rw (lt-leb 65536 x l) (ap₂ ◌||◌ (belows_in xs x l ∙ hit_no (held x u) xs x (rw (held_len x u, n) l) h (held_has x u x (rw n l) ∙ ap (λ (b : Bool). b || u.has x) (eq-eqb x x refl))) r)
    go (inr g) h r = rw (le-leb 65536 x g) r

belows_fit : (xs : List ℕ) → positions_question (set_of (empty 65536)) (belows xs) ≡ 0
unfolding positions_question
belows_fit [] = refl
belows_fit (x ∷ xs) = go (lt-or-le x 65536) (belows_fit xs)
  where
    go : (x < 65536) ⊎ (65536 ≤ x) → positions_question (set_of (empty 65536)) (belows xs) ≡ 0 → positions_question (set_of (empty 65536)) (cond (not (leb 65536 x)) (x ∷ belows xs) (belows xs)) ≡ 0
    go (inl l) e = rw (lt-leb 65536 x l) (sym (first-yes (position_yes (set_of (empty 65536)) x l) (sym e)))
    go (inr g) e = rw (le-leb 65536 x g) e

parted : (xs : List ℕ) → length (aboves xs) + length (belows xs) ≡ length xs
unfolding aboves
parted xs = length-filter_both (leb 65536) (λ x. not (leb 65536 x)) (λ x. refl) xs

no_repeats : (xs : List ℕ) → length xs ≡ 0 → repeats xs ≡ false
unfolding repeats
no_repeats [] e = refl
no_repeats (x ∷ xs) e = absurd (no e)
  where
    no : suc (length xs) ≡ 0 → ⊥
    no z = omega arith

-- ---- the exit

marking_length : (ms xs : List ℕ) → length (marking_all ms xs).words ≡ length ms
unfolding marking_all marked
marking_length ms [] = refl
marking_length ms (x ∷ xs) = go (bit_of ms x) (marking_length (marked ms x) xs)
  where
    go : (b : Bool) → length (marking_all (marked ms x) xs).words ≡ length (marked ms x)
        → length (cond b (record { found = true; words = marked ms x }) (marking_all (marked ms x) xs)).words ≡ length ms
    go true e = length-set ms (x / 64) _
    go false e = e ∙ length-set ms (x / 64) _

pub sided_length : (back : Bool) (pairs : List Pair) → length (olds (sided back pairs)) ≡ length pairs
unfolding olds sided
sided_length back [] = refl
sided_length back (p ∷ ps) = ap suc (sided_length back ps)

module _ (xs : List ℕ) (none : (marking_all no_marks xs).found ≡ false) where
  -- as many words as before
  pub kept_size : length (marking_all no_marks xs).words ≡ 1024
  kept_size = marking_length no_marks xs ∙ no_marks_long

  none_hit : hits (empty 65536) xs ≡ false
  none_hit = sym (ap (λ (t : Taken). t.found) (run xs)) ∙ none

  bits : (p : ℕ) → p < 65536 → bit_of (marking_all no_marks xs).words p ≡ is_in (belows xs) p
  unfolding words_of
  bits p l =
      ap (λ (t : Taken). bit_of t.words p) (run xs)
      ∙ bit_write no_marks (marks (empty 65536) xs) p (rw (marks_len (empty 65536) xs) (omega arith))
      ∙ marks_has (empty 65536) xs p l none_hit ∙ or-false (is_in xs p) ∙ sym (belows_in xs p l)

  all_below : count 65536 (bit_of (marking_all no_marks xs).words) ≡ length xs → length (belows xs) ≡ length xs
  all_below full =
      sym (count_list (set_of (empty 65536)) (belows xs) (belows_once (empty 65536) xs refl none_hit) (belows_fit xs))
      ∙ sym (count_ext 65536 (bit_of (marking_all no_marks xs).words) (is_in (belows xs)) bits) ∙ full

  pub none_above : count 65536 (bit_of (marking_all no_marks xs).words) ≡ length xs → repeats (aboves xs) ≡ false
  none_above full = let both = parted xs in let all = all_below full in no_repeats (aboves xs) (omega arith)
