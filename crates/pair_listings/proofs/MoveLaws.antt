-- The partners of the members, offset by offset. Assumes nothing.
use mathlib.Core.Path.{◌≡◌, refl, sym, ap, ◌∙◌, fun_ext}
use mathlib.Core.Bool.{Bool, true, false, cond, ◌&&◌, ◌||◌, and-false}
use mathlib.Core.List.{List}
use Prim.Native.Nat.{ℕ, ◌+◌, ◌%◌, ◌≤◌, ◌<◌}
use native.Mathlib.Numerals.{add-one}
use native.Mathlib.Omega.{arith}
use borrow.Author.Tests.{ne_eqb}
use lib.Dec.{eqb}
use lib.ListN.{length}
use Rattle.word_bits.specs.Counts.{some}
use Rattle.word_bits.proofs.Quantifiers.{some_no}
use Rattle.sets.specs.Members.{Members, words_of, write, set_of, empty}
use Rattle.sets.specs.Outcomes.{Outcome, edited}
use Rattle.sets.specs.Questions.{questions, new_questions}
use Rattle.sets.proofs.QuestionLaws.{first-yes}
use Rattle.edits.specs.Rules.{insert_rule}
use Rattle.listing_lines.specs.Offsets.{all_offsets, offsets_of}
use Rattle.pair_listings.specs.Tables.{is_named, partner, moves_to, moved_below, moved_by, move_members_rule}
use Rattle.pair_listings.proofs.SetLaws.{held, written_held, write_insert}

or_last : (t x : Bool) → cond t true x ≡ (x || t)
or_last true true = refl
or_last true false = refl
or_last false true = refl
or_last false false = refl

or-none : (x : Bool) → x ≡ (x || false)
or-none true = refl
or-none false = refl

-- ---- the partners of the members

module _ (to : ℕ → ℕ) (s : Members) where
  moved_next : (p q : ℕ) → (moved_below (p + 1) to s).has q ≡ ((moved_below p to s).has q || (s.has p && moves_to to p q))
  unfolding moved_below some
  moved_next p q = ap (λ (k : ℕ). some k (λ j. s.has j && moves_to to j q)) (add-one p)

  moved_clipped : (p q : ℕ) → 65536 ≤ q → (moved_below p to s).has q ≡ false
  unfolding moved_below moves_to partner
  moved_clipped p q h =
      some_no p (λ j. s.has j && (is_named to j && eqb (to j % 65536) q))
      (λ j l. ap (λ (t : Bool). s.has j && (is_named to j && t)) (ne_eqb (to j % 65536) q (λ e. omega arith)) ∙ ap (λ (t : Bool). s.has j && t) (and-false (is_named to j)) ∙ and-false (s.has j))

  same_moved : (p : ℕ) → ((q : ℕ) → (moved_below p to s).has q ≡ (moved_below (p + 1) to s).has q) → moved_below p to s ≡ moved_below (p + 1) to s
  unfolding moved_below
  same_moved p h = ap held (fun_ext h)

  module _ (vs : List ℕ) where
    -- the new set passes questions 1 to 3, and is read as it is
    pub moved_held : words_of 65536 ≤ length vs → (questions all_offsets (write vs (moved_by to s)) ≡ 0) × (offsets_of (write vs (moved_by to s)) ≡ moved_by to s)
    unfolding moved_below
    moved_held room = written_held vs room (moved_by to s).has (moved_clipped s.len)

    pub moved_start : {out : List ℕ} → out ≡ write vs (empty 65536) → out ≡ write vs (moved_below 0 to s)
    unfolding moved_below some
    moved_start e = e

    module _ (p : ℕ) {out : List ℕ} (e : out ≡ write vs (moved_below p to s)) where
      pub moved_more : words_of 65536 ≤ length vs → {o : Outcome} {b : ℕ} → s.has p ≡ true → (to p ≡ 0 → ⊥) → b ≡ partner to p
          → o ≡ insert_rule all_offsets out b → o.words ≡ write vs (moved_below (p + 1) to s)
      unfolding moved_below
      moved_more room {b = b} y z f d = write_insert vs room (moved_below p to s).has (moved_clipped p) b below e d (moved_below (p + 1) to s).has same
        where
          below : b < 65536
          below = unfold partner in omega arith

          here : (q : ℕ) → eqb b q ≡ (s.has p && moves_to to p q)
          here q = unfold moves_to is_named in rw (y, ne_eqb (to p) 0 z, f)

          same : (q : ℕ) → cond (eqb b q) true ((moved_below p to s).has q) ≡ (moved_below (p + 1) to s).has q
          same q = or_last (eqb b q) ((moved_below p to s).has q) ∙ ap (λ (t : Bool). (moved_below p to s).has q || t) (here q) ∙ sym (moved_next p q)

      moved_skip : ((q : ℕ) → (s.has p && moves_to to p q) ≡ false) → out ≡ write vs (moved_below (p + 1) to s)
      moved_skip n =
          e ∙ ap (write vs) (same_moved p (λ q. or-none ((moved_below p to s).has q) ∙ ap (λ (t : Bool). (moved_below p to s).has q || t) (sym (n q)) ∙ sym (moved_next p q)))

      pub moved_other : s.has p ≡ false → out ≡ write vs (moved_below (p + 1) to s)
      moved_other n = moved_skip (λ q. ap (λ (t : Bool). t && moves_to to p q) n)

      pub moved_unnamed : to p ≡ 0 → out ≡ write vs (moved_below (p + 1) to s)
      moved_unnamed z = moved_skip (λ q. unfold moves_to is_named in rw z (and-false (s.has p)))

-- the rule

module _ (to : ℕ → ℕ) (ws vs : List ℕ) where
  pub moved_rule : {x : Outcome} → questions all_offsets ws ≡ 0 → x ≡ edited (new_questions 65536 (length vs)) (set_of (empty 0)) vs (moved_by to (offsets_of ws)) → x ≡ move_members_rule ws to vs
  moved_rule q e = e ∙ ap (λ (n : ℕ). edited n (set_of (empty 0)) vs (moved_by to (offsets_of ws))) (first-yes q refl)
