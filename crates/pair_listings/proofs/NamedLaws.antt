-- The offsets that a table names, offset by offset. Assumes nothing.
use mathlib.Core.Path.{◌≡◌, refl, sym, ap, ◌∙◌, fun_ext}
use mathlib.Core.Bool.{Bool, true, false, cond, ◌&&◌, and-false, false≢true}
use mathlib.Core.List.{List}
use mathlib.Core.Logic.{◌⊎◌, inl, inr}
use Prim.Native.Nat.{ℕ, ◌+◌, ◌≤◌, ◌<◌}
use native.Mathlib.Omega.{arith}
use borrow.Author.Tests.{lt-ltb, le-ltb, ne_eqb, eqb-true, eqb-false}
use lib.Dec.{eqb, ltb}
use lib.ListN.{length}
use Rattle.std.specs.Prelude.{Result, Ok, Err, is_ok}
use Rattle.word_bits.proofs.Order.{lt-or-le}
use Rattle.sets.specs.Members.{words_of, write, set_of, empty}
use Rattle.sets.specs.Outcomes.{Outcome, outcome}
use Rattle.sets.specs.Refusals.{edited_of}
use Rattle.sets.specs.Questions.{questions, new_questions}
use Rattle.sets.specs.declared.fixed_bit_set.FixedBitSet.{FixedBitSet}
use Rattle.sets.specs.declared.refusal.Refusal.{Refusal}
use Rattle.sets.proofs.OutcomeLaws.{given-accepted}
use Rattle.sets.proofs.QuestionLaws.{room as room_of}
use Rattle.edits.specs.Rules.{insert_rule}
use Rattle.listing_lines.specs.Offsets.{all_offsets, offsets_of}
use Rattle.pair_listings.specs.Tables.{is_named, named_below, named_by, named_set_rule}
use Rattle.pair_listings.proofs.SetLaws.{held, written_held, write_insert}

module _ (table : ℕ → ℕ) where
  named_clipped : (p : ℕ) → p ≤ 65536 → (q : ℕ) → 65536 ≤ q → (named_below p table).has q ≡ false
  unfolding named_below
  named_clipped p l q h = ap (λ (t : Bool). t && is_named table q) (le-ltb q p (omega arith))

  -- below p + 1 is p, or below p
  below_next : (p q : ℕ) → (p ≡ q → ⊥) → ltb q p ≡ ltb q (p + 1)
  below_next p q n = go (lt-or-le q p)
    where
      go : (q < p) ⊎ (p ≤ q) → ltb q p ≡ ltb q (p + 1)
      go (inl l) = lt-ltb q p l ∙ sym (lt-ltb q (p + 1) (omega arith))
      go (inr g) = le-ltb q p g ∙ sym (le-ltb q (p + 1) (omega arith))

  module _ (vs : List ℕ) where
    -- the set passes questions 1 to 3, and is read as it is
    pub named_held : words_of 65536 ≤ length vs → (questions all_offsets (write vs (named_by table)) ≡ 0) × (offsets_of (write vs (named_by table)) ≡ named_by table)
    unfolding named_below
    named_held room = written_held vs room (named_by table).has (named_clipped 65536 (omega arith))

    -- so a call that gives it leaves words that are read so
    named_read : {made : FixedBitSet} {ws : List ℕ} → ◌≡◌ {A = Outcome} (record { number = 0; set = made; words = ws }) (named_set_rule table vs) → offsets_of ws ≡ named_by table
    named_read e =
        let g =
        given-accepted (λ (x : Outcome). x.number) (λ n. record { number = n; set = set_of (empty 0); words = vs })
        (record { number = 0; set = set_of (named_by table); words = write vs (named_by table) }) (new_questions 65536 (length vs)) (λ n. refl) e refl in
        ap (λ (x : Outcome). offsets_of x.words) g.1 ∙ (named_held (room_of 65536 (length vs) g.0).enough).1

    pub made_read : {ws : List ℕ} (r : Result FixedBitSet Refusal) → outcome (edited_of (set_of (empty 0)) r) ws ≡ named_set_rule table vs → is_ok r ≡ true → offsets_of ws ≡ named_by table
    made_read (Ok made) e h = named_read e
    made_read (Err refusal) e h = absurd (false≢true h)

    pub named_start : {out : List ℕ} → out ≡ write vs (empty 65536) → out ≡ write vs (named_below 0 table)
    unfolding named_below
    named_start e = e ∙ ap (λ (f : ℕ → Bool). write vs (held f)) (fun_ext (λ q. sym (ap (λ (t : Bool). t && is_named table q) (le-ltb q 0 (omega arith)))))

    module _ (p : ℕ) {out : List ℕ} (e : out ≡ write vs (named_below p table)) where
      pub named_more : words_of 65536 ≤ length vs → p < 65536 → {o : Outcome} → (table p ≡ 0 → ⊥) → o ≡ insert_rule all_offsets out p → o.words ≡ write vs (named_below (p + 1) table)
      unfolding named_below
      named_more room l z d = write_insert vs room (named_below p table).has (named_clipped p (omega arith)) p l e d (named_below (p + 1) table).has (λ q. same q (eqb p q) refl)
        where
          same : (q : ℕ) (t : Bool) → eqb p q ≡ t → cond t true (ltb q p && is_named table q) ≡ (ltb q (p + 1) && is_named table q)
          same q true f = unfold is_named in rw (← eqb-true p q f, lt-ltb p (p + 1) (omega arith), ne_eqb (table p) 0 z)
          same q false f = ap (λ (t : Bool). t && is_named table q) (below_next p q (eqb-false p q f))

      pub named_skip : table p ≡ 0 → out ≡ write vs (named_below (p + 1) table)
      unfolding named_below
      named_skip z = e ∙ ap (λ (f : ℕ → Bool). write vs (held f)) (fun_ext (λ q. same q (eqb p q) refl))
        where
          same : (q : ℕ) (t : Bool) → eqb p q ≡ t → (ltb q p && is_named table q) ≡ (ltb q (p + 1) && is_named table q)
          same q true f = unfold is_named in rw (← eqb-true p q f, z, and-false (ltb p p), and-false (ltb p (p + 1)))
          same q false f = ap (λ (t : Bool). t && is_named table q) (below_next p q (eqb-false p q f))
