-- A set that is written and gets one more position, and a fresh set and what it becomes. Assumes nothing.
use mathlib.Core.Path.{◌≡◌, refl, sym, ap, ap₂, ◌∙◌, fun_ext}
use mathlib.Core.Bool.{Bool, true, false, cond}
use mathlib.Core.List.{List}
use Prim.Native.Nat.{ℕ, ◌≤◌, ◌<◌}
use native.Mathlib.Nat.{le_refl}
use lib.Dec.{eqb}
use lib.ListN.{length}
use Rattle.sets.specs.Members.{Members, words_of, write, read, changed, set_of, empty}
use Rattle.std.specs.Prelude.{Result, Err, IsErrAnd}
use Rattle.std.proofs.lemmas.Result.{err_from_is_err_and}
use Rattle.sets.proofs.RefusalLaws.{number_ne0}
use Rattle.sets.specs.Outcomes.{Outcome, outcome, edited}
use Rattle.sets.specs.Refusals.{number, edited_of}
use Rattle.sets.specs.declared.fixed_bit_set.FixedBitSet.{FixedBitSet}
use Rattle.sets.specs.declared.refusal.Refusal.{Refusal}
use Rattle.sets.specs.Questions.{questions, new_questions}
use Rattle.sets.specs.Rules.{with_capacity_rule}
use Rattle.sets.proofs.OutcomeLaws.{given_yes, given-refused, given-accepted}
use Rattle.sets.proofs.QuestionLaws.{first-yes, valid_yes, position_yes, room as room_of}
use Rattle.sets.proofs.ReadLaws.{write_valid}
use Rattle.sets.proofs.WriteLaws.{Clipped, read-write, write-write}
use Rattle.edits.specs.Edits.{inserted}
use Rattle.edits.specs.Rules.{insert_rule}
use Rattle.listing_lines.specs.Offsets.{all_offsets, offsets_of}

abbrev pub held : (ℕ → Bool) → Members
held m = record { len = 65536; has = m }

-- ---- a set that is written, and one position inserted

module _ (vs : List ℕ) (room : words_of 65536 ≤ length vs) (m : ℕ → Bool) (clip : (q : ℕ) → 65536 ≤ q → m q ≡ false) where
  clipped : Clipped (held m)
  clipped = record { above = clip }

  -- it passes questions 1 to 3, and is read as it is
  pub written_held : (questions all_offsets (write vs (held m)) ≡ 0) × (offsets_of (write vs (held m)) ≡ held m)
  written_held = (valid_yes all_offsets (write vs (held m)) (write_valid vs (held m) clipped (le_refl 65536) room), read-write vs (held m) clipped)

  module _ (b : ℕ) (below : b < 65536) where
    accepted : insert_rule all_offsets (write vs (held m)) b
        ≡ record { number = 0; set = all_offsets; words = write (write vs (held m)) (inserted b (read (write vs (held m)) all_offsets)) }
    unfolding changed read
    accepted =
        sym (given_yes (λ n. record { number = n; set = all_offsets; words = write vs (held m) })
        (first-yes written_held.0 (sym (position_yes all_offsets b below)))
        refl)

    pub write_insert : {out : List ℕ} {o : Outcome} → out ≡ write vs (held m) → o ≡ insert_rule all_offsets out b → (n : ℕ → Bool)
        → ((q : ℕ) → cond (eqb b q) true (m q) ≡ n q) → o.words ≡ write vs (held n)
    write_insert e d n h =
        ap (λ (o : Outcome). o.words) (d ∙ ap (λ (ws : List ℕ). insert_rule all_offsets ws b) e ∙ accepted)
        ∙ ap (λ (s : Members). write (write vs (held m)) (inserted b s)) written_held.1
        ∙ go
      where
        go : write (write vs (held m)) (inserted b (held m)) ≡ write vs (held n)
        go = unfold changed in
            write-write vs (held m) (held (λ q. cond (eqb b q) true (m q))) (le_refl (words_of 65536)) room
            ∙ ap (λ (f : ℕ → Bool). write vs (held f)) (fun_ext h)

-- ---- a fresh set, and what it becomes

module _ (vs : List ℕ) where
  abbrev refusal : ℕ → Outcome
  refusal n = record { number = n; set = set_of (empty 0); words = vs }

  -- it is refused by its number, whatever it would become
  pub made_no : (r : Result FixedBitSet Refusal) (e : Refusal) → IsErrAnd r (λ d. d ≡ e) → {ws : List ℕ}
      → ◌≡◌ {A = Outcome} (record { number = number e; set = set_of (empty 0); words = ws }) (with_capacity_rule 65536 vs)
      → (m : Members) → outcome (edited_of (set_of (empty 0)) r) ws ≡ edited (new_questions 65536 (length vs)) (set_of (empty 0)) vs m
  made_no r e passed {ws} d m =
      let p = err_from_is_err_and r passed in
      ap (λ (x : Result FixedBitSet Refusal). outcome (edited_of (set_of (empty 0)) x) ws) (p.1 ∙ ap Err p.2)
      ∙ given-refused (λ (x : Outcome). x.number) refusal (record { number = 0; set = all_offsets; words = write vs (empty 65536) }) (record { number = 0; set = set_of m; words = write vs m })
      (new_questions 65536 (length vs)) refl d (number_ne0 e)

  module _ {made : FixedBitSet} {ws : List ℕ} (e : ◌≡◌ {A = Outcome} (record { number = 0; set = made; words = ws }) (with_capacity_rule 65536 vs)) where
    accepted_set : (new_questions 65536 (length vs) ≡ 0) × (◌≡◌ {A = Outcome} (record { number = 0; set = made; words = ws }) (record { number = 0; set = all_offsets; words = write vs (empty 65536) }))
    accepted_set =
        given-accepted (λ (x : Outcome). x.number) refusal (record { number = 0; set = all_offsets; words = write vs (empty 65536) }) (new_questions 65536 (length vs)) (λ n. refl) e refl

    pub made_yes : (m : ℕ → Bool) {after : List ℕ} → (words_of 65536 ≤ length vs → ws ≡ write vs (empty 65536) → after ≡ write vs (held m))
        → ◌≡◌ {A = Outcome} (record { number = 0; set = made; words = after }) (edited (new_questions 65536 (length vs)) (set_of (empty 0)) vs (held m))
    made_yes m h =
        given_yes refusal (sym accepted_set.0)
        (ap₂ (λ (y : Outcome) (ws : List ℕ). record { number = y.number; set = y.set; words = ws }) accepted_set.1
        (h (room_of 65536 (length vs) accepted_set.0).enough (ap (λ (y : Outcome). y.words) accepted_set.1)))
