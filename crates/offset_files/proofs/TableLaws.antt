-- The table and the set after an offset, and cleared. Assumes nothing.
use mathlib.Core.Path.{◌≡◌, refl, ap, ap₂, ◌∙◌}
use mathlib.Core.Bool.{Bool, true, false, cond}
use mathlib.Core.List.{List}
use Prim.Native.Nat.{ℕ, ◌+◌, ◌*◌, ◌/◌, ◌%◌, ◌≤◌, ◌<◌}
use native.Mathlib.Omega.{arith}
use borrow.Author.Tests.{eq-eqb, ne_eqb, eqb-true, eqb-false}
use lib.Dec.{eqb, lit≤}
use lib.ListN.{length, get_or, replicate, set as set_at}
use lib.Seq.{get_or-set_same, get_or-set_other}
use Rattle.word_bits.specs.Digits.{digit}
use Rattle.word_bits.proofs.Digits.{digit_of_zero}
use Rattle.std.proofs.lemmas.List.{get_or-replicate}
use Rattle.sets.specs.Members.{Members, words_of, bit_of, read, write, changed}
use Rattle.sets.specs.Outcomes.{Outcome, given}
use Rattle.sets.proofs.QuestionLaws.{Valid, valid_yes, position_yes}
use Rattle.sets.proofs.ReadLaws.{read_below, read_clipped, changed_clipped}
use Rattle.sets.proofs.WriteLaws.{length-write, read-write}
use Rattle.edits.specs.Edits.{inserted}
use Rattle.edits.specs.Rules.{insert_rule}
use Rattle.offset_files.specs.Holds.{table_word, all_offsets}

-- ---- a word of the table

pub table-first : (first : ℕ) (again : Bool) → table_word first again / 2 ≡ first
unfolding table_word
table-first first true = omega arith
table-first first false = omega arith

pub table_again : (first : ℕ) (again : Bool) → table_word first again % 2 ≡ cond again 1 0
unfolding table_word
table_again first true = omega arith
table_again first false = omega arith

module _ (table : List ℕ) (first : ℕ → ℕ) (again : ℕ → Bool) (offset : ℕ) (room : offset < length table)
    (entries : (p : ℕ) → p < 65536 → get_or table p 0 ≡ table_word (first p) (again p)) (below : offset < 65536) where
  -- a word set at the offset
  entries_set : (x : ℕ) (first' : ℕ → ℕ) (again' : ℕ → Bool) → x ≡ table_word (first' offset) (again' offset)
      → ((p : ℕ) → (p ≡ offset → ⊥) → table_word (first p) (again p) ≡ table_word (first' p) (again' p))
      → (p : ℕ) → p < 65536 → get_or (set_at table offset x) p 0 ≡ table_word (first' p) (again' p)
  entries_set x first' again' e other p h = go (eqb p offset) refl
    where
      go : (t : Bool) → eqb p offset ≡ t → get_or (set_at table offset x) p 0 ≡ table_word (first' p) (again' p)
      go true q = rw (eqb-true p offset q) (get_or-set_same table offset x 0 room ∙ e)
      go false q = let n = eqb-false p offset q in get_or-set_other table offset p x 0 n ∙ entries p h ∙ other p n

  -- the first line that names it
  pub entries_new : (line : ℕ) (p : ℕ) → p < 65536
      → get_or (set_at table offset (line * 2 + get_or table offset 0 % 2)) p 0 ≡ table_word (cond (eqb p offset) line (first p)) (again p)
  unfolding table_word
  entries_new line =
      entries_set (line * 2 + get_or table offset 0 % 2) (λ p. cond (eqb p offset) line (first p)) again
      (rw (eq-eqb offset offset refl) (ap (λ (x : ℕ). line * 2 + x) (ap (λ (x : ℕ). x % 2) (entries offset below) ∙ table_again (first offset) (again offset))))
      (λ p n. rw (ne_eqb p offset n) refl)

  -- another line that names it
  pub entries_again : (p : ℕ) → p < 65536
      → get_or (set_at table offset (get_or table offset 0 / 2 * 2 + 1)) p 0 ≡ table_word (first p) (cond (eqb p offset) true (again p))
  unfolding table_word
  entries_again =
      entries_set (get_or table offset 0 / 2 * 2 + 1) first (λ p. cond (eqb p offset) true (again p))
      (rw (eq-eqb offset offset refl) (ap (λ (x : ℕ). x * 2 + 1) (ap (λ (x : ℕ). x / 2) (entries offset below) ∙ table-first (first offset) (again offset))))
      (λ p n. rw (ne_eqb p offset n) refl)

-- ---- the set

module _ (words : List ℕ) (long : length words ≡ 1024) where
  enough : words_of 65536 ≤ length words
  unfolding words_of
  enough = omega arith

  all_valid : Valid all_offsets words
  unfolding words_of
  all_valid = record { small = lit≤ tt; enough = enough; clean = λ p l h. absurd (omega arith) }

  module _ (offset : ℕ) (below : offset < 65536) {o : Outcome} (e : o ≡ insert_rule all_offsets words offset) where
    with_offset : Members
    with_offset = inserted offset (read words all_offsets)

    accepted : o ≡ record { number = 0; set = all_offsets; words = write words with_offset }
    unfolding given with_offset changed read
    accepted =
        e ∙ ap₂ (λ (a b : ℕ). given (cond (eqb a 0) b a) (λ m. record { number = m; set = all_offsets; words = words }) (record { number = 0; set = all_offsets; words = write words with_offset }))
        (valid_yes all_offsets words all_valid) (position_yes all_offsets offset below)

    pub inserted_long : length o.words ≡ 1024
    unfolding with_offset changed read
    inserted_long = ap (λ (o : Outcome). length o.words) accepted ∙ length-write words with_offset enough ∙ long

    pub inserted_has : (p : ℕ) → (read o.words all_offsets).has p ≡ cond (eqb offset p) true ((read words all_offsets).has p)
    unfolding with_offset changed read
    inserted_has p =
        ap (λ (o : Outcome). (read o.words all_offsets).has p) accepted
        ∙ ap (λ (s : Members). s.has p)
        (read-write words with_offset
        (changed_clipped (eqb offset) (λ was. true) (read words all_offsets) (read_clipped words all_offsets) (λ q h. ne_eqb offset q (λ z. omega arith))))

-- ---- cleared words

pub zero_at : (words : List ℕ) {after : List ℕ} → after ≡ replicate (length words) 0 → (k : ℕ) → k < length words → get_or after k 0 ≡ 0
zero_at words e k h = ap (λ (ws : List ℕ). get_or ws k 0) e ∙ get_or-replicate (length words) k 0 0 h

pub zero_members : (words : List ℕ) → length words ≡ 1024 → ((k : ℕ) → k < length words → get_or words k 0 ≡ 0)
    → (p : ℕ) → p < 65536 → (read words all_offsets).has p ≡ false
unfolding bit_of
zero_members words long z p h =
    read_below words all_offsets p h ∙ ap (λ (w : ℕ). digit w (p % 64)) (z (p / 64) (omega arith)) ∙ digit_of_zero (p % 64)
