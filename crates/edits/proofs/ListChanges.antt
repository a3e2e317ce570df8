-- A list of positions, marked one after the other. Assumes nothing.
use mathlib.Core.Path.{◌≡◌, refl, sym, ap, ap₂, ◌∙◌, fun_ext}
use mathlib.Core.Bool.{Bool, true, false, cond, ◌||◌}
use mathlib.Core.List.{List, [], ◌∷◌}
use Prim.Native.Nat.{ℕ, suc, ◌+◌, ◌*◌, ◌/◌, ◌%◌, ◌^◌, ◌≤◌, ◌<◌}
use native.Mathlib.Numerals.{add-one}
use native.Mathlib.Omega.{arith}
use lib.Bits.{bit_or}
use lib.Dec.{eqb}
use lib.ListN.{length, get_or, drop, set as set_at, length-set}
use lib.Pow.{pow-lt}
use lib.Seq.{drop-cons, drop-length}
use borrow.Author.Tests.{ne_eqb}
use Rattle.word_bits.proofs.SingleBit.{single_bit}
use Rattle.sets.specs.Members.{Members, read, write, changed}
use Rattle.sets.specs.Questions.{positions_question}
use Rattle.sets.specs.declared.fixed_bit_set.FixedBitSet.{FixedBitSet}
use Rattle.sets.proofs.QuestionLaws.{Valid}
use Rattle.sets.proofs.ListQuestionLaws.{positions-both}
use Rattle.sets.proofs.WriteLaws.{Clipped, read-write, write-write, write_fits}
use Rattle.sets.proofs.ReadLaws.{read_clipped, write_read, changed_clipped, write_valid}
use Rattle.edits.specs.Edits.{inserted, is_in, inserted_all}
use Rattle.changes.specs.declared.change.Change.TheVariants.{Insert}
use Rattle.changes.proofs.WordChanges.{insert_word}
use Rattle.edits.proofs.PositionChanges.{word_room, position_write}

-- no position marks nothing
pub inserted-none : (s : Members) → inserted_all [] s ≡ s
unfolding changed is_in
inserted-none s = refl

-- the first position marked, then the others
pub inserted-more : (p : ℕ) (ps : List ℕ) (s : Members) → inserted_all (p ∷ ps) s ≡ inserted_all ps (inserted p s)
unfolding changed is_in
inserted-more p ps s = ap (λ (h : ℕ → Bool). record { len = s.len; has = h }) (fun_ext (λ q. go (eqb p q) (is_in ps q) (s.has q)))
  where
    go : (a b was : Bool) → cond (a || b) true was ≡ cond b true (cond a true was)
    go true true was = refl
    go true false was = refl
    go false true was = refl
    go false false was = refl

-- a list that question 4 accepts has no position from the length up
pub not_listed : (set : FixedBitSet) (ps : List ℕ) (p : ℕ) → positions_question set ps ≡ 0 → set.length ≤ p → is_in ps p ≡ false
unfolding is_in
not_listed set [] p e h = refl
not_listed set (q ∷ qs) p e h =
    let both = positions-both set q qs e in
    ap₂ ◌||◌ (ne_eqb q p (λ z. omega (arith, both.0))) (not_listed set qs p both.1 h)

-- what is written over a marked position
written : (ws : List ℕ) (set : FixedBitSet) (p : ℕ) (ps : List ℕ) → Valid set ws
    → write (write ws (inserted p (read ws set))) (inserted_all ps (inserted p (read ws set))) ≡ write ws (inserted_all ps (inserted p (read ws set)))
unfolding changed read
written ws set p ps v = write-write ws (inserted p (read ws set)) (inserted_all ps (inserted p (read ws set))) (omega arith) v.enough

-- the words with the bit of a position on
abbrev pub marked : List ℕ → ℕ → List ℕ
marked ws p = set_at ws (p / 64) (bit_or (get_or ws (p / 64) 0) ((1 * 2 ^ (p % 64)) % 2 ^ 64))

module _ (set : FixedBitSet) (ws : List ℕ) (v : Valid set ws) (fit : (k : ℕ) → get_or ws k 0 < 2 ^ 64) (p : ℕ) (h : p < set.length) where
  marked-write : marked ws p ≡ write ws (inserted p (read ws set))
  marked-write =
      ap (λ (m : ℕ). set_at ws (p / 64) (bit_or (get_or ws (p / 64) 0) m)) (single_bit (p % 64) (omega arith))
      ∙ ap (set_at ws (p / 64)) (insert_word (2 ^ (p % 64)) (get_or ws (p / 64) 0) (pow-lt {j = 64} (omega arith)) (fit (p / 64)))
      ∙ position_write set ws v fit p h Insert

  marked_clipped : Clipped (inserted p (read ws set))
  unfolding read
  marked_clipped = changed_clipped (eqb p) (λ was. true) (read ws set) (read_clipped ws set) (λ q l. ne_eqb p q (λ e. omega arith))

  marked_valid : Valid set (marked ws p)
  unfolding changed read
  marked_valid = rw marked-write (write_valid ws (inserted p (read ws set)) marked_clipped v.small v.enough)

  marked_fits : (k : ℕ) → get_or (marked ws p) k 0 < 2 ^ 64
  marked_fits k = rw marked-write (write_fits ws (inserted p (read ws set)) fit k)

  marked-read : read (marked ws p) set ≡ inserted p (read ws set)
  unfolding changed read
  marked-read = ap (λ (l : List ℕ). read l set) marked-write ∙ read-write ws (inserted p (read ws set)) marked_clipped

  -- what is marked after it is marked in the words that were there
  marked_rest : (ps : List ℕ) → write (marked ws p) (inserted_all ps (read (marked ws p) set)) ≡ write ws (inserted_all (p ∷ ps) (read ws set))
  marked_rest ps =
      ap₂ (λ (l : List ℕ) (s : Members). write l (inserted_all ps s)) marked-write marked-read
      ∙ written ws set p ps v ∙ ap (write ws) (sym (inserted-more p ps (read ws set)))

-- ---- the loop

-- the words after the first k positions, the others still to be marked
pub record Marking (set : FixedBitSet) (ps ws₀ : List ℕ) (k : ℕ) (ws : List ℕ) : Type 0 where
  pub valid : Valid set ws
  pub fits : (i : ℕ) → get_or ws i 0 < 2 ^ 64
  pub same : length ws ≡ length ws₀
  pub asked : positions_question set (drop k ps) ≡ 0
  pub rest : write ws (inserted_all (drop k ps) (read ws set)) ≡ write ws₀ (inserted_all ps (read ws₀ set))

module _ (set : FixedBitSet) (ps ws₀ : List ℕ) where
  pub marking_start : Valid set ws₀ → ((i : ℕ) → get_or ws₀ i 0 < 2 ^ 64) → positions_question set ps ≡ 0 → Marking set ps ws₀ 0 ws₀
  marking_start v fit e = record { valid = v; fits = fit; same = refl; asked = e; rest = refl }

  module _ (k : ℕ) (ws : List ℕ) (m : Marking set ps ws₀ k ws) (h : k < length ps) where
    asked : (get_or ps k 0 < set.length) × (positions_question set (drop (suc k) ps) ≡ 0)
    asked = positions-both set (get_or ps k 0) (drop (suc k) ps) (ap (positions_question set) (sym (drop-cons ps k 0 h)) ∙ m.asked)

    pub marking_room : get_or ps k 0 / 64 < length ws
    marking_room = word_room m.valid (get_or ps k 0) asked.0

    next : Marking set ps ws₀ (suc k) (marked ws (get_or ps k 0))
    next = record {
      valid = marked_valid set ws m.valid m.fits (get_or ps k 0) asked.0;
      fits = marked_fits set ws m.valid m.fits (get_or ps k 0) asked.0;
      same = length-set ws (get_or ps k 0 / 64) _ ∙ m.same;
      asked = asked.1;
      rest = marked_rest set ws m.valid m.fits (get_or ps k 0) asked.0 (drop (suc k) ps)
          ∙ ap (λ (qs : List ℕ). write ws (inserted_all qs (read ws set))) (sym (drop-cons ps k 0 h)) ∙ m.rest;
    }

    pub marking_next : Marking set ps ws₀ (k + 1) (marked ws (get_or ps k 0))
    marking_next = rw add-one next

  pub marking_end : (k : ℕ) (ws : List ℕ) → Marking set ps ws₀ k ws → k ≡ length ps
      → ws ≡ write ws₀ (inserted_all ps (read ws₀ set))
  marking_end k ws m e =
      sym (write_read set ws m.valid m.fits) ∙ ap (write ws) (sym (inserted-none (read ws set)))
      ∙ ap (λ (qs : List ℕ). write ws (inserted_all qs (read ws set))) (sym (drop-length ps) ∙ ap (λ (n : ℕ). drop n ps) (sym e)) ∙ m.rest
