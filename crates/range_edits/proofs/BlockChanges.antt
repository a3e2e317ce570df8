-- The words after the change of a range: its first word, the whole words between, its last word. Assumes nothing.
use mathlib.Core.Path.{◌≡◌, refl, sym, ap, ◌∙◌}
use mathlib.Core.Bool.{Bool, true, false}
use mathlib.Core.List.{List}
use mathlib.Core.Logic.{◌⊎◌, inl, inr}
use Prim.Native.Nat.{ℕ, ◌+◌, ◌-◌, ◌/◌, ◌^◌, ◌≤◌, ◌<◌}
use native.Mathlib.Omega.{arith}
use borrow.Author.Tests.{eqb-true, eqb-false}
use lib.Dec.{eqb}
use lib.ListN.{length, get_or, set as set_at, length-set}
use lib.Seq.{get_or-set_same, get_or-set_other}
use Rattle.word_bits.proofs.Order.{lt-or-le}
use Rattle.masks.specs.Ranges.{end_block}
use Rattle.masks.specs.RangeMasks.{range_mask}
use Rattle.masks.proofs.MaskLaws.{mask_before, mask_beyond, mask_whole}
use Rattle.masks.proofs.RangeLaws.{covers_below, covers_above}
use Rattle.blocks.specs.Sweeps.{swept}
use Rattle.blocks.proofs.BlockLaws.{length-swept, swept_in, swept_out, swept_all}
use Rattle.changes.specs.Changes.{changed_word}
use Rattle.changes.specs.declared.change.Change.{Change}
use Rattle.changes.proofs.WordChanges.{no_mask}

-- each word changed under its own mask
abbrev pub masked : Change → ℕ → ℕ → ℕ → ℕ → ℕ
masked change start end k w = changed_word change (range_mask start end k) w

abbrev pub whole : Change → ℕ → ℕ → ℕ
whole change k w = changed_word change (2 ^ 64 - 1) w

module _ (change : Change) (start end : ℕ) (ws : List ℕ) (fit : (k : ℕ) → get_or ws k 0 < 2 ^ 64) where
  -- a word that the range does not meet
  outside : (k : ℕ) → (k < start / 64) ⊎ (end_block start end ≤ k) → get_or ws k 0 ≡ masked change start end k (get_or ws k 0)
  outside k (inl l) = sym (ap (λ (m : ℕ). changed_word change m (get_or ws k 0)) (mask_before start end k l) ∙ no_mask change (get_or ws k 0) (fit k))
  outside k (inr g) = sym (ap (λ (m : ℕ). changed_word change m (get_or ws k 0)) (mask_beyond start end k g) ∙ no_mask change (get_or ws k 0) (fit k))

  pub no_word : end_block start end ≤ start / 64 → ws ≡ swept 0 (length ws) (masked change start end) ws
  no_word h = swept_all (masked change start end) ws ws refl (λ k l. outside k (go k (lt-or-le k (start / 64))))
    where
      go : (k : ℕ) → (k < start / 64) ⊎ (start / 64 ≤ k) → (k < start / 64) ⊎ (end_block start end ≤ k)
      go k (inl a) = inl a
      go k (inr b) = inr (omega arith)

  -- word k stored as its change, in words that have the others as they were
  at_word : (k : ℕ) (us : List ℕ) → length us ≡ length ws → get_or us k 0 ≡ get_or ws k 0 → k < length ws
      → get_or (set_at us k (masked change start end k (get_or us k 0))) k 0 ≡ masked change start end k (get_or ws k 0)
  at_word k us e s h =
      get_or-set_same us k (masked change start end k (get_or us k 0)) 0 (rw e h) ∙ ap (masked change start end k) s

  pub one_word : end_block start end ≡ start / 64 + 1
      → set_at ws (start / 64) (masked change start end (start / 64) (get_or ws (start / 64) 0)) ≡ swept 0 (length ws) (masked change start end) ws
  one_word e = swept_all (masked change start end) _ ws (length-set ws (start / 64) _) (λ k l. go k l (eqb k (start / 64)) refl)
    where
      go : (k : ℕ) → k < length ws → (t : Bool) → eqb k (start / 64) ≡ t
          → get_or (set_at ws (start / 64) (masked change start end (start / 64) (get_or ws (start / 64) 0))) k 0 ≡ masked change start end k (get_or ws k 0)
      go k l true q = rw (eqb-true k (start / 64) q) (at_word (start / 64) ws refl refl (rw (← eqb-true k (start / 64) q) l))
      go k l false q =
          let ne = eqb-false k (start / 64) q in
          get_or-set_other ws (start / 64) k _ 0 ne ∙ outside k (side (lt-or-le k (start / 64)) ne)
        where
          side : (k < start / 64) ⊎ (start / 64 ≤ k) → (k ≡ start / 64 → ⊥) → (k < start / 64) ⊎ (end_block start end ≤ k)
          side (inl a) n = inl a
          side (inr b) n = inr (omega arith)

  pub many-words : start / 64 < end_block start end - 1
      → set_at (swept (start / 64 + 1) (end_block start end - 1) (whole change) (set_at ws (start / 64) (masked change start end (start / 64) (get_or ws (start / 64) 0))))
      (end_block start end - 1)
      (masked change start end (end_block start end - 1)
      (get_or (swept (start / 64 + 1) (end_block start end - 1) (whole change) (set_at ws (start / 64) (masked change start end (start / 64) (get_or ws (start / 64) 0)))) (end_block start end - 1) 0))
      ≡ swept 0 (length ws) (masked change start end) ws
  many-words h = swept_all (masked change start end) _ ws (length-set mid last _ ∙ len_mid) (λ k l. go k l (lt-or-le k last) (lt-or-le last k))
    where
      last : ℕ
      last = end_block start end - 1

      one : List ℕ
      one = set_at ws (start / 64) (masked change start end (start / 64) (get_or ws (start / 64) 0))

      mid : List ℕ
      mid = swept (start / 64 + 1) last (whole change) one

      len_mid : length mid ≡ length ws
      len_mid = length-swept (start / 64 + 1) last (whole change) one ∙ length-set ws (start / 64) _

      one-other : (k : ℕ) → (k ≡ start / 64 → ⊥) → get_or one k 0 ≡ get_or ws k 0
      one-other k n = get_or-set_other ws (start / 64) k _ 0 n

      before : (k : ℕ) → k < length ws → k < last → (k < start / 64) ⊎ (start / 64 ≤ k) → (start / 64 < k) ⊎ (k ≤ start / 64)
          → get_or mid k 0 ≡ masked change start end k (get_or ws k 0)
      before k l a (inl b) w =
          swept_out (start / 64 + 1) last (whole change) one k (covers_below (start / 64 + 1) last k (omega arith))
          ∙ one-other k (λ e. omega arith) ∙ outside k (inl b)
      before k l a (inr b) (inl d) =
          swept_in (start / 64 + 1) last (whole change) one k (rw (length-set ws (start / 64) (masked change start end (start / 64) (get_or ws (start / 64) 0))) l) (omega arith) a
          ∙ ap (λ (w : ℕ). changed_word change (2 ^ 64 - 1) w) (one-other k (λ e. omega arith))
          ∙ ap (λ (m : ℕ). changed_word change m (get_or ws k 0)) (sym (mask_whole start end k d (omega arith)))
      before k l a (inr b) (inr d) =
          let same : k ≡ start / 64 = omega arith in
          swept_out (start / 64 + 1) last (whole change) one k (covers_below (start / 64 + 1) last k (omega arith))
          ∙ rw same (at_word (start / 64) ws refl refl (rw (← same) l))

      go : (k : ℕ) → k < length ws → (k < last) ⊎ (last ≤ k) → (last < k) ⊎ (k ≤ last)
          → get_or (set_at mid last (masked change start end last (get_or mid last 0))) k 0 ≡ masked change start end k (get_or ws k 0)
      go k l (inl a) w =
          get_or-set_other mid last k _ 0 (λ e. omega arith) ∙ before k l a (lt-or-le k (start / 64)) (lt-or-le (start / 64) k)
      go k l (inr a) (inl b) =
          get_or-set_other mid last k _ 0 (λ e. omega arith)
          ∙ swept_out (start / 64 + 1) last (whole change) one k (covers_above (start / 64 + 1) last k a)
          ∙ one-other k (λ e. omega arith) ∙ outside k (inr (omega arith))
      go k l (inr a) (inr b) =
          let same : k ≡ last = omega arith in
          rw same
          (at_word last mid len_mid
          (swept_out (start / 64 + 1) last (whole change) one last (covers_above (start / 64 + 1) last last (omega arith)) ∙ one-other last (λ e. omega arith))
          (rw (← same) l))
