-- Tests of a range, word by word: some bit of it differs from that of `skip`. Assumes nothing.
use mathlib.Core.Path.{◌≡◌, refl, sym, ap, ap₂, ◌∙◌}
use mathlib.Core.Bool.{Bool, true, false, not, xor, false≢true}
use mathlib.Core.List.{List}
use mathlib.Core.Logic.{◌⊎◌, inl, inr}
use Prim.Native.Nat.{ℕ, ◌+◌, ◌-◌, ◌*◌, ◌/◌, ◌%◌, ◌^◌, ◌≤◌, ◌<◌}
use native.Mathlib.Nat.{div-add-mod', lt_of_le_of_lt, mod-eq_of_lt}
use native.Mathlib.Omega.{arith}
use borrow.Author.Tests.{eqb-true, eqb-false}
use lib.Bits.{bit_and, bit_xor, and_le_l, and_le_r, and_mask, and_zero_l, xor_add_and, xor_lt, xor_self}
use lib.Dec.{eqb, lit<}
use lib.ListN.{get_or}
use Rattle.word_bits.specs.Digits.{digit}
use Rattle.word_bits.specs.Counts.{some, zeros_below}
use Rattle.word_bits.proofs.Digits.{digit_of_zero}
use Rattle.word_bits.proofs.Ends.{below_lt, below_yes}
use Rattle.word_bits.proofs.Operations.{digit-xor, digit_not}
use Rattle.word_bits.proofs.Order.{lt-or-le}
use Rattle.word_bits.proofs.Quantifiers.{some-yes, some_no}
use Rattle.masks.specs.Ranges.{end_block}
use Rattle.masks.specs.RangeMasks.{range_mask}
use Rattle.masks.proofs.MaskLaws.{mask_whole}
use Rattle.masks.proofs.RangeLaws.{end_block_lem}
use Rattle.sets.specs.Members.{bit_of}
use Rattle.sets.proofs.WordLaws.{bit_at}
use Rattle.tests.proofs.PartLaws.{part_below, part_above, masked_digit, in_range}
use Rattle.tests.specs.Helpers.{differs}

-- ---- the in_range of a row that a range covers

module _ (start end : ℕ) (f : ℕ → Bool) where
  some_part : (p : ℕ) → in_range start end f p ≡ true → some end (in_range start end f) ≡ true
  some_part p y = go (lt-or-le p end)
    where
      go : (p < end) ⊎ (end ≤ p) → some end (in_range start end f) ≡ true
      go (inl l) = some-yes end (in_range start end f) p l y
      go (inr g) = absurd (false≢true (sym (part_above start end f p g) ∙ y))

  -- no yes in the words that the range meets
  none_in_words : ((k j : ℕ) → start / 64 ≤ k → k < end_block start end → j < 64 → in_range start end f (k * 64 + j) ≡ false)
      → some end (in_range start end f) ≡ false
  none_in_words zs = some_no end (in_range start end f) (λ p h. go p h (lt-or-le p start))
    where
      go : (p : ℕ) → p < end → (p < start) ⊎ (start ≤ p) → in_range start end f p ≡ false
      go p h (inl l) = part_below start end f p l
      go p h (inr g) =
          let e = end_block_lem start end (omega arith) in
          ap (in_range start end f) (sym (div-add-mod' p 64)) ∙ zs (p / 64) (p % 64) (omega arith) (omega arith) (omega arith)

-- word k of the row, under the mask
module _ (start end k w : ℕ) (f : ℕ → Bool) (same : (j : ℕ) → j < 64 → digit w j ≡ f (k * 64 + j)) where
  masked_none : bit_and w (range_mask start end k) ≡ 0 → (j : ℕ) → j < 64 → in_range start end f (k * 64 + j) ≡ false
  masked_none z j l = sym (masked_digit start end k w f same j l) ∙ ap (λ (y : ℕ). digit y j) z ∙ digit_of_zero j

  masked_some : w < 2 ^ 64 → (bit_and w (range_mask start end k) ≡ 0 → ⊥) → some end (in_range start end f) ≡ true
  masked_some fit n =
      let x : ℕ = bit_and w (range_mask start end k) in
      let low : zeros_below 64 (digit x) < 64 = below_lt 64 x (omega arith) (lt_of_le_of_lt (and_le_l w (range_mask start end k)) fit) in
      some_part start end f (k * 64 + zeros_below 64 (digit x)) (sym (masked_digit start end k w f same (zeros_below 64 (digit x)) low) ∙ below_yes 64 (digit x) low)

-- ---- words

xor-zero : (a b : ℕ) → bit_xor a b ≡ 0 → a ≡ b
xor-zero a b z = omega (arith, xor_add_and a b, and_le_l a b, and_le_r a b, z)

-- the bits of word k of the range that differ from `skip`
abbrev pub unlike : ℕ → ℕ → ℕ → List ℕ → ℕ → ℕ
unlike start end skip ws k = bit_and (bit_xor (get_or ws k 0) skip) (range_mask start end k)

module _ (start end skip : ℕ) (ws : List ℕ) where
  differs_word : (k j : ℕ) → j < 64 → digit (bit_xor (get_or ws k 0) skip) j ≡ differs ws skip (k * 64 + j)
  unfolding differs
  differs_word k j l =
      let r : j ≡ (k * 64 + j) % 64 = omega arith in
      digit-xor (get_or ws k 0) skip j ∙ ap₂ xor (sym (bit_at ws k j l)) (ap (digit skip) r)

  none_at : (k : ℕ) → unlike start end skip ws k ≡ 0 → (j : ℕ) → j < 64 → in_range start end (differs ws skip) (k * 64 + j) ≡ false
  none_at k = masked_none start end k (bit_xor (get_or ws k 0) skip) (differs ws skip) (differs_word k)

  none_like : (k : ℕ) → get_or ws k 0 ≡ skip → unlike start end skip ws k ≡ 0
  none_like k e =
      ap (λ (w : ℕ). bit_and (bit_xor w skip) (range_mask start end k)) e ∙ ap (λ (x : ℕ). bit_and x (range_mask start end k)) (xor_self skip)
      ∙ and_zero_l (range_mask start end k)

  pub other-empty : end_block start end ≤ start / 64 → some end (in_range start end (differs ws skip)) ≡ false
  other-empty h = none_in_words start end (differs ws skip) (λ k j a b l. absurd (omega arith))

  pub other-one : end_block start end - 1 ≤ start / 64 → unlike start end skip ws (start / 64) ≡ 0
      → some end (in_range start end (differs ws skip)) ≡ false
  other-one h z =
      none_in_words start end (differs ws skip)
      (λ k j a b l. let same : k ≡ start / 64 = omega arith in rw same (none_at (start / 64) z j l))

  module _ (fits : skip < 2 ^ 64) where
    pub other_at : (k : ℕ) → get_or ws k 0 < 2 ^ 64 → (unlike start end skip ws k ≡ 0 → ⊥) → some end (in_range start end (differs ws skip)) ≡ true
    other_at k fit n =
        masked_some start end k (bit_xor (get_or ws k 0) skip) (differs ws skip) (differs_word k) (xor_lt 64 (get_or ws k 0) skip fit fits) n

    -- a word between the first and the last is looked at whole
    pub other_between : (k : ℕ) → start / 64 < k → k + 1 < end_block start end → get_or ws k 0 < 2 ^ 64 → (get_or ws k 0 ≡ skip → ⊥)
        → some end (in_range start end (differs ws skip)) ≡ true
    other_between k a b fit n =
        let x : ℕ = bit_xor (get_or ws k 0) skip in
        other_at k fit
        (λ z. n (xor-zero (get_or ws k 0) skip
        (sym (mod-eq_of_lt (xor_lt 64 (get_or ws k 0) skip fit fits)) ∙ sym (and_mask x 64) ∙ ap (bit_and x) (sym (mask_whole start end k a b)) ∙ z)))

    -- where the words before the last are alike, the last decides
    pub other_last : (last : ℕ) → last + 1 ≡ end_block start end → get_or ws last 0 < 2 ^ 64 → unlike start end skip ws (start / 64) ≡ 0
        → ((k : ℕ) → start / 64 + 1 ≤ k → k < last → get_or ws k 0 ≡ skip)
        → not (eqb (unlike start end skip ws last) 0) ≡ some end (in_range start end (differs ws skip))
    other_last last e fit z mid = go (eqb (unlike start end skip ws last) 0) refl
      where
        at : unlike start end skip ws last ≡ 0 → (k j : ℕ) → start / 64 ≤ k → k < end_block start end → j < 64
            → (start / 64 < k) ⊎ (k ≤ start / 64) → (k < last) ⊎ (last ≤ k) → in_range start end (differs ws skip) (k * 64 + j) ≡ false
        at y k j a b l (inr h) w = let same : k ≡ start / 64 = omega arith in rw same (none_at (start / 64) z j l)
        at y k j a b l (inl h) (inl m) = none_at k (none_like k (mid k (omega arith) m)) j l
        at y k j a b l (inl h) (inr m) = let same : k ≡ last = omega arith in rw same (none_at last y j l)

        go : (t : Bool) → eqb (unlike start end skip ws last) 0 ≡ t → not t ≡ some end (in_range start end (differs ws skip))
        go true y =
            sym (none_in_words start end (differs ws skip)
            (λ k j a b l. at (eqb-true (unlike start end skip ws last) 0 y) k j a b l (lt-or-le (start / 64) k) (lt-or-le k last)))
        go false y = sym (other_at last fit (eqb-false (unlike start end skip ws last) 0 y))

-- ---- a word of zeros, and a word of ones

pub differs_none : (ws : List ℕ) (p : ℕ) → differs ws 0 p ≡ bit_of ws p
unfolding differs xor
differs_none ws p = ap (xor (bit_of ws p)) (digit_of_zero (p % 64)) ∙ go (bit_of ws p)
  where
    go : (b : Bool) → xor b false ≡ b
    go true = refl
    go false = refl

pub differs-all : (ws : List ℕ) (p : ℕ) → differs ws (2 ^ 64 - 1) p ≡ not (bit_of ws p)
unfolding differs xor
differs-all ws p =
    ap (xor (bit_of ws p)) (digit_not 64 0 (p % 64) (lit< tt) (omega arith) ∙ ap not (digit_of_zero (p % 64))) ∙ go (bit_of ws p)
  where
    go : (b : Bool) → xor b true ≡ not b
    go true = refl
    go false = refl
