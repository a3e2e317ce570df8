-- The next selected position at each end, by what the search finds in words. Assumes nothing.
use mathlib.Core.Path.{◌≡◌, sym, ap, ap₂, ◌∙◌, fun_ext}
use mathlib.Core.Bool.{Bool}
use mathlib.Core.List.{List}
use Prim.Native.Nat.{ℕ, ◌+◌, ◌-◌, ◌*◌, ◌/◌, ◌%◌, ◌^◌, ◌≤◌, ◌<◌}
use native.Mathlib.Omega.{arith}
use lib.Bits.{bit_and}
use lib.ListN.{get_or}
use Rattle.std.specs.Prelude.{Option, Some, None}
use Rattle.word_bits.specs.Counts.{zeros_below, zeros_above}
use Rattle.word_bits.specs.Digits.{digit, row}
use Rattle.word_bits.specs.LowMask.{low_mask}
use Rattle.word_bits.proofs.Ends.{below_lt}
use Rattle.word_bits.proofs.ShiftMasks.{shifted_up, shifted_down}
use Rattle.sets.specs.Members.{bit_of}
use Rattle.parts.specs.Helpers.{FirstWord, LastWord, selected_word, next_from, prev_from}
use Rattle.parts.specs.Selections.{Selection, selected}
use Rattle.parts.proofs.SelectLaws.{select_lt, select_row}
use Rattle.parts.proofs.WordSearch.{first_cut, here_lt, front_here, front-empty, front_later, front_over, prev_empty, last_cut, above_here, back_here, back_later, back_over}

module _ (s : Selection) (ws vs : List ℕ) (hw : (k : ℕ) → get_or ws k 0 < 2 ^ 64) (hv : (k : ℕ) → get_or vs k 0 < 2 ^ 64) (low high : ℕ) where
  abbrev word : ℕ → ℕ
  word = selected_word s ws vs

  fit : (k : ℕ) → word k < 2 ^ 64
  fit k = select_lt _ _ (hw k) (hv k) s

  abbrev has : ℕ → Bool
  has p = selected s (bit_of ws p) (bit_of vs p)

  pub later_lt : (k : ℕ) {y : ℕ} → (word k ≡ 0 → ⊥) → y ≡ word k → zeros_below 64 (digit y) < 64
  later_lt k n e = rw e (below_lt 64 (word k) (omega (arith, n)) (fit k))

  -- the selected positions are the bits of the selected words
  next_by : {r : Option ℕ} → next_from (row word) low high ≡ r → r ≡ next_from has low high
  next_by e = sym e ∙ ap (λ (f : ℕ → Bool). next_from f low high) (fun_ext (λ p. select_row s ws vs hw hv p))

  prev_by : {r : Option ℕ} → prev_from (row word) low high ≡ r → r ≡ prev_from has low high
  prev_by e = sym e ∙ ap (λ (f : ℕ → Bool). prev_from f low high) (fun_ext (λ p. select_row s ws vs hw hv p))

  -- the first word, cut at low
  module _ {x : ℕ} (at : x ≡ word (low / 64)) where
    abbrev cut_up : ℕ
    cut_up = bit_and x (((2 ^ 64 - 1) * 2 ^ (low % 64)) % 2 ^ 64)

    cut_up_is : cut_up ≡ first_cut word low high fit
    cut_up_is = ap₂ bit_and at (shifted_up (low % 64) (omega arith))

    pub up_lt : (cut_up ≡ 0 → ⊥) → zeros_below 64 (digit cut_up) < 64
    up_lt n = rw cut_up_is (here_lt word low high fit (λ z. n (cut_up_is ∙ z)))

    pub up_here : {t : ℕ} → (cut_up ≡ 0 → ⊥) → t ≡ zeros_below 64 (digit cut_up) → Some (low / 64 * 64 + t) ≡ next_from has low high
    up_here n e =
        next_by (front_here word low high fit (λ z. n (cut_up_is ∙ z))
        ∙ ap (λ (i : ℕ). Some (low / 64 * 64 + i)) (sym (e ∙ ap (λ (y : ℕ). zeros_below 64 (digit y)) cut_up_is)))

    module _ (z : cut_up ≡ 0) where
      pub up_empty : high ≤ low → None ≡ next_from has low high
      up_empty g = next_by (front-empty word low high fit (sym cut_up_is ∙ z) g)

      pub up_over : low < high → FirstWord word (low / 64 + 1) ((high - 1) / 64 + 1) None → None ≡ next_from has low high
      up_over h none = next_by (front_over word low high fit (sym cut_up_is ∙ z) h none)

      pub up_later : low < high → {k y t : ℕ} → FirstWord word (low / 64 + 1) ((high - 1) / 64 + 1) (Some k) → y ≡ word k → t ≡ zeros_below 64 (digit y)
          → Some (k * 64 + t) ≡ next_from has low high
      up_later h {k} found f e =
          next_by (front_later word low high fit (sym cut_up_is ∙ z) h k found
          ∙ ap (λ (i : ℕ). Some (k * 64 + i)) (sym (e ∙ ap (λ (y : ℕ). zeros_below 64 (digit y)) f)))

  pub down_empty : high ≤ low → None ≡ prev_from has low high
  down_empty g = prev_by (prev_empty word low high g)

  -- the last word, cut at high
  module _ (h : low < high) {x : ℕ} (at : x ≡ word ((high - 1) / 64)) where
    abbrev cut_down : ℕ
    cut_down = bit_and x ((2 ^ 64 - 1) / 2 ^ (63 - (high - 1) % 64))

    cut_down_is : cut_down ≡ last_cut word low high fit h
    cut_down_is =
        let n : 64 - (63 - (high - 1) % 64) ≡ (high - 1) % 64 + 1 = omega arith in
        ap₂ bit_and at (shifted_down (63 - (high - 1) % 64) (omega arith) ∙ ap low_mask n)

    -- it is within the part
    pub down_inside : (cut_down ≡ 0 → ⊥) → (zeros_above 64 (digit cut_down) < 64) × ((high - 1) / 64 * 64 + (63 - zeros_above 64 (digit cut_down)) < high)
    down_inside n = rw cut_down_is (above_here word low high fit h (λ z. n (cut_down_is ∙ z)))

    pub down_here : {t : ℕ} → (cut_down ≡ 0 → ⊥) → t ≡ zeros_above 64 (digit cut_down) → Some ((high - 1) / 64 * 64 + (63 - t)) ≡ prev_from has low high
    down_here n e =
        prev_by (back_here word low high fit h (λ z. n (cut_down_is ∙ z))
        ∙ ap (λ (i : ℕ). Some ((high - 1) / 64 * 64 + (63 - i))) (sym (e ∙ ap (λ (y : ℕ). zeros_above 64 (digit y)) cut_down_is)))

    module _ (z : cut_down ≡ 0) where
      pub down_over : LastWord word (low / 64) ((high - 1) / 64) None → None ≡ prev_from has low high
      down_over none = prev_by (back_over word low high fit h (sym cut_down_is ∙ z) none)

      pub down_later : {k y t : ℕ} → LastWord word (low / 64) ((high - 1) / 64) (Some k) → y ≡ word k → t ≡ zeros_above 64 (digit y)
          → Some (k * 64 + (63 - t)) ≡ prev_from has low high
      down_later {k} found f e =
          prev_by (back_later word low high fit h (sym cut_down_is ∙ z) k found
          ∙ ap (λ (i : ℕ). Some (k * 64 + (63 - i))) (sym (e ∙ ap (λ (y : ℕ). zeros_above 64 (digit y)) f)))
