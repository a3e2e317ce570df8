-- What the loop that writes positions keeps: what it has stored and what the steps to come will store is the whole. Assumes nothing.
use mathlib.Core.Path.{◌≡◌, refl, sym, ap, ◌∙◌, fun_ext}
use mathlib.Core.Bool.{Bool, true, false, not, ◌&&◌, and-true, and-false, false≢true}
use mathlib.Core.List.{List}
use mathlib.Core.Logic.{◌⊎◌, inl, inr}
use Prim.Native.Nat.{ℕ, ◌+◌, ◌-◌, ◌*◌, ◌/◌, ◌%◌, ◌^◌, ◌≤◌, ◌<◌, min}
use native.Mathlib.Nat.{add-sub_of_le, le_refl}
use native.Mathlib.Omega.{arith}
use borrow.Author.Tests.{lt-ltb, le-ltb}
use lib.Bits.{bit_and, and_lt}
use lib.ListN.{length, set, get_or}
use lib.Pow.{ones_sub-lt}
use Rattle.std.proofs.Common.{Fits, w64}
use Rattle.word_bits.specs.Counts.{zeros_below}
use Rattle.word_bits.specs.Digits.{digit, row}
use Rattle.word_bits.specs.LowMask.{low_mask}
use Rattle.word_bits.proofs.Digits.{digit_of_zero, row_at}
use Rattle.word_bits.proofs.Ends.{below_lt, below_no, below_yes}
use Rattle.word_bits.proofs.Order.{lt-or-le}
use Rattle.word_bits.proofs.ShiftMasks.{digit-from, shifted_up}
use Rattle.sets.specs.Members.{bit_of, words_of}
use Rattle.sets.proofs.WordLaws.{words_hold}
use Rattle.parts.specs.Helpers.{selected_word}
use Rattle.parts.specs.Selections.{Selection, selected}
use Rattle.parts.proofs.SelectLaws.{select_lt, select_row}
use Rattle.next_many.specs.Helpers.{FillOutcome, filled}
use Rattle.next_many.proofs.LowestLaws.{unset_lt, unset_low, unset_high}
use Rattle.next_many.proofs.BufferLaws.{filled_full, filled_over, filled_more}

pub selected_fit : (s : Selection) (ws vs : List ℕ) → ((k : ℕ) → Fits w64 (get_or ws k 0)) → ((k : ℕ) → Fits w64 (get_or vs k 0)) → (k : ℕ) → selected_word s ws vs k < 2 ^ 64
selected_fit s ws vs fit_w fit_v k = select_lt _ _ (fit_w k).fits (fit_v k).fits s

module _ (s : Selection) (ws vs : List ℕ) (high : ℕ) where
  abbrev f : ℕ → ℕ
  f = selected_word s ws vs

  abbrev top : ℕ
  top = min high (length ws * 64)

  abbrev end : ℕ
  end = min (words_of high) (length ws)

  abbrev whole : ℕ → List ℕ → FillOutcome
  whole start buffer = filled (λ (p : ℕ). selected s (bit_of ws p) (bit_of vs p)) top 0 start buffer

  -- no word that the part ends before
  pub filling_none : (low : ℕ) (out : List ℕ) → end ≤ low / 64 → record { count = 0; low = low; out = out } ≡ whole low out
  filling_none low out g = sym (filled_over _ top 0 low out (λ p a b. absurd (omega (arith, words_hold high))))

  module _ (start : ℕ) (buffer : List ℕ) where
    -- `rest` is what is left of word k, and no position from low up stands before that word
    pub record Filling (k rest n low : ℕ) (out : List ℕ) : Type 0 where
      pub fits : rest < 2 ^ 64
      pub inside : k * 64 < top
      pub near : low ≤ k * 64 + 64
      pub cut : (j : ℕ) → j < 64 → k * 64 + j < low → digit rest j ≡ false
      pub kept : (j : ℕ) → j < 64 → low ≤ k * 64 + j → digit rest j ≡ digit (f k) j
      pub passed : (q : ℕ) → low ≤ q → q < k * 64 → row f q ≡ false
      pub to_come : filled (row f) top n low out ≡ whole start buffer

    module _ {k rest n low : ℕ} {out : List ℕ} (h : Filling k rest n low out) where
      abbrev here : FillOutcome
      here = record { count = n; low = low; out = out }

      -- up to bit b of the word no position from low up, where no bit below b is left
      clear_to : (b : ℕ) → b ≤ 64 → ((j : ℕ) → j < b → digit rest j ≡ false) → (q : ℕ) → low ≤ q → q < k * 64 + b → row f q ≡ false
      clear_to b l zs q a i = go (lt-or-le q (k * 64))
        where
          go : (q < k * 64) ⊎ (k * 64 ≤ q) → row f q ≡ false
          go (inl m) = h.passed q a m
          go (inr g) =
              ap (row f) (sym (add-sub_of_le g)) ∙ row_at f k (q - k * 64) (omega arith) ∙ sym (h.kept (q - k * 64) (omega arith) (omega arith)) ∙ zs (q - k * 64) (omega arith)

      pub filling_full : length out ≤ n → here ≡ whole start buffer
      filling_full g = sym (filled_full (row f) top n low out g) ∙ h.to_come

      -- ---- a word with no bit left

      module _ (z : rest ≡ 0) where
        passed_word : (q : ℕ) → low ≤ q → q < k * 64 + 64 → row f q ≡ false
        passed_word = clear_to 64 (le_refl 64) (λ j l. ap (λ (x : ℕ). digit x j) z ∙ digit_of_zero j)

        pub filling_word : {w : ℕ} → ((i : ℕ) → f i < 2 ^ 64) → k + 1 < end → w ≡ f (k + 1) → Filling (k + 1) w n low out
        filling_word fit l e = rw e record {
          fits = fit (k + 1);
          inside = omega (arith, words_hold high);
          near = omega (arith, h.near);
          cut = λ j i b. absurd (omega (arith, h.near));
          kept = λ j i b. refl;
          passed = λ q a b. passed_word q a (omega arith);
          to_come = h.to_come;
        }

        pub filling_over : end ≤ k + 1 → here ≡ whole start buffer
        filling_over g = sym (filled_over (row f) top n low out (λ q a b. passed_word q a (omega (arith, words_hold high)))) ∙ h.to_come

      -- ---- the lowest bit of a word that has one

      module _ (some : rest ≡ 0 → ⊥) where
        abbrev lowest : ℕ
        lowest = zeros_below 64 (digit rest)

        pub lowest_lt : lowest < 64
        lowest_lt = below_lt 64 rest (omega arith) h.fits

        -- it stands from low up
        pub lowest_le : low ≤ k * 64 + lowest
        lowest_le = go (lt-or-le (k * 64 + lowest) low)
          where
            go : (k * 64 + lowest < low) ⊎ (low ≤ k * 64 + lowest) → low ≤ k * 64 + lowest
            go (inl i) = absurd (false≢true (sym (h.cut lowest lowest_lt i) ∙ below_yes 64 (digit rest) lowest_lt))
            go (inr g) = g

        before : (q : ℕ) → low ≤ q → q < k * 64 + lowest → row f q ≡ false
        before = clear_to lowest (omega (arith, lowest_lt)) (below_no 64 (digit rest))

        pub filling_past : {t : ℕ} → t ≡ lowest → high ≤ k * 64 + t → here ≡ whole start buffer
        filling_past e g = sym (filled_over (row f) top n low out (λ q a b. before q a (omega arith))) ∙ h.to_come

        pub filling_position : {t : ℕ} → t ≡ lowest → k * 64 + t < high → n < length out → Filling k (bit_and rest (rest - 1)) (n + 1) (k * 64 + t + 1) (set out n (k * 64 + t))
        filling_position e b l = rw e record {
          fits = unset_lt rest h.fits some;
          inside = h.inside;
          near = omega (arith, lowest_lt);
          cut = λ j i c. unset_low rest h.fits some j i (omega arith);
          kept = λ j i c. unset_high rest h.fits some j i (omega arith) ∙ h.kept j i (omega (arith, lowest_le));
          passed = λ q a c. absurd (omega arith);
          to_come = sym (filled_more (row f) top n low out (k * 64 + lowest) lowest_le (omega (arith, lowest_lt, h.inside)) at_lowest before l) ∙ h.to_come;
        }
          where
            at_lowest : row f (k * 64 + lowest) ≡ true
            at_lowest = row_at f k lowest lowest_lt ∙ sym (h.kept lowest lowest_lt lowest_le) ∙ below_yes 64 (digit rest) lowest_lt

  -- ---- the first word, cut at low

  module _ (fit_w : (k : ℕ) → Fits w64 (get_or ws k 0)) (fit_v : (k : ℕ) → Fits w64 (get_or vs k 0)) where
    -- the selected positions are the bits of the selected words
    pub filling_start : {w : ℕ} (low : ℕ) (out : List ℕ) → low / 64 < end → w ≡ f (low / 64) → Filling low out (low / 64) (bit_and w (((2 ^ 64 - 1) * 2 ^ (low % 64)) % 2 ^ 64)) 0 low out
    filling_start low out l e = rw (e, shifted_up (low % 64) (omega arith)) record {
      fits = and_lt 64 (f (low / 64)) ((2 ^ 64 - 1) - low_mask (low % 64)) (selected_fit s ws vs fit_w fit_v (low / 64)) (ones_sub-lt 64 (low_mask (low % 64)));
      inside = omega (arith, words_hold high);
      near = omega arith;
      cut = λ j i b. digit-from (f (low / 64)) (low % 64) j i ∙ ap (λ (x : Bool). digit (f (low / 64)) j && not x) (lt-ltb j (low % 64) (omega arith)) ∙ and-false (digit (f (low / 64)) j);
      kept = λ j i b. digit-from (f (low / 64)) (low % 64) j i ∙ ap (λ (x : Bool). digit (f (low / 64)) j && not x) (le-ltb j (low % 64) (omega arith)) ∙ and-true (digit (f (low / 64)) j);
      passed = λ q a b. absurd (omega arith);
      to_come = ap (λ (has : ℕ → Bool). filled has top 0 low out) (fun_ext (select_row s ws vs (λ k. (fit_w k).fits) (λ k. (fit_v k).fits)));
    }
