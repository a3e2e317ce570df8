-- A word cut by a mask: its lowest and its highest digit. Assumes nothing.
use mathlib.Core.Path.{◌≡◌, refl, sym, ap, ◌∙◌}
use mathlib.Core.Bool.{Bool, true, false, ◌&&◌, and-true, false≢true}
use Prim.Native.Nat.{ℕ, suc, ◌-◌, ◌^◌, ◌<◌}
use native.Mathlib.Omega.{arith}
use Rattle.word_bits.specs.Digits.{digit}
use Rattle.word_bits.specs.Counts.{zeros_below, zeros_above}
use Rattle.word_bits.proofs.Digits.{digit_of_zero}
use Rattle.word_bits.proofs.Ends.{below_lt, below_no, below_yes, above_lt, above_no, above_yes}

-- ---- a word x cut to g: the digits that `keep` says

pub both_true : (a b : Bool) → (a && b) ≡ true → (a ≡ true) × (b ≡ true)
both_true true b e = (refl, e)
both_true false b e = absurd (false≢true e)

module _ (x g : ℕ) (keep : ℕ → Bool) (fit : g < 2 ^ 64) (cut : (j : ℕ) → j < 64 → digit g j ≡ (digit x j && keep j)) where
  -- a digit that is kept and is 0 in g is 0 in x
  kept_no : (j : ℕ) → j < 64 → keep j ≡ true → digit g j ≡ false → digit x j ≡ false
  kept_no j h k e = sym (and-true (digit x j)) ∙ ap (λ (b : Bool). digit x j && b) (sym k) ∙ sym (cut j h) ∙ e

  pub cut_none : g ≡ 0 → (j : ℕ) → j < 64 → keep j ≡ true → digit x j ≡ false
  cut_none z j h k = kept_no j h k (ap (λ (y : ℕ). digit y j) z ∙ digit_of_zero j)

  module _ (n : g ≡ 0 → ⊥) where
    pub lowest_lt : zeros_below 64 (digit g) < 64
    lowest_lt = below_lt 64 g (omega arith) fit

    pub lowest_yes : (digit x (zeros_below 64 (digit g)) ≡ true) × (keep (zeros_below 64 (digit g)) ≡ true)
    lowest_yes = both_true _ _ (sym (cut (zeros_below 64 (digit g)) lowest_lt) ∙ below_yes 64 (digit g) lowest_lt)

    pub lowest_no : (j : ℕ) → j < zeros_below 64 (digit g) → keep j ≡ true → digit x j ≡ false
    lowest_no j l k = kept_no j (omega (arith, lowest_lt)) k (below_no 64 (digit g) j l)

    pub highest_lt : zeros_above 64 (digit g) < 64
    highest_lt = above_lt 64 g (omega arith) fit

    pub highest_yes : (digit x (63 - zeros_above 64 (digit g)) ≡ true) × (keep (63 - zeros_above 64 (digit g)) ≡ true)
    highest_yes =
        let e : 64 - suc (zeros_above 64 (digit g)) ≡ 63 - zeros_above 64 (digit g) = omega arith in
        both_true _ _ (sym (cut (63 - zeros_above 64 (digit g)) (omega arith)) ∙ ap (digit g) (sym e) ∙ above_yes 64 (digit g) highest_lt)

    pub highest_no : (j : ℕ) → j < 64 → 63 - zeros_above 64 (digit g) < j → keep j ≡ true → digit x j ≡ false
    highest_no j h l k = kept_no j h k (above_no 64 (digit g) j h (omega (arith, highest_lt)))
