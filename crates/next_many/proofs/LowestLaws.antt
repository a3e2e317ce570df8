-- A word that has a bit, without its lowest one. Assumes nothing.
use mathlib.Core.Path.{◌≡◌, ap, ◌∙◌}
use mathlib.Core.Bool.{Bool, false, not, ◌&&◌, and-true, and-false}
use mathlib.Core.Logic.{◌⊎◌, inl, inr}
use Prim.Native.Nat.{ℕ, ◌-◌, ◌^◌, ◌≤◌, ◌<◌}
use native.Mathlib.Omega.{arith}
use borrow.Author.Tests.{eq-eqb, ne_eqb}
use lib.Bits.{bit_and}
use lib.Dec.{eqb}
use Rattle.word_bits.specs.Counts.{zeros_below}
use Rattle.word_bits.specs.Digits.{digit, number}
use Rattle.word_bits.proofs.Digits.{digit-number, number_lt}
use Rattle.word_bits.proofs.Ends.{below_no}
use Rattle.word_bits.proofs.LowestBit.{and_less}
use Rattle.word_bits.proofs.Order.{lt-or-le}

module _ (x : ℕ) (fits : x < 2 ^ 64) (some : x ≡ 0 → ⊥) where
  abbrev lowest : ℕ
  lowest = zeros_below 64 (digit x)

  abbrev others : ℕ → Bool
  others j = digit x j && not (eqb j lowest)

  unset : bit_and x (x - 1) ≡ number 64 others
  unset = and_less 64 x (omega arith) fits

  unset-digit : (j : ℕ) → j < 64 → digit (bit_and x (x - 1)) j ≡ others j
  unset-digit j i = ap (λ (y : ℕ). digit y j) unset ∙ digit-number 64 others j i

  pub unset_lt : bit_and x (x - 1) < 2 ^ 64
  unset_lt = rw unset (number_lt 64 others)

  pub unset_low : (j : ℕ) → j < 64 → j ≤ lowest → digit (bit_and x (x - 1)) j ≡ false
  unset_low j i l = unset-digit j i ∙ go (lt-or-le j lowest)
    where
      go : (j < lowest) ⊎ (lowest ≤ j) → others j ≡ false
      go (inl a) = ap (λ (b : Bool). b && not (eqb j lowest)) (below_no 64 (digit x) j a)
      go (inr g) = ap (λ (b : Bool). digit x j && not b) (eq-eqb j lowest (omega arith)) ∙ and-false (digit x j)

  pub unset_high : (j : ℕ) → j < 64 → lowest < j → digit (bit_and x (x - 1)) j ≡ digit x j
  unset_high j i l = unset-digit j i ∙ ap (λ (b : Bool). digit x j && not b) (ne_eqb j lowest (λ z. omega arith)) ∙ and-true (digit x j)
