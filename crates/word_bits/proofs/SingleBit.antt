-- The word with one bit set, as a shift makes it, and the test of one bit. Assumes nothing.
use Rattle.std.proofs.Common.{◌≡◌, ℕ, ◌*◌, ◌%◌, ◌^◌, ◌<◌, Bool, true, false, not, ◌&&◌, eqb, sym, refl, ap, ◌∙◌, ap₂, lt_of_le_of_lt, mod-eq_of_lt, one-mul, pow_pos, eq-eqb, ne_eqb, eqb-true}
use mathlib.Core.Bool.{and-false, false≢true}
use lib.Bits.{bit_and, and_le_r}
use lib.Pow.{pow-lt}
use Rattle.word_bits.specs.Digits.{digit}
use Rattle.word_bits.proofs.Digits.{digit_of_zero, digits_ext}
use Rattle.word_bits.proofs.Operations.{digit_and, digit_power}

pub single_bit : (j : ℕ) → j < 64 → (1 * 2 ^ j) % 2 ^ 64 ≡ 2 ^ j
single_bit j h = ap (λ (x : ℕ). x % 2 ^ 64) (one-mul (2 ^ j)) ∙ mod-eq_of_lt (pow-lt h)

pub test_bit : (x j : ℕ) → j < 64 → not (eqb (bit_and x (2 ^ j)) 0) ≡ digit x j
test_bit x j h = go (digit x j) refl
  where
    at : (i : ℕ) → digit (bit_and x (2 ^ j)) i ≡ (digit x i && eqb i j)
    at i = digit_and x (2 ^ j) i ∙ ap (λ (b : Bool). digit x i && b) (digit_power j i)

    off : digit x j ≡ false → (i : ℕ) (b : Bool) → eqb i j ≡ b → (digit x i && b) ≡ false
    off e i true q = ap (λ (k : ℕ). digit x k && true) (eqb-true i j q) ∙ ap (λ (b : Bool). b && true) e
    off e i false q = and-false (digit x i)

    go : (b : Bool) → digit x j ≡ b → not (eqb (bit_and x (2 ^ j)) 0) ≡ b
    go true e =
        ap not (ne_eqb (bit_and x (2 ^ j)) 0
        (λ z. false≢true (sym (digit_of_zero j) ∙ ap (λ (y : ℕ). digit y j) (sym z) ∙ at j ∙ ap₂ ◌&&◌ e (eq-eqb j j refl))))
    go false e =
        ap not (eq-eqb (bit_and x (2 ^ j)) 0
        (digits_ext 64 (bit_and x (2 ^ j)) 0 (lt_of_le_of_lt (and_le_r x (2 ^ j)) (pow-lt h)) (pow_pos 64)
        (λ i l. at i ∙ off e i (eqb i j) refl ∙ sym (digit_of_zero i))))
