-- The lowest set bit of a number below 2 ^ n other than 0: isolated by "and" with the negation, unset by "and" with one less. Assumes nothing.
use Rattle.std.proofs.Common.{◌≡◌, ℕ, zero, suc, ◌+◌, ◌-◌, ◌*◌, ◌/◌, ◌%◌, ◌^◌, ◌<◌, min, Bool, true, false, cond, not, ◌&&◌, eqb, sym, refl, ap, ◌∙◌, ap₂, mod-eq_of_lt, pow-suc, arith, pow_pos, eq-eqb, ne_eqb}
use mathlib.Core.Path.{fun_ext}
use mathlib.Core.Bool.{and-true}
use native.Mathlib.Nat.{zero-min}
use lib.Arith.{lt-one}
use lib.Bits.{bit_and, and_step, and_self, and_lt}
use lib.Dec.{eqb-suc-zero, eqb-suc-suc}
use lib.Pow.{ones_sub-lt}
use Rattle.word_bits.specs.Digits.{digit, one, number}
use Rattle.word_bits.specs.Counts.{zeros_below}
use Rattle.word_bits.proofs.Digits.{digit-suc, digit_of_zero, digits_ext, low_bit, number-low, number_digits}
use Rattle.word_bits.proofs.Ends.{below_at, below_lt}
use Rattle.word_bits.proofs.Operations.{digit_and, digit_not, digit_power}

-- a number and its complement have no digit in common
and-not : (n x : ℕ) → x < 2 ^ n → bit_and x ((2 ^ n - 1) - x) ≡ 0
and-not n x h =
    digits_ext n (bit_and x ((2 ^ n - 1) - x)) 0 (and_lt n x ((2 ^ n - 1) - x) h (ones_sub-lt n x)) (pow_pos n)
    (λ j l. digit_and x ((2 ^ n - 1) - x) j ∙ ap (λ (b : Bool). digit x j && b) (digit_not n x j h l) ∙ never (digit x j) ∙ sym (digit_of_zero j))
  where
    never : (b : Bool) → (b && not b) ≡ false
    never true = refl
    never false = refl

-- the zeros below the lowest digit of x, by the lowest digit
below_suc : (n x : ℕ) → zeros_below (suc n) (digit x) ≡ cond (digit x 0) 0 (suc (zeros_below n (digit (x / 2))))
unfolding zeros_below
below_suc n x = ap (λ (f : ℕ → Bool). cond (digit x 0) 0 (suc (zeros_below n f))) (fun_ext (digit-suc x))

pub and_negation : (n x : ℕ) → 0 < x → x < 2 ^ n → bit_and x (2 ^ n - x) ≡ 2 ^ zeros_below n (digit x)
and_negation zero x p h = absurd (omega (arith, lt-one h))
and_negation (suc n) x p h =
    and_step x (2 ^ suc n - x) ∙ go (digit x 0) (low_bit x) (λ q. and_negation n (x / 2) q (omega (arith, pow-suc 2 n)))
    ∙ ap (λ (z : ℕ). 2 ^ z) (sym (below_suc n x))
  where
    go : (b : Bool) → x % 2 ≡ one b → (0 < x / 2 → bit_and (x / 2) (2 ^ n - x / 2) ≡ 2 ^ zeros_below n (digit (x / 2)))
        → bit_and (x / 2) ((2 ^ suc n - x) / 2) * 2 + min (x % 2) ((2 ^ suc n - x) % 2) ≡ 2 ^ cond b 0 (suc (zeros_below n (digit (x / 2))))
    go true e rest =
        let half : (2 ^ suc n - x) / 2 ≡ (2 ^ n - 1) - x / 2 = omega (arith, pow-suc 2 n) in
        let odd : (2 ^ suc n - x) % 2 ≡ 1 = omega (arith, pow-suc 2 n) in
        rw (half, odd, e, and-not n (x / 2) (omega (arith, pow-suc 2 n)))
    go false e rest =
        let half : (2 ^ suc n - x) / 2 ≡ 2 ^ n - x / 2 = omega (arith, pow-suc 2 n) in
        let even : (2 ^ suc n - x) % 2 ≡ 0 = omega (arith, pow-suc 2 n) in
        rw (half, even, e, rest (omega arith)) (omega (arith, pow-suc 2 (zeros_below n (digit (x / 2)))))

-- so its own trailing zeros are those of x
pub negation_position : (n x : ℕ) → 0 < x → x < 2 ^ n → zeros_below n (digit (bit_and x (2 ^ n - x))) ≡ zeros_below n (digit x)
negation_position n x p h =
    ap (λ (y : ℕ). zeros_below n (digit y)) (and_negation n x p h)
    ∙ below_at n (digit (2 ^ at)) at (below_lt n x p h) (digit_power at at ∙ eq-eqb at at refl)
    (λ j l. digit_power at j ∙ ne_eqb j at (λ e. absurd (omega arith)))
  where
    at : ℕ
    at = zeros_below n (digit x)

-- one less, joined by "and": every digit but the lowest set one
pub and_less : (n x : ℕ) → 0 < x → x < 2 ^ n → bit_and x (x - 1) ≡ number n (λ j. digit x j && not (eqb j (zeros_below n (digit x))))
and_less zero x p h = absurd (omega (arith, lt-one h))
and_less (suc n) x p h =
    and_step x (x - 1) ∙ go (digit x 0) refl (below_suc n x) (λ q. and_less n (x / 2) q half_lt)
    ∙ sym (number-low n (λ j. digit x j && not (eqb j (zeros_below (suc n) (digit x)))))
  where
    half_lt : x / 2 < 2 ^ n
    half_lt = omega (arith, pow-suc 2 n)

    go : (b : Bool) {z : ℕ} → digit x 0 ≡ b → z ≡ cond b 0 (suc (zeros_below n (digit (x / 2))))
        → (0 < x / 2 → bit_and (x / 2) (x / 2 - 1) ≡ number n (λ j. digit (x / 2) j && not (eqb j (zeros_below n (digit (x / 2))))))
        → bit_and (x / 2) ((x - 1) / 2) * 2 + min (x % 2) ((x - 1) % 2)
        ≡ number n (λ j. digit x (suc j) && not (eqb (suc j) z)) * 2 + one (digit x 0 && not (eqb 0 z))
    go true e ez rest =
        let odd : x % 2 ≡ 1 = low_bit x ∙ ap one e in
        let half : (x - 1) / 2 ≡ x / 2 = omega arith in
        let even : (x - 1) % 2 ≡ 0 = omega arith in
        rw (half, even, odd, and_self, ez, e)
        (ap (λ (y : ℕ). y * 2 + 0)
        (sym (mod-eq_of_lt half_lt) ∙ sym (number_digits n (x / 2))
        ∙ ap (number n) (fun_ext (λ j. sym (ap₂ (λ (a b : Bool). a && not b) (digit-suc x j) (eqb-suc-zero j) ∙ and-true (digit (x / 2) j))))))
    go false e ez rest =
        let even : x % 2 ≡ 0 = low_bit x ∙ ap one e in
        let half : (x - 1) / 2 ≡ x / 2 - 1 = omega arith in
        rw (half, even, ez, e)
        (ap₂ (λ (y r : ℕ). y * 2 + r)
        (rest (omega arith) ∙ ap (number n) (fun_ext (λ j. sym (ap₂ (λ (a b : Bool). a && not b) (digit-suc x j) (eqb-suc-suc j (zeros_below n (digit (x / 2))))))))
        (zero-min ((x - 1) % 2)))
