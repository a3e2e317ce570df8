-- The fewest decimal digits of a number are its decimal. Assumes nothing.
use mathlib.Core.Path.{◌≡◌, ap, subst, subst⁻¹}
use mathlib.Core.Logic.{◌⊎◌, inl, inr}
use mathlib.Core.List.{List, [], ◌∷◌, ◌++◌}
use Prim.Native.Nat.{ℕ, zero, suc, ◌+◌, ◌-◌, ◌*◌, ◌/◌, ◌%◌, ◌^◌, ◌≤◌, ◌<◌}
use native.Mathlib.Nat.{pow-suc, div-lt_iff_lt-mul, le-div_iff_mul-le, one-le-pow, pow-le-pow_right}
use native.Mathlib.Omega.{arith}
use borrow.Author.Tests.{lt-ltb, le-ltb}
use Rattle.word_bits.proofs.Order.{lt-or-le}
use Rattle.io.specs.Digits.{last_digits, IsDigitCount}
use Rattle.byte_texts.specs.Texts.{decimal_of}

pub decimal_is : (places k n : ℕ) → k ≤ places → IsDigitCount 10 1 n k → last_digits 10 k n ≡ decimal_of places n
unfolding decimal_of
decimal_is zero k n l h = absurd (omega arith)
decimal_is (suc places) zero n l h = absurd (omega arith)
decimal_is (suc places) (suc zero) n l h =
    let b : n < 10 = omega (arith, h.1) in
    let m : n % 10 ≡ n = omega arith in
    simp (m, lt-ltb n 10 b)
decimal_is (suc places) (suc (suc k)) n l h =
    let less : suc (suc k) - 1 ≡ suc k = omega arith in
    let least : suc k - 1 ≡ k = omega arith in
    let big : 10 ^ suc k ≤ n = subst (λ (m : ℕ). 10 ^ m ≤ n) less (h.2 (omega arith)) in
    let one : 1 ≤ 10 ^ k = one-le-pow k 10 (omega arith) in
    let e : 10 ^ suc k ≡ 10 ^ k * 10 = pow-suc 10 k in
    let g : 10 ^ suc (suc k) ≡ 10 ^ suc k * 10 = pow-suc 10 (suc k) in
    let t : 10 ≤ n = omega arith in
    let r : n % 10 < 10 = omega arith in
    let u : n / 10 < 10 ^ suc k = (div-lt_iff_lt-mul {k = 10} (omega arith)).1 (omega (arith, h.1)) in
    let v : 10 ^ k ≤ n / 10 = (le-div_iff_mul-le {k = 10} (omega arith)).1 (omega arith) in
    simp (le-ltb n 10 t, lt-ltb (n % 10) 10 r)
    (ap (λ (xs : List ℕ). xs ++ ((48 + n % 10) ∷ [])) (decimal_is places (suc k) (n / 10) (omega arith) (omega arith, u, λ i. subst⁻¹ (λ (m : ℕ). 10 ^ m ≤ n / 10) least v)))

-- 20 digits are enough
pub digits_few : (k n : ℕ) → n < 2 ^ 64 → IsDigitCount 10 1 n k → k ≤ 20
digits_few k n l h = go (lt-or-le 20 k)
  where
    go : (20 < k) ⊎ (k ≤ 20) → k ≤ 20
    go (inl i) = absurd (omega (arith, pow-le-pow_right {n = 10} (omega arith) {i = 20} {j = k - 1} (omega arith), h.2 (omega arith)))
    go (inr g) = g
