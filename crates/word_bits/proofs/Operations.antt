-- The digits of and, or, exclusive or, the complement and a power of two. Assumes nothing.
use Rattle.std.proofs.Common.{◌≡◌, ℕ, zero, suc, ◌+◌, ◌-◌, ◌*◌, ◌/◌, ◌%◌, ◌^◌, ◌<◌, min, max, Bool, true, false, not, ◌&&◌, ◌||◌, eqb, sym, refl, ap, ◌∙◌, ap₂, le_of_suc-le-suc, not-suc-le-zero, pow-suc, arith, lit<}
use mathlib.Core.Bool.{xor}
use lib.Bits.{bit_and, bit_or, bit_xor, differ, and_step, or_step, xor_step}
use lib.Dec.{eqb-zero-suc, eqb-suc-zero, eqb-suc-suc}
use Rattle.word_bits.specs.Digits.{digit, one}
use Rattle.word_bits.proofs.Digits.{digit_low, digit_rest, digit-suc, digit_of_zero, low_bit}

-- an operation that works digit by digit: f on the digits as numbers, g on them as yes and no
module _ (op f : ℕ → ℕ → ℕ) (g : Bool → Bool → Bool)
    (step : (a b : ℕ) → op a b ≡ op (a / 2) (b / 2) * 2 + f (a % 2) (b % 2))
    (agree : (p q : Bool) → f (one p) (one q) ≡ one (g p q)) where
  by_digits : (a b : ℕ) → op a b ≡ op (a / 2) (b / 2) * 2 + one (g (digit a 0) (digit b 0))
  by_digits a b =
      step a b
      ∙ ap (λ (r : ℕ). op (a / 2) (b / 2) * 2 + r) (ap₂ f (low_bit a) (low_bit b) ∙ agree (digit a 0) (digit b 0))

  digit_op : (a b j : ℕ) → digit (op a b) j ≡ g (digit a j) (digit b j)
  digit_op a b zero = rw (by_digits a b) (digit_low (op (a / 2) (b / 2)) (g (digit a 0) (digit b 0)))
  digit_op a b (suc j) =
      rw (by_digits a b, digit_rest (op (a / 2) (b / 2)) (g (digit a 0) (digit b 0)) j)
      (digit_op (a / 2) (b / 2) j ∙ ap₂ g (sym (digit-suc a j)) (sym (digit-suc b j)))

pub digit_and : (a b j : ℕ) → digit (bit_and a b) j ≡ (digit a j && digit b j)
digit_and = digit_op bit_and min ◌&&◌ and_step agree
  where
    agree : (p q : Bool) → min (one p) (one q) ≡ one (p && q)
    agree true true = refl
    agree true false = refl
    agree false true = refl
    agree false false = refl

pub digit_or : (a b j : ℕ) → digit (bit_or a b) j ≡ (digit a j || digit b j)
digit_or = digit_op bit_or max ◌||◌ or_step agree
  where
    agree : (p q : Bool) → max (one p) (one q) ≡ one (p || q)
    agree true true = refl
    agree true false = refl
    agree false true = refl
    agree false false = refl

pub digit-xor : (a b j : ℕ) → digit (bit_xor a b) j ≡ xor (digit a j) (digit b j)
digit-xor = digit_op bit_xor differ xor xor_step agree
  where
    agree : (p q : Bool) → differ (one p) (one q) ≡ one (xor p q)
    agree true true = unfold xor in refl
    agree true false = unfold xor in refl
    agree false true = unfold xor in refl
    agree false false = unfold xor in refl

-- ---- the complement, which the language's `!` gives at n = 64

not_low : (x : ℕ) → 1 - x % 2 ≡ one (not (digit x 0))
not_low x = ap (λ (r : ℕ). 1 - r) (low_bit x) ∙ flip (digit x 0)
  where
    flip : (b : Bool) → 1 - one b ≡ one (not b)
    flip true = refl
    flip false = refl

not_step : (n x : ℕ) → x < 2 ^ suc n → (2 ^ suc n - 1) - x ≡ ((2 ^ n - 1) - x / 2) * 2 + one (not (digit x 0))
not_step n x h = rw (← not_low x) (omega (arith, pow-suc 2 n, h))

pub digit_not : (n x j : ℕ) → x < 2 ^ n → j < n → digit ((2 ^ n - 1) - x) j ≡ not (digit x j)
digit_not zero x j h l = absurd (not-suc-le-zero l)
digit_not (suc n) x zero h l = rw (not_step n x h) (digit_low ((2 ^ n - 1) - x / 2) (not (digit x 0)))
digit_not (suc n) x (suc j) h l =
    rw (not_step n x h, digit_rest ((2 ^ n - 1) - x / 2) (not (digit x 0)) j, digit-suc x j)
    (digit_not n (x / 2) j (omega (arith, pow-suc 2 n)) (le_of_suc-le-suc l))

-- a word of all ones
pub digit_full : (j : ℕ) → j < 64 → digit (2 ^ 64 - 1) j ≡ true
digit_full j h = digit_not 64 0 j (lit< tt) h ∙ ap not (digit_of_zero j)

-- ---- a power of two

pub digit_power : (i j : ℕ) → digit (2 ^ i) j ≡ eqb j i
digit_power zero zero = digit_low 0 true
digit_power zero (suc j) = digit_rest 0 true j ∙ digit_of_zero j ∙ sym (eqb-suc-zero j)
digit_power (suc i) zero = rw (pow-suc 2 i) (ap (λ (y : ℕ). digit y 0) (omega arith) ∙ digit_low (2 ^ i) false ∙ sym (eqb-zero-suc i))
digit_power (suc i) (suc j) =
    rw (pow-suc 2 i) (ap (λ (y : ℕ). digit y (suc j)) (omega arith) ∙ digit_rest (2 ^ i) false j ∙ digit_power i j ∙ sym (eqb-suc-suc j i))
