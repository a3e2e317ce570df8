-- The digits of a number, and the number with given digits. Both go digit by digit, lowest first. Assumes nothing.
use Rattle.std.proofs.Common.{◌≡◌, ℕ, zero, suc, ◌+◌, ◌*◌, ◌/◌, ◌%◌, ◌^◌, ◌<◌, ◌≤◌, Bool, true, false, eqb, sym, refl, ap, ◌∙◌, ap₂, lt_of_lt_of_le, le_of_suc-le-suc, not-suc-le-zero, mod-lt, mod-eq_of_lt, zero-lt-suc, mul_assoc, pow-suc, div-one, add-one, one-add, arith, pow_mono, shr-shr}
use mathlib.Core.Path.{fun_ext}
use native.Mathlib.Nat.{zero-div, div-eq_of_lt}
use lib.Arith.{digits_lt, digits_div, digits_mod}
use lib.Pow.{mod-pow-add}
use Rattle.word_bits.specs.Digits.{digit, one, number, word_of, row}

-- ---- the lowest digit, and the digits above it

pub digit-zero : (x : ℕ) → digit x 0 ≡ eqb (x % 2) 1
unfolding digit
digit-zero x = ap (λ (y : ℕ). eqb (y % 2) 1) (div-one x)

pub digit-suc : (x j : ℕ) → digit x (suc j) ≡ digit (x / 2) j
unfolding digit
digit-suc x j =
    ap (λ (y : ℕ). eqb (y % 2) 1) (ap (λ (e : ℕ). x / 2 ^ e) (sym (one-add j)) ∙ sym (shr-shr x 1 j))

one-lt : (b : Bool) → one b < 2
one-lt true = omega arith
one-lt false = omega arith

eqb-one : (b : Bool) → eqb (one b) 1 ≡ b
eqb-one true = refl
eqb-one false = refl

-- twice q and a lowest digit
pub digit_low : (q : ℕ) (b : Bool) → digit (q * 2 + one b) 0 ≡ b
digit_low q b = digit-zero (q * 2 + one b) ∙ ap (λ (r : ℕ). eqb r 1) (digits_mod q (one-lt b)) ∙ eqb-one b

pub digit_rest : (q : ℕ) (b : Bool) (j : ℕ) → digit (q * 2 + one b) (suc j) ≡ digit q j
digit_rest q b j = digit-suc (q * 2 + one b) j ∙ ap (λ (y : ℕ). digit y j) (digits_div q (one-lt b))

bit_of : (r : ℕ) → r < 2 → r ≡ one (eqb r 1)
bit_of zero h = refl
bit_of (suc zero) h = refl
bit_of (suc (suc r)) h = absurd (not-suc-le-zero (le_of_suc-le-suc (le_of_suc-le-suc h)))

-- the remainder by 2 is the lowest digit
pub low_bit : (x : ℕ) → x % 2 ≡ one (digit x 0)
low_bit x = bit_of (x % 2) (mod-lt x (zero-lt-suc 1)) ∙ ap one (sym (digit-zero x))

-- ---- where no digit is set

pub digit_of_zero : (j : ℕ) → digit 0 j ≡ false
unfolding digit
digit_of_zero j = ap (λ (y : ℕ). eqb (y % 2) 1) (zero-div (2 ^ j))

-- a number below 2 ^ n has no digit from n up
pub digit_above : (n x j : ℕ) → x < 2 ^ n → n ≤ j → digit x j ≡ false
unfolding digit
digit_above n x j h le = ap (λ (y : ℕ). eqb (y % 2) 1) (div-eq_of_lt (lt_of_lt_of_le h (pow_mono le)))

-- ---- the number with given digits

-- by its lowest digit
pub number-low : (n : ℕ) (f : ℕ → Bool) → number (suc n) f ≡ number n (λ j. f (suc j)) * 2 + one (f 0)
unfolding number
number-low zero f = omega arith
number-low (suc n) f =
    let ih = number-low n f in
    let p : one (f (suc n)) * 2 ^ suc n ≡ one (f (suc n)) * 2 ^ n * 2 =
    ap (λ (y : ℕ). one (f (suc n)) * y) (pow-suc 2 n) ∙ sym (mul_assoc (one (f (suc n))) (2 ^ n) 2) in
    omega (arith, ih, p)

pub number_lt : (n : ℕ) (f : ℕ → Bool) → number n f < 2 ^ n
unfolding number
number_lt zero f = zero-lt-suc 0
number_lt (suc n) f =
    rw (number-low n f, pow-suc 2 n) (digits_lt (number_lt n (λ j. f (suc j))) (one-lt (f 0)))

pub digit-number : (n : ℕ) (f : ℕ → Bool) (j : ℕ) → j < n → digit (number n f) j ≡ f j
digit-number zero f j h = absurd (not-suc-le-zero h)
digit-number (suc n) f zero h = rw (number-low n f) (digit_low (number n (λ j. f (suc j))) (f 0))
digit-number (suc n) f (suc j) h =
    rw (number-low n f) (digit_rest (number n (λ j. f (suc j))) (f 0) j ∙ digit-number n (λ i. f (suc i)) j (le_of_suc-le-suc h))

pub number_ext : (n : ℕ) (f g : ℕ → Bool) → ((j : ℕ) → j < n → f j ≡ g j) → number n f ≡ number n g
unfolding number
number_ext zero f g h = refl
number_ext (suc n) f g h =
    ap₂ (λ (x : ℕ) (b : Bool). x + one b * 2 ^ n) (number_ext n f g (λ j l. h j (omega arith))) (h n (omega arith))

pub number_digits : (n x : ℕ) → number n (digit x) ≡ x % 2 ^ n
unfolding number
number_digits zero x = sym (native.Mathlib.Nat.mod-one x)
number_digits (suc n) x =
    number-low n (digit x)
    ∙ ap₂ (λ (q r : ℕ). q * 2 + r) (ap (number n) (fun_ext (digit-suc x)) ∙ number_digits n (x / 2)) (sym (low_bit x))
    ∙ sym (mod-pow-add x n 1)
    ∙ ap (λ (e : ℕ). x % 2 ^ e) (add-one n)

-- a number below 2 ^ n is determined by its n digits
pub number_is : (n x : ℕ) (f : ℕ → Bool) → x < 2 ^ n → ((j : ℕ) → j < n → digit x j ≡ f j) → x ≡ number n f
number_is n x f h same = sym (mod-eq_of_lt h) ∙ sym (number_digits n x) ∙ number_ext n (digit x) f same

pub digits_ext : (n x y : ℕ) → x < 2 ^ n → y < 2 ^ n → ((j : ℕ) → j < n → digit x j ≡ digit y j) → x ≡ y
digits_ext n x y hx hy same = number_is n x (digit y) hx same ∙ number_digits n y ∙ mod-eq_of_lt hy

-- ---- word k of a set of positions

pub word_lt : (m : ℕ → Bool) (k : ℕ) → word_of m k < 2 ^ 64
unfolding word_of
word_lt m k = number_lt 64 (λ j. m (k * 64 + j))

pub digit_word : (m : ℕ → Bool) (k j : ℕ) → j < 64 → digit (word_of m k) j ≡ m (k * 64 + j)
unfolding word_of
digit_word m k j h = digit-number 64 (λ i. m (k * 64 + i)) j h

pub word_is : (m : ℕ → Bool) (k x : ℕ) → x < 2 ^ 64 → ((j : ℕ) → j < 64 → digit x j ≡ m (k * 64 + j)) → x ≡ word_of m k
unfolding word_of
word_is m k x h same = number_is 64 x (λ j. m (k * 64 + j)) h same

-- ---- the bits of a row of words

pub row_at : (f : ℕ → ℕ) (k j : ℕ) → j < 64 → row f (k * 64 + j) ≡ digit (f k) j
unfolding row
row_at f k j h =
    let q : (k * 64 + j) / 64 ≡ k = omega arith in
    let r : (k * 64 + j) % 64 ≡ j = omega arith in
    ap₂ (λ (a b : ℕ). digit (f a) b) q r
