-- Counts over places, and the ones of a number as a count of its digits. Assumes nothing.
use Rattle.std.proofs.Common.{◌≡◌, ℕ, zero, suc, ◌+◌, ◌*◌, ◌/◌, ◌^◌, ◌<◌, ◌≤◌, Bool, true, false, sym, refl, ap, ◌∙◌, ap₂, add-suc, pow-suc, arith}
use mathlib.Core.Path.{fun_ext}
use lib.Count.{ones, ones_step}
use lib.Arith.{lt-one}
use Rattle.word_bits.specs.Digits.{digit, one, row}
use Rattle.word_bits.specs.Counts.{count}
use Rattle.word_bits.proofs.Digits.{digit-suc, low_bit, row_at}

-- by the first place
pub count_low : (n : ℕ) (f : ℕ → Bool) → count (suc n) f ≡ one (f 0) + count n (λ j. f (suc j))
unfolding count
count_low zero f = omega arith
count_low (suc n) f = let ih = count_low n f in omega (arith, ih)

-- a count over a row of places is the sum of those over its two parts
pub count_add : (n m : ℕ) (f : ℕ → Bool) → count (n + m) f ≡ count n f + count m (λ j. f (n + j))
unfolding count
count_add n zero f = omega (arith, ap (λ (k : ℕ). count k f) (native.Mathlib.Nat.add-zero n))
count_add n (suc m) f = rw (add-suc n m) (let ih = count_add n m f in omega (arith, ih))

pub count_ext : (n : ℕ) (f g : ℕ → Bool) → ((j : ℕ) → j < n → f j ≡ g j) → count n f ≡ count n g
unfolding count
count_ext zero f g h = refl
count_ext (suc n) f g h =
    ap₂ (λ (x : ℕ) (b : Bool). x + one b) (count_ext n f g (λ j l. h j (omega arith))) (h n (omega arith))

one-le : (b : Bool) → one b ≤ 1
one-le true = omega arith
one-le false = omega arith

pub count-le : (n : ℕ) (f : ℕ → Bool) → count n f ≤ n
unfolding count
count-le zero f = omega arith
count-le (suc n) f = let ih = count-le n f in omega (arith, ih, one-le (f n))

-- no yes, and nothing else
pub count_none : (n : ℕ) (f : ℕ → Bool) → ((j : ℕ) → j < n → f j ≡ false) → count n f ≡ 0
unfolding count
count_none zero f h = refl
count_none (suc n) f h = ap₂ (λ (x : ℕ) (b : Bool). x + one b) (count_none n f (λ j l. h j (omega arith))) (h n (omega arith))

pub count-all : (n : ℕ) (f : ℕ → Bool) → ((j : ℕ) → j < n → f j ≡ true) → count n f ≡ n
unfolding count
count-all zero f h = refl
count-all (suc n) f h =
    let ih = count-all n f (λ j l. h j (omega arith)) in omega (arith, ih, ap one (h n (omega arith)))

-- the language's count of the ones of a number below 2 ^ n
pub ones_count : (n x : ℕ) → x < 2 ^ n → ones x ≡ count n (digit x)
unfolding count ones
ones_count zero x h = ap ones (lt-one h)
ones_count (suc n) x h =
    ones_step x
    ∙ ap₂ (λ (r q : ℕ). r + q) (low_bit x) (ones_count n (x / 2) (omega (arith, pow-suc 2 n)) ∙ ap (count n) (sym (fun_ext (digit-suc x))))
    ∙ sym (count_low n (digit x))

-- ---- a row of words, counted word by word

pub row-none : (f : ℕ → ℕ) → 0 ≡ count (0 * 64) (row f)
unfolding count
row-none f = refl

-- one word more
pub row_more : (f : ℕ → ℕ) (k : ℕ) → count (k * 64) (row f) + count 64 (digit (f k)) ≡ count ((k + 1) * 64) (row f)
row_more f k =
    let n : k * 64 + 64 ≡ (k + 1) * 64 = omega arith in
    ap (λ (x : ℕ). count (k * 64) (row f) + x) (count_ext 64 (digit (f k)) (λ j. row f (k * 64 + j)) (λ j l. sym (row_at f k j l)))
    ∙ sym (count_add (k * 64) 64 (row f)) ∙ ap (λ (m : ℕ). count m (row f)) n
