-- The first n places of a row f of yes and no: how many say yes, the zeros at both ends, whether some or all say yes.
use Rattle.std.specs.Prelude.{ℕ, zero, suc, ◌+◌, Bool, true, false, cond, ◌&&◌, ◌||◌}
use Rattle.word_bits.specs.Digits.{one}

-- how many of the first n places say yes
unfoldable pub count : ℕ → (ℕ → Bool) → ℕ
count zero f = 0
count (suc n) f = count n f + one (f n)

-- how many of the first n places stand below the lowest yes: n where there is none
unfoldable pub zeros_below : ℕ → (ℕ → Bool) → ℕ
zeros_below zero f = 0
zeros_below (suc n) f = cond (f 0) 0 (suc (zeros_below n (λ j. f (suc j))))

-- how many of the first n places stand above the highest yes: n where there is none
unfoldable pub zeros_above : ℕ → (ℕ → Bool) → ℕ
zeros_above zero f = 0
zeros_above (suc n) f = cond (f n) 0 (suc (zeros_above n f))

-- some place, and each place, of the first n says yes
unfoldable pub some : ℕ → (ℕ → Bool) → Bool
some zero f = false
some (suc n) f = some n f || f n

unfoldable pub all : ℕ → (ℕ → Bool) → Bool
all zero f = true
all (suc n) f = all n f && f n
