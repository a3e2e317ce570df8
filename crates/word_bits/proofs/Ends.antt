-- The zeros below the lowest yes and above the highest of a row. Assumes nothing.
use Rattle.std.proofs.Common.{◌≡◌, ℕ, zero, suc, ◌+◌, ◌-◌, ◌^◌, ◌<◌, ◌≤◌, Bool, true, false, cond, ◌⊎◌, sym, refl, ap, ◌∙◌, ap₂, inl, inr, true≢false, suc-le-suc, zero-le, le_refl, le_of_suc-le-suc, not-suc-le-zero, arith, pow_pos}
use Rattle.word_bits.specs.Digits.{digit}
use Rattle.word_bits.specs.Counts.{zeros_below, zeros_above}
use Rattle.word_bits.proofs.Digits.{digit_of_zero, digits_ext}
use Rattle.word_bits.proofs.Order.{lt-or-le}

cond-le : (b : Bool) {z n : ℕ} → z ≤ n → cond b 0 (suc z) ≤ suc n
cond-le true h = zero-le
cond-le false h = suc-le-suc h

-- one more place, a no
cond_no : {b : Bool} {z n : ℕ} → b ≡ false → z ≡ n → cond b 0 (suc z) ≡ suc n
cond_no p q = ap₂ (λ (b : Bool) (z : ℕ). cond b 0 (suc z)) p q

-- ---- below the lowest yes

pub below_le : (n : ℕ) (f : ℕ → Bool) → zeros_below n f ≤ n
unfolding zeros_below
below_le zero f = zero-le
below_le (suc n) f = cond-le (f 0) (below_le n (λ j. f (suc j)))

-- each place below it is a no
pub below_no : (n : ℕ) (f : ℕ → Bool) (j : ℕ) → j < zeros_below n f → f j ≡ false
unfolding zeros_below
below_no zero f j h = absurd (not-suc-le-zero h)
below_no (suc n) f j h = go j (f 0) refl h (below_no n (λ i. f (suc i)))
  where
    go : (i : ℕ) (b : Bool) → f 0 ≡ b → i < cond b 0 (suc (zeros_below n (λ k. f (suc k))))
        → ((k : ℕ) → k < zeros_below n (λ k. f (suc k)) → f (suc k) ≡ false) → f i ≡ false
    go i true e l rest = absurd (not-suc-le-zero l)
    go zero false e l rest = e
    go (suc i) false e l rest = rest i (le_of_suc-le-suc l)

-- the lowest yes, where there is one
pub below_yes : (n : ℕ) (f : ℕ → Bool) → zeros_below n f < n → f (zeros_below n f) ≡ true
unfolding zeros_below
below_yes zero f h = absurd (not-suc-le-zero h)
below_yes (suc n) f h = go (f 0) refl h (below_yes n (λ i. f (suc i)))
  where
    go : (b : Bool) → f 0 ≡ b → cond b 0 (suc (zeros_below n (λ k. f (suc k)))) < suc n
        → (zeros_below n (λ k. f (suc k)) < n → f (suc (zeros_below n (λ k. f (suc k)))) ≡ true)
        → f (cond b 0 (suc (zeros_below n (λ k. f (suc k))))) ≡ true
    go true e l rest = e
    go false e l rest = rest (le_of_suc-le-suc l)

-- both together determine it
pub below_at : (n : ℕ) (f : ℕ → Bool) (i : ℕ) → i < n → f i ≡ true → ((j : ℕ) → j < i → f j ≡ false) → zeros_below n f ≡ i
unfolding zeros_below
below_at zero f i h y zs = absurd (not-suc-le-zero h)
below_at (suc n) f zero h y zs = ap (λ (b : Bool). cond b 0 (suc (zeros_below n (λ j. f (suc j))))) y
below_at (suc n) f (suc i) h y zs =
    cond_no (zs 0 (suc-le-suc zero-le)) (below_at n (λ j. f (suc j)) i (le_of_suc-le-suc h) y (λ j l. zs (suc j) (suc-le-suc l)))

pub below_none : (n : ℕ) (f : ℕ → Bool) → ((j : ℕ) → j < n → f j ≡ false) → zeros_below n f ≡ n
unfolding zeros_below
below_none zero f zs = refl
below_none (suc n) f zs =
    cond_no (zs 0 (suc-le-suc zero-le)) (below_none n (λ j. f (suc j)) (λ j l. zs (suc j) (suc-le-suc l)))

-- ---- above the highest yes

pub above_le : (n : ℕ) (f : ℕ → Bool) → zeros_above n f ≤ n
unfolding zeros_above
above_le zero f = zero-le
above_le (suc n) f = cond-le (f n) (above_le n f)

-- each place above it is a no
pub above_no : (n : ℕ) (f : ℕ → Bool) (j : ℕ) → j < n → n ≤ zeros_above n f + j → f j ≡ false
unfolding zeros_above
above_no zero f j h l = absurd (not-suc-le-zero h)
above_no (suc n) f j h l = go (f n) refl l (lt-or-le j n) (above_no n f j)
  where
    go : (b : Bool) → f n ≡ b → suc n ≤ cond b 0 (suc (zeros_above n f)) + j → (j < n) ⊎ (n ≤ j)
        → (j < n → n ≤ zeros_above n f + j → f j ≡ false) → f j ≡ false
    go true e t w rest = absurd (omega arith)
    go false e t (inl a) rest = rest a (omega arith)
    go false e t (inr b) rest = let same : j ≡ n = omega arith in ap f same ∙ e

-- the highest yes, where there is one
pub above_yes : (n : ℕ) (f : ℕ → Bool) → zeros_above n f < n → f (n - suc (zeros_above n f)) ≡ true
unfolding zeros_above
above_yes zero f h = absurd (not-suc-le-zero h)
above_yes (suc n) f h = go (f n) refl h (above_yes n f)
  where
    go : (b : Bool) → f n ≡ b → cond b 0 (suc (zeros_above n f)) < suc n → (zeros_above n f < n → f (n - suc (zeros_above n f)) ≡ true)
        → f (suc n - suc (cond b 0 (suc (zeros_above n f)))) ≡ true
    go true e l rest = let same : suc n - 1 ≡ n = omega arith in ap f same ∙ e
    go false e l rest =
        let same : suc n - suc (suc (zeros_above n f)) ≡ n - suc (zeros_above n f) = omega arith in ap f same ∙ rest (le_of_suc-le-suc l)

-- both together determine it
pub above_at : (n : ℕ) (f : ℕ → Bool) (i : ℕ) → i < n → f i ≡ true → ((j : ℕ) → i < j → j < n → f j ≡ false) → zeros_above n f + suc i ≡ n
unfolding zeros_above
above_at zero f i h y zs = absurd (not-suc-le-zero h)
above_at (suc n) f i h y zs = go (f n) refl (lt-or-le i n) (λ l. above_at n f i l y (λ j a b. zs j a (omega arith)))
  where
    go : (b : Bool) → f n ≡ b → (i < n) ⊎ (n ≤ i) → (i < n → zeros_above n f + suc i ≡ n) → cond b 0 (suc (zeros_above n f)) + suc i ≡ suc n
    go true e (inl a) rest = absurd (true≢false (sym e ∙ zs n a (le_refl (suc n))))
    go true e (inr b) rest = omega arith
    go false e (inl a) rest = let r = rest a in omega arith
    go false e (inr b) rest = let same : i ≡ n = omega arith in absurd (true≢false (sym y ∙ ap f same ∙ e))

pub above_none : (n : ℕ) (f : ℕ → Bool) → ((j : ℕ) → j < n → f j ≡ false) → zeros_above n f ≡ n
unfolding zeros_above
above_none zero f zs = refl
above_none (suc n) f zs = cond_no (zs n (le_refl (suc n))) (above_none n f (λ j l. zs j (omega arith)))

-- ---- a number other than 0 has a digit set

pub below_lt : (n x : ℕ) → 0 < x → x < 2 ^ n → zeros_below n (digit x) < n
below_lt n x p h = go (lt-or-le (zeros_below n (digit x)) n)
  where
    go : (zeros_below n (digit x) < n) ⊎ (n ≤ zeros_below n (digit x)) → zeros_below n (digit x) < n
    go (inl l) = l
    go (inr g) =
        let e : x ≡ 0 = digits_ext n x 0 h (pow_pos n) (λ j l. below_no n (digit x) j (omega arith) ∙ sym (digit_of_zero j)) in
        absurd (omega arith)

pub above_lt : (n x : ℕ) → 0 < x → x < 2 ^ n → zeros_above n (digit x) < n
above_lt n x p h = go (lt-or-le (zeros_above n (digit x)) n)
  where
    go : (zeros_above n (digit x) < n) ⊎ (n ≤ zeros_above n (digit x)) → zeros_above n (digit x) < n
    go (inl l) = l
    go (inr g) =
        let b = below_lt n x p h in
        absurd (true≢false (sym (below_yes n (digit x) b) ∙ above_no n (digit x) (zeros_below n (digit x)) b (omega arith)))
