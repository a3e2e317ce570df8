-- Some place and each place of a row. Assumes nothing.
use Rattle.std.proofs.Common.{◌≡◌, ℕ, zero, suc, ◌<◌, ◌≤◌, Bool, true, false, ◌&&◌, ◌||◌, ◌⊎◌, sym, refl, ap, ◌∙◌, ap₂, inl, inr, le_refl, not-suc-le-zero, arith}
use mathlib.Core.Bool.{and-false}
use Rattle.word_bits.specs.Counts.{some, all}
use Rattle.word_bits.proofs.Order.{lt-or-le}

pub some-yes : (n : ℕ) (f : ℕ → Bool) (j : ℕ) → j < n → f j ≡ true → some n f ≡ true
unfolding some
some-yes zero f j h y = absurd (not-suc-le-zero h)
some-yes (suc n) f j h y = go (lt-or-le j n) (λ l. some-yes n f j l y)
  where
    go : (j < n) ⊎ (n ≤ j) → (j < n → some n f ≡ true) → (some n f || f n) ≡ true
    go (inl l) rest = ap (λ (b : Bool). b || f n) (rest l)
    go (inr g) rest = let same : n ≡ j = omega arith in ap (λ (b : Bool). some n f || b) (ap f same ∙ y) ∙ or-true (some n f)
      where
        or-true : (b : Bool) → (b || true) ≡ true
        or-true true = refl
        or-true false = refl

pub some_no : (n : ℕ) (f : ℕ → Bool) → ((j : ℕ) → j < n → f j ≡ false) → some n f ≡ false
unfolding some
some_no zero f h = refl
some_no (suc n) f h = ap₂ ◌||◌ (some_no n f (λ j l. h j (omega arith))) (h n (le_refl (suc n)))

pub all_yes : (n : ℕ) (f : ℕ → Bool) → ((j : ℕ) → j < n → f j ≡ true) → all n f ≡ true
unfolding all
all_yes zero f h = refl
all_yes (suc n) f h = ap₂ ◌&&◌ (all_yes n f (λ j l. h j (omega arith))) (h n (le_refl (suc n)))

pub all_no : (n : ℕ) (f : ℕ → Bool) (j : ℕ) → j < n → f j ≡ false → all n f ≡ false
unfolding all
all_no zero f j h y = absurd (not-suc-le-zero h)
all_no (suc n) f j h y = go (lt-or-le j n) (λ l. all_no n f j l y)
  where
    go : (j < n) ⊎ (n ≤ j) → (j < n → all n f ≡ false) → (all n f && f n) ≡ false
    go (inl l) rest = ap (λ (b : Bool). b && f n) (rest l)
    go (inr g) rest = let same : n ≡ j = omega arith in ap (λ (b : Bool). all n f && b) (ap f same ∙ y) ∙ and-false (all n f)

-- where no place says yes, none does; where each does, each does
pub none_of : (n : ℕ) (f : ℕ → Bool) → some n f ≡ false → (j : ℕ) → j < n → f j ≡ false
none_of n f e j h = go (f j) refl
  where
    go : (b : Bool) → f j ≡ b → f j ≡ false
    go true y = y ∙ sym (some-yes n f j h y) ∙ e
    go false y = y

pub each_of : (n : ℕ) (f : ℕ → Bool) → all n f ≡ true → (j : ℕ) → j < n → f j ≡ true
each_of n f e j h = go (f j) refl
  where
    go : (b : Bool) → f j ≡ b → f j ≡ true
    go true y = y
    go false y = y ∙ sym (all_no n f j h y) ∙ e
