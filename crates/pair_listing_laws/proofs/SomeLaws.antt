-- Whether some place of a row says yes. Assumes nothing.
use mathlib.Core.Path.{◌≡◌, refl, sym, ap, ap₂, ◌∙◌}
use mathlib.Core.Bool.{Bool, true, false, ◌&&◌, ◌||◌, and-false}
use mathlib.Core.Logic.{◌⊎◌, inl, inr}
use Prim.Native.Nat.{ℕ, zero, suc, ◌≤◌, ◌<◌}
use native.Mathlib.Nat.{le_refl}
use native.Mathlib.Omega.{arith}
use borrow.Author.Tests.{eq-eqb, eqb-true}
use lib.Dec.{eqb}
use Rattle.word_bits.specs.Counts.{some}
use Rattle.word_bits.proofs.Order.{lt-or-le}
use Rattle.word_bits.proofs.Quantifiers.{some-yes, some_no}

pub some_ext : (n : ℕ) (f g : ℕ → Bool) → ((p : ℕ) → p < n → f p ≡ g p) → some n f ≡ some n g
unfolding some
some_ext zero f g h = refl
some_ext (suc n) f g h = ap₂ ◌||◌ (some_ext n f g (λ p l. h p (omega arith))) (h n (le_refl (suc n)))

shuffle : (a b c d : Bool) → ((a || b) || (c || d)) ≡ ((a || c) || (b || d))
shuffle true b c d = refl
shuffle false true true d = refl
shuffle false true false d = refl
shuffle false false c d = refl

-- of two rows
pub some_or : (n : ℕ) (f g : ℕ → Bool) → some n (λ p. f p || g p) ≡ (some n f || some n g)
unfolding some
some_or zero f g = refl
some_or (suc n) f g = ap (λ (t : Bool). t || (f n || g n)) (some_or n f g) ∙ shuffle (some n f) (some n g) (f n) (g n)

-- of a row that says yes at one place at most
module _ (n : ℕ) (has : ℕ → Bool) (clip : (p : ℕ) → n ≤ p → has p ≡ false) where
  pub some_one : (x : ℕ) (t : Bool) → some n (λ p. has p && (eqb x p && t)) ≡ (has x && t)
  some_one x false = some_no n (λ p. has p && (eqb x p && false)) (λ p l. ap (λ (u : Bool). has p && u) (and-false (eqb x p)) ∙ and-false (has p)) ∙ sym (and-false (has x))
  some_one x true = go (has x) refl (lt-or-le x n)
    where
      f : ℕ → Bool
      f p = has p && (eqb x p && true)

      at : (p : ℕ) (u : Bool) → eqb x p ≡ u → has x ≡ false → (has p && (u && true)) ≡ false
      at p true e h = ap (λ (y : ℕ). has y && true) (sym (eqb-true x p e)) ∙ ap (λ (b : Bool). b && true) h
      at p false e h = and-false (has p)

      none : has x ≡ false → some n f ≡ (has x && true)
      none h = some_no n f (λ p l. at p (eqb x p) refl h) ∙ sym (ap (λ (b : Bool). b && true) h)

      go : (b : Bool) → has x ≡ b → (x < n) ⊎ (n ≤ x) → some n f ≡ (has x && true)
      go true h (inl l) = some-yes n f x l (ap₂ (λ (b u : Bool). b && (u && true)) h (eq-eqb x x refl)) ∙ sym (ap (λ (b : Bool). b && true) h)
      go b h (inr g) = none (clip x g)
      go false h (inl l) = none h
