-- What a call gives, by its number. Assumes nothing.
use mathlib.Core.Path.{◌≡◌, refl, sym, ap, ◌∙◌}
use Prim.Native.Nat.{ℕ, zero, suc}
use native.Mathlib.Omega.{arith}
use mathlib.Core.List.{List}
use Rattle.sets.specs.Members.{Members}
use Rattle.sets.specs.Outcomes.{Outcome, given, edited}
use Rattle.sets.specs.declared.fixed_bit_set.FixedBitSet.{FixedBitSet}

module _ {A : Type 0} where
  refused_at : (n : ℕ) (refused : ℕ → A) (accepted : A) → (n ≡ 0 → ⊥) → refused n ≡ given n refused accepted
  unfolding given
  refused_at zero refused accepted h = absurd (h refl)
  refused_at (suc n) refused accepted h = refl

  pub given_no : (refused : ℕ → A) (accepted : A) {m n : ℕ} → m ≡ n → (m ≡ 0 → ⊥) → refused m ≡ given n refused accepted
  given_no refused accepted {m} {n} e h = ap refused e ∙ refused_at n refused accepted (λ z. h (e ∙ z))

  pub given_yes : (refused : ℕ → A) {accepted x : A} {n : ℕ} → 0 ≡ n → x ≡ accepted → x ≡ given n refused accepted
  unfolding given
  given_yes refused {accepted} e w = w ∙ ap (λ (n : ℕ). given n refused accepted) e

-- What an outcome tells whose number is read by `of`: refused, it is the refusal whatever the call would have left; accepted, it is what the call leaves.
module _ {A : Type 0} (of : A → ℕ) (refused : ℕ → A) where
  pub given-refused : (accepted other : A) {x : A} (n : ℕ) → of accepted ≡ 0 → x ≡ given n refused accepted → (of x ≡ 0 → ⊥)
      → x ≡ given n refused other
  unfolding given
  given-refused accepted other zero z e h = absurd (h (ap of e ∙ z))
  given-refused accepted other (suc n) z e h = e

  pub given-accepted : (accepted : A) {x : A} (n : ℕ) → ((m : ℕ) → of (refused m) ≡ m) → x ≡ given n refused accepted → of x ≡ 0
      → (n ≡ 0) × (x ≡ accepted)
  unfolding given
  given-accepted accepted zero num e h = (refl, e)
  given-accepted accepted (suc n) num e h = (sym (num (suc n)) ∙ ap of (sym e) ∙ h, e ∙ absurd (zero-ne (sym (num (suc n)) ∙ ap of (sym e) ∙ h)))
    where
      zero-ne : suc n ≡ 0 → ⊥
      zero-ne q = omega arith

  -- its number is the number that decided it
  pub given-number : (accepted : A) {x : A} (n : ℕ) → ((m : ℕ) → of (refused m) ≡ m) → of accepted ≡ 0 → x ≡ given n refused accepted → of x ≡ n
  unfolding given
  given-number accepted zero num z e = ap of e ∙ z
  given-number accepted (suc n) num z e = ap of e ∙ num (suc n)

-- a refused edit leaves the set as handed in and every word unaltered
pub edited_no : (set : FixedBitSet) (ws : List ℕ) (s : Members) {m n : ℕ} → m ≡ n → (m ≡ 0 → ⊥)
    → ◌≡◌ {A = Outcome} (record { number = m; set = set; words = ws }) (edited n set ws s)
edited_no set ws s e h = given_no (λ m. record { number = m; set = set; words = ws }) _ e h
