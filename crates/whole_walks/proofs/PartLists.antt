-- What is left of a part, as a list. Assumes nothing.
use mathlib.Core.Path.{◌≡◌, refl, ap, ap₂, ◌∙◌}
use mathlib.Core.Bool.{Bool, true, false, cond}
use mathlib.Core.List.{List, [], ◌∷◌, ◌++◌, append_assoc}
use Prim.Native.Nat.{ℕ, zero, suc, ◌+◌, ◌-◌, ◌≤◌, ◌<◌}
use native.Mathlib.Nat.{zero-add, add-zero, add-suc, add-sub_of_le, sub-zero, le_refl}
use native.Mathlib.Omega.{arith}
use Rattle.sets.specs.Members.{Members, set_of}
use Rattle.two_set_counts.specs.Lists.{positions}
use Rattle.sets.specs.declared.answers.Part.{Part}
use Rattle.walks.specs.Rules.{first_part}

-- ---- of the n positions from low up, those that f names, rising

unfoldable pub between : (ℕ → Bool) → ℕ → ℕ → List ℕ
between f low zero = []
between f low (suc n) = between f low n ++ cond (f (low + n)) ((low + n) ∷ []) []

module _ (f : ℕ → Bool) where
  from_zero : (n : ℕ) → between f 0 n ≡ positions n f
  unfolding between positions
  from_zero zero = refl
  from_zero (suc n) = ap₂ (λ (xs : List ℕ) (p : ℕ). xs ++ cond (f p) (p ∷ []) []) (from_zero n) (zero-add n)

  between_none : (low n : ℕ) → ((j : ℕ) → j < n → f (low + j) ≡ false) → between f low n ≡ []
  unfolding between
  between_none low zero zs = refl
  between_none low (suc n) zs =
      ap₂ (λ (xs : List ℕ) (b : Bool). xs ++ cond b ((low + n) ∷ []) []) (between_none low n (λ j l. zs j (omega arith))) (zs n (le_refl (suc n)))

  between_cut : (low m : ℕ) → f (low + m) ≡ true → (n : ℕ) → between f low (suc m + n) ≡ between f low m ++ ((low + m) ∷ between f (low + suc m) n)
  unfolding between
  between_cut low m y zero =
      ap (between f low) (add-zero (suc m)) ∙ ap (λ (b : Bool). between f low m ++ cond b ((low + m) ∷ []) []) y
  between_cut low m y (suc n) =
      let e : low + (suc m + n) ≡ low + suc m + n = omega arith in
      ap (between f low) (add-suc (suc m) n)
      ∙ ap₂ (λ (xs : List ℕ) (p : ℕ). xs ++ cond (f p) (p ∷ []) []) (between_cut low m y n) e
      ∙ append_assoc (between f low m) ((low + m) ∷ between f (low + suc m) n) (cond (f (low + suc m + n)) ((low + suc m + n) ∷ []) [])

-- ---- what is left of a part

abbrev pub part_left : (ℕ → Bool) → Part → List ℕ
part_left f part = between f part.low (part.high - part.low)

-- what a position cuts a part into
abbrev pub under : Part → ℕ → Part
under part p = record { low = part.low; high = p }

abbrev pub over : Part → ℕ → Part
over part p = record { low = p + 1; high = part.high }

-- none of the positions of a part
abbrev pub NoneIn : (ℕ → Bool) → Part → Type 0
NoneIn f part = (p : ℕ) → part.low ≤ p → p < part.high → f p ≡ false

-- at first, all of the set's
pub left_first : (a : Members) (f : ℕ → Bool) → part_left f (first_part (set_of a)) ≡ positions a.len f
left_first a f = ap (between f 0) (sub-zero a.len) ∙ from_zero f a.len

module _ (f : ℕ → Bool) (part : Part) where
  pub left_none : NoneIn f part → part_left f part ≡ []
  left_none zs = between_none f part.low (part.high - part.low) (λ j l. zs (part.low + j) (omega arith) (omega arith))

  pub left_cut : (p : ℕ) → part.low ≤ p → p < part.high → f p ≡ true → part_left f part ≡ part_left f (under part p) ++ (p ∷ part_left f (over part p))
  left_cut p a b y =
      let m = p - part.low in
      let at : part.low + m ≡ p = add-sub_of_le a in
      let n : part.high - part.low ≡ suc m + (part.high - (p + 1)) = omega arith in
      let past : part.low + suc m ≡ p + 1 = omega arith in
      ap (between f part.low) n ∙ between_cut f part.low m (ap f at ∙ y) (part.high - (p + 1))
      ∙ ap₂ (λ (q r : ℕ). between f part.low m ++ (q ∷ between f r (part.high - (p + 1)))) at past
