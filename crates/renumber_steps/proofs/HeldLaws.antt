-- Marks made one after the other: those below a length are held, and where none was there they are those of the list. Assumes nothing.
use mathlib.Core.Path.{◌≡◌, refl, sym, ap, ◌∙◌}
use mathlib.Core.Bool.{Bool, true, false, cond, ◌||◌, true≢false}
use mathlib.Core.List.{List, [], ◌∷◌}
use mathlib.Core.Logic.{◌⊎◌, inl, inr}
use Prim.Native.Nat.{ℕ, ◌≤◌, ◌<◌}
use native.Mathlib.Omega.{arith}
use borrow.Author.Tests.{lt-ltb, le-ltb, ne_eqb}
use lib.Dec.{eqb, ltb}
use Rattle.word_bits.proofs.Order.{lt-or-le}
use Rattle.sets.specs.Members.{Members, changed}
use Rattle.sets.proofs.WriteLaws.{Clipped}
use Rattle.edits.specs.Edits.{is_in, inserted}

-- an offset that a set of n bits can hold becomes a member
unfoldable pub held : ℕ → Members → Members
held x t = cond (ltb x t.len) (inserted x t) t

-- whether one of a list is there when it is marked, the marks made one after the other
unfoldable pub hits : Members → List ℕ → Bool
hits t [] = false
hits t (x ∷ xs) = t.has x || hits (held x t) xs

-- the marks after them, up to the first that was there
unfoldable pub marks : Members → List ℕ → Members
marks t [] = t
marks t (x ∷ xs) = cond (t.has x) (held x t) (marks (held x t) xs)

pub held_in : (x : ℕ) (t : Members) → x < t.len → held x t ≡ inserted x t
unfolding held
held_in x t h = ap (λ (b : Bool). cond b (inserted x t) t) (lt-ltb x t.len h)

pub held_out : (x : ℕ) (t : Members) → t.len ≤ x → held x t ≡ t
unfolding held
held_out x t h = ap (λ (b : Bool). cond b (inserted x t) t) (le-ltb x t.len h)

pub held_len : (x : ℕ) (t : Members) → (held x t).len ≡ t.len
unfolding held changed
held_len x t = go (ltb x t.len)
  where
    go : (b : Bool) → (cond b (inserted x t) t).len ≡ t.len
    go true = refl
    go false = refl

pub inserted_clipped : (x : ℕ) (t : Members) → Clipped t → x < t.len → Clipped (inserted x t)
unfolding changed
inserted_clipped x t c h = record {
  above = λ p l. ap (λ (b : Bool). cond b true (t.has p)) (ne_eqb x p (λ e. omega arith)) ∙ c.above p l;
}

pub held_clipped : (x : ℕ) (t : Members) → Clipped t → Clipped (held x t)
held_clipped x t c = go (lt-or-le x t.len)
  where
    go : (x < t.len) ⊎ (t.len ≤ x) → Clipped (held x t)
    go (inl l) = rw (held_in x t l) (inserted_clipped x t c l)
    go (inr g) = rw (held_out x t g) c

-- ---- where no offset was there, the marks are those of the list

pub marks_len : (t : Members) (xs : List ℕ) → (marks t xs).len ≡ t.len
unfolding marks
marks_len t [] = refl
marks_len t (x ∷ xs) = go (t.has x) (marks_len (held x t) xs)
  where
    go : (b : Bool) → (marks (held x t) xs).len ≡ (held x t).len → (cond b (held x t) (marks (held x t) xs)).len ≡ t.len
    go true e = held_len x t
    go false e = e ∙ held_len x t

pub marks_clipped : (t : Members) (xs : List ℕ) → Clipped t → Clipped (marks t xs)
unfolding marks
marks_clipped t [] c = c
marks_clipped t (x ∷ xs) c = go (t.has x) (marks_clipped (held x t) xs (held_clipped x t c))
  where
    go : (b : Bool) → Clipped (marks (held x t) xs) → Clipped (cond b (held x t) (marks (held x t) xs))
    go true d = held_clipped x t c
    go false d = d

pub held_has : (x : ℕ) (t : Members) (p : ℕ) → p < t.len → (held x t).has p ≡ (eqb x p || t.has p)
unfolding changed
held_has x t p h = go (lt-or-le x t.len)
  where
    same : (a b : Bool) → cond a true b ≡ (a || b)
    same true b = refl
    same false b = refl

    go : (x < t.len) ⊎ (t.len ≤ x) → (held x t).has p ≡ (eqb x p || t.has p)
    go (inl l) = ap (λ (u : Members). u.has p) (held_in x t l) ∙ same (eqb x p) (t.has p)
    go (inr g) = ap (λ (u : Members). u.has p) (held_out x t g) ∙ sym (ap (λ (b : Bool). b || t.has p) (ne_eqb x p (λ e. omega arith)))

pub marks_has : (t : Members) (xs : List ℕ) (p : ℕ) → p < t.len → hits t xs ≡ false → (marks t xs).has p ≡ (is_in xs p || t.has p)
unfolding hits marks is_in
marks_has t [] p h e = refl
marks_has t (x ∷ xs) p h e = go (t.has x) e (marks_has (held x t) xs p (rw (held_len x t) h))
  where
    swap : (a b c : Bool) → (a || (b || c)) ≡ ((b || a) || c)
    swap true true c = refl
    swap true false c = refl
    swap false true c = refl
    swap false false c = refl

    go : (b : Bool) → (b || hits (held x t) xs) ≡ false → (hits (held x t) xs ≡ false → (marks (held x t) xs).has p ≡ (is_in xs p || (held x t).has p))
        → (cond b (held x t) (marks (held x t) xs)).has p ≡ ((eqb x p || is_in xs p) || t.has p)
    go true q k = absurd (true≢false q)
    go false q k = k q ∙ ap (λ (b : Bool). is_in xs p || b) (held_has x t p h) ∙ swap (is_in xs p) (eqb x p) (t.has p)
