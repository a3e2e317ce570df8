-- Offsets that stand twice in a list: those below 65,536 by their marks, the others by comparing. Assumes nothing.
use mathlib.Core.Path.{◌≡◌, refl, sym, ap, ◌∙◌}
use mathlib.Core.Bool.{Bool, true, false, cond, ◌||◌}
use mathlib.Core.List.{List, [], ◌∷◌}
use mathlib.Core.Logic.{◌⊎◌, inl, inr}
use Prim.Native.Nat.{ℕ, ◌≤◌, ◌<◌}
use native.Mathlib.Omega.{arith}
use borrow.Author.Tests.{le-leb, lt-leb, ne_eqb}
use lib.Dec.{eqb, leb}
use Rattle.std.proofs.Math.Bool.{or-true}
use Rattle.word_bits.proofs.Order.{lt-or-le}
use Rattle.sets.specs.Members.{Members, empty, changed}
use Rattle.sets.proofs.WriteLaws.{Clipped}
use Rattle.edits.specs.Edits.{is_in, inserted}
use Rattle.renumber_steps.proofs.HeldLaws.{held, hits, held_out, held_in, held_len, held_clipped}
use Rattle.renumber_steps.specs.Pairs.{repeats}
use Rattle.renumber_steps.specs.Passes.{aboves}
use Rattle.renumber_steps.proofs.MarkLaws.{eqb_agree}

-- whether one of a list is a member
unfoldable pub meets : Members → List ℕ → Bool
meets t [] = false
meets t (x ∷ xs) = t.has x || meets t xs

-- ---- one more member is met where it is in the list

meets_more : (x : ℕ) (t : Members) (xs : List ℕ) → meets (inserted x t) xs ≡ (is_in xs x || meets t xs)
unfolding meets is_in changed
meets_more x t [] = refl
meets_more x t (y ∷ ys) = ap (λ (b : Bool). cond (eqb x y) true (t.has y) || b) (meets_more x t ys) ∙ go (eqb x y) (eqb y x) (eqb_agree x y y x (λ e. sym e) (λ e. sym e)) (t.has y) (is_in ys x) (meets t ys)
  where
    go : (a a' : Bool) → a ≡ a' → (h i m : Bool) → (cond a true h || (i || m)) ≡ ((a' || i) || (h || m))
    go a a' e h i m = ap (λ (z : Bool). cond z true h || (i || m)) e ∙ all a' h i m
      where
        all : (a h i m : Bool) → (cond a true h || (i || m)) ≡ ((a || i) || (h || m))
        all true h i m = refl
        all false true true m = refl
        all false true false m = refl
        all false false true m = refl
        all false false false m = refl

pub in_aboves : (x : ℕ) (xs : List ℕ) → 65536 ≤ x → is_in (aboves xs) x ≡ is_in xs x
unfolding is_in aboves
in_aboves x [] h = refl
in_aboves x (y ∷ ys) h = go (lt-or-le y 65536) (in_aboves x ys h)
  where
    go : (y < 65536) ⊎ (65536 ≤ y) → is_in (aboves ys) x ≡ is_in ys x → is_in (cond (leb 65536 y) (y ∷ aboves ys) (aboves ys)) x ≡ (eqb y x || is_in ys x)
    go (inl l) e = rw (lt-leb 65536 y l, ne_eqb y x (λ z. omega arith)) e
    go (inr g) e = rw (le-leb 65536 y g) (ap (λ (b : Bool). eqb y x || b) e)

-- ---- the marks and the comparing together find what stands twice

low : (h k a i m r : Bool) → (k || a) ≡ ((i || m) || r) → ((h || k) || a) ≡ ((h || m) || (i || r))
low true k a i m r e = refl
low false k a true m r e = e ∙ sym (or-true m)
low false k a false m r e = e

high : (k a i m r : Bool) → (k || a) ≡ (m || r) → (k || (i || a)) ≡ (m || (i || r))
high k a true m r e = or-true k ∙ sym (or-true m)
high k a false m r e = e

hits_step : (t : Members) (x : ℕ) (xs : List ℕ) → Clipped t → t.len ≡ 65536
    → (hits (held x t) xs || repeats (aboves xs)) ≡ (meets (held x t) xs || repeats xs)
    → (hits t (x ∷ xs) || repeats (aboves (x ∷ xs))) ≡ (meets t (x ∷ xs) || repeats (x ∷ xs))
unfolding hits meets repeats aboves
hits_step t x xs c n e = go (lt-or-le x 65536)
  where
    go : (x < 65536) ⊎ (65536 ≤ x)
        → ((t.has x || hits (held x t) xs) || repeats (cond (leb 65536 x) (x ∷ aboves xs) (aboves xs))) ≡ ((t.has x || meets t xs) || (is_in xs x || repeats xs))
    go (inl l) =
        rw (lt-leb 65536 x l)
        (low (t.has x) (hits (held x t) xs) (repeats (aboves xs)) (is_in xs x) (meets t xs) (repeats xs)
        (e ∙ ap (λ (b : Bool). b || repeats xs) (ap (λ (u : Members). meets u xs) (held_in x t (rw n l)) ∙ meets_more x t xs)))
    go (inr g) =
        rw (le-leb 65536 x g, c.above x (rw n g), held_out x t (rw n g), in_aboves x xs g)
        (high (hits t xs) (repeats (aboves xs)) (is_in xs x) (meets t xs) (repeats xs)
        (sym (ap (λ (u : Members). hits u xs || repeats (aboves xs)) (held_out x t (rw n g))) ∙ e
        ∙ ap (λ (u : Members). meets u xs || repeats xs) (held_out x t (rw n g))))

hits_or : (t : Members) (xs : List ℕ) → Clipped t → t.len ≡ 65536 → (hits t xs || repeats (aboves xs)) ≡ (meets t xs || repeats xs)
unfolding hits meets repeats aboves
hits_or t [] c n = refl
hits_or t (x ∷ xs) c n = hits_step t x xs c n (hits_or (held x t) xs (held_clipped x t c) (held_len x t ∙ n))

none_met : (n : ℕ) (xs : List ℕ) → meets (empty n) xs ≡ false
unfolding meets
none_met n [] = refl
none_met n (x ∷ xs) = none_met n xs

-- from no marks on
pub hits_repeats : (xs : List ℕ) → (hits (empty 65536) xs || repeats (aboves xs)) ≡ repeats xs
hits_repeats xs = hits_or (empty 65536) xs (record { above = λ p h. refl }) refl ∙ ap (λ (b : Bool). b || repeats xs) (none_met 65536 xs)
