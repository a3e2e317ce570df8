-- A list with one more at its end, and how long a list without repeats can be. Assumes nothing.
use mathlib.Core.Path.{◌≡◌, refl, sym, ap, ap₂, ◌∙◌}
use mathlib.Core.Bool.{Bool, true, false, ◌&&◌, ◌||◌, or-false, or_assoc, true≢false}
use mathlib.Core.List.{List, [], ◌∷◌, ◌++◌}
use Prim.Native.Nat.{ℕ, ◌+◌, ◌≤◌, ◌<◌}
use native.Mathlib.Omega.{arith}
use borrow.Author.Tests.{eqb-false, eq-eqb, ne_eqb}
use lib.Dec.{eqb}
use lib.ListN.{length}
use Rattle.word_bits.specs.Counts.{count}
use Rattle.word_bits.proofs.Ones.{count-le, count_none}
use Rattle.edits.specs.Edits.{is_in}
use Rattle.offset_file_laws.proofs.CountLaws.{count-more}
use Rattle.renumber_steps.specs.Pairs.{olds, news, repeats}
use Rattle.renumber_steps.specs.declared.pair.Pair.{Pair}
use Rattle.pair_files.specs.Good.{is_pair}

pub neither : (x y : Bool) → (x || y) ≡ false → (x ≡ false) × (y ≡ false)
neither true y e = absurd (true≢false e)
neither false y e = (refl, e)

-- ---- one more

pub in_more : (xs : List ℕ) (y p : ℕ) → is_in (xs ++ (y ∷ [])) p ≡ (is_in xs p || eqb y p)
unfolding is_in
in_more [] y p = or-false (eqb y p)
in_more (x ∷ xs) y p = ap (λ (b : Bool). eqb x p || b) (in_more xs y p) ∙ sym (or_assoc (eqb x p) (is_in xs p) (eqb y p))

pub once_more : (xs : List ℕ) (y : ℕ) → repeats xs ≡ false → is_in xs y ≡ false → repeats (xs ++ (y ∷ [])) ≡ false
unfolding repeats is_in
once_more [] y a b = refl
once_more (x ∷ xs) y a b =
    let r = neither (is_in xs x) (repeats xs) a in
    let n = neither (eqb x y) (is_in xs y) b in
    let other : eqb y x ≡ false = ne_eqb y x (λ z. eqb-false x y n.0 (sym z)) in
    ap₂ (λ (s t : Bool). s || t) (in_more xs y x ∙ ap₂ (λ (s t : Bool). s || t) r.0 other) (once_more xs y r.1 n.1)

pub olds-more : (list : List Pair) (x : Pair) → olds (list ++ (x ∷ [])) ≡ olds list ++ (x.old ∷ [])
unfolding olds
olds-more [] x = refl
olds-more (y ∷ list) x = ap (λ (ps : List ℕ). y.old ∷ ps) (olds-more list x)

pub news-more : (list : List Pair) (x : Pair) → news (list ++ (x ∷ [])) ≡ news list ++ (x.new ∷ [])
unfolding news
news-more [] x = refl
news-more (y ∷ list) x = ap (λ (ps : List ℕ). y.new ∷ ps) (news-more list x)

pub pair_more : (list : List Pair) (x : Pair) (p q : ℕ) → is_pair (list ++ (x ∷ [])) p q ≡ (is_pair list p q || (eqb x.old p && eqb x.new q))
unfolding is_pair
pair_more [] x p q = or-false (eqb x.old p && eqb x.new q)
pair_more (y ∷ list) x p q =
    ap (λ (b : Bool). (eqb y.old p && eqb y.new q) || b) (pair_more list x p q)
    ∙ sym (or_assoc (eqb y.old p && eqb y.new q) (is_pair list p q) (eqb x.old p && eqb x.new q))

-- ---- as many as places

places : (n : ℕ) (xs : List ℕ) → repeats xs ≡ false → ((p : ℕ) → is_in xs p ≡ true → p < n) → count n (is_in xs) ≡ length xs
unfolding repeats is_in
places n [] r b = count_none n (is_in []) (λ j l. refl)
places n (x ∷ xs) r b =
    let s = neither (is_in xs x) (repeats xs) r in
    count-more n (is_in xs) (is_in (x ∷ xs)) x (b x here) s.0 here (λ p d. sym (ap (λ (t : Bool). t || is_in xs p) (ne_eqb x p (λ z. d (sym z)))))
    ∙ ap (λ (k : ℕ). k + 1) (places n xs s.1 (λ p e. b p (ap (λ (t : Bool). eqb x p || t) e ∙ or-true (eqb x p)))) ∙ omega arith
  where
    or-true : (t : Bool) → (t || true) ≡ true
    or-true true = refl
    or-true false = refl

    here : (eqb x x || is_in xs x) ≡ true
    here = ap (λ (t : Bool). t || is_in xs x) (eq-eqb x x refl)

-- numbers below n of which none stands twice are at most n
pub at_most : (n : ℕ) (xs : List ℕ) → repeats xs ≡ false → ((p : ℕ) → is_in xs p ≡ true → p < n) → length xs ≤ n
at_most n xs r b = let e = places n xs r b in let l = count-le n (is_in xs) in omega arith

pub length-olds : (list : List Pair) → length (olds list) ≡ length list
unfolding olds
length-olds [] = refl
length-olds (x ∷ list) = let e = length-olds list in omega arith
