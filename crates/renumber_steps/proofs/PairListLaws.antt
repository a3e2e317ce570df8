-- Lists of pairs: their sides, those of members, and what arrives by them. Assumes nothing.
use mathlib.Core.Path.{◌≡◌, refl, sym, ap, ap₂, ◌∙◌}
use mathlib.Core.Bool.{Bool, true, false, not, ◌&&◌, ◌||◌, true≢false}
use mathlib.Core.List.{List, [], ◌∷◌}
use Prim.Native.Nat.{ℕ}
use borrow.Author.Tests.{eq-eqb, ne_eqb, eqb-true}
use lib.Dec.{eqb}
use Rattle.std.proofs.Math.Bool.{and-true, and-false, or-false}
use Rattle.std.proofs.lemmas.Bool.{or_parts}
use Rattle.sets.specs.Members.{Members}
use Rattle.edits.specs.Edits.{is_in}
use Rattle.renumber_steps.specs.Pairs.{olds, news, repeats, arrives, sided_pair, sided, swapped}
use Rattle.renumber_steps.specs.declared.pair.Pair.{Pair}

-- ---- sides

pub swapped_pair : (back : Bool) (p q : Pair) → q ≡ sided_pair back p → record { old = q.new; new = q.old } ≡ sided_pair (not back) p
unfolding sided_pair
swapped_pair true p q e = ap (λ (r : Pair). record { old = r.new; new = r.old }) e
swapped_pair false p q e = ap (λ (r : Pair). record { old = r.new; new = r.old }) e

pub sided_same : (ps : List Pair) → sided false ps ≡ ps
unfolding sided sided_pair
sided_same [] = refl
sided_same (p ∷ ps) = ap (λ (l : List Pair). p ∷ l) (sided_same ps)

pub swapped-olds : (ps : List Pair) → olds (swapped ps) ≡ news ps
unfolding olds news sided sided_pair
swapped-olds [] = refl
swapped-olds (p ∷ ps) = ap (λ (l : List ℕ). p.new ∷ l) (swapped-olds ps)

pub swapped-news : (ps : List Pair) → news (swapped ps) ≡ olds ps
unfolding olds news sided sided_pair
swapped-news [] = refl
swapped-news (p ∷ ps) = ap (λ (l : List ℕ). p.old ∷ l) (swapped-news ps)

-- ---- no offset stands twice

pub repeats-both : (x : ℕ) (xs : List ℕ) → repeats (x ∷ xs) ≡ false → (is_in xs x ≡ false) × (repeats xs ≡ false)
unfolding repeats
repeats-both x xs e = or_parts (is_in xs x) (repeats xs) e

-- ---- what arrives

-- only new offsets arrive
pub arrives_in : (ps : List Pair) (s : Members) (q : ℕ) → is_in (news ps) q ≡ false → arrives ps s q ≡ false
unfolding arrives news is_in
arrives_in [] s q e = refl
arrives_in (p ∷ ps) s q e =
    let both = or_parts (eqb p.new q) (is_in (news ps) q) e in
    ap₂ ◌||◌ (ap (λ (b : Bool). s.has p.old && b) both.0 ∙ and-false (s.has p.old)) (arrives_in ps s q both.1)

-- a property of each pair of a list
abbrev pub Each : (Pair → Type 0) → List Pair → Type 0
Each P [] = Unit {0}
Each P (p ∷ ps) = P p × Each P ps

each_map : (P Q : Pair → Type 0) (ps : List Pair) → ((p : Pair) → P p → Q p) → Each P ps → Each Q ps
each_map P Q [] f e = tt
each_map P Q (p ∷ ps) f e = (f p e.0, each_map P Q ps f e.1)

-- where no new offset stands twice, the new offset of a pair arrives exactly where its old one is a member
Arrived : Members → List Pair → Pair → Type 0
Arrived s ps p = (is_in (news ps) p.new ≡ true) × (arrives ps s p.new ≡ s.has p.old)

arrived_more : (s : Members) (p : Pair) (ps : List Pair) → is_in (news ps) p.new ≡ false → (q : Pair) → Arrived s ps q → Arrived s (p ∷ ps) q
unfolding Arrived arrives news is_in
arrived_more s p ps e q a =
    let other = ne_eqb p.new q.new (λ z. true≢false (sym a.0 ∙ ap (is_in (news ps)) (sym z) ∙ e)) in (
      ap₂ ◌||◌ other a.0,
      ap (λ (b : Bool). (s.has p.old && b) || arrives ps s q.new) other ∙ ap (λ (b : Bool). b || arrives ps s q.new) (and-false (s.has p.old)) ∙ a.1,
    )

arrived_first : (s : Members) (p : Pair) (ps : List Pair) → is_in (news ps) p.new ≡ false → Arrived s (p ∷ ps) p
unfolding Arrived arrives news is_in
arrived_first s p ps e =
    let same = eq-eqb p.new p.new refl in (
      ap (λ (b : Bool). b || is_in (news ps) p.new) same,
      ap₂ (λ (b c : Bool). (s.has p.old && b) || c) same (arrives_in ps s p.new e) ∙ or-false (s.has p.old && true) ∙ and-true (s.has p.old),
    )

each_arrived : (s : Members) (ps : List Pair) → repeats (news ps) ≡ false → Each (Arrived s ps) ps
unfolding news
each_arrived s [] e = tt
each_arrived s (p ∷ ps) e =
    let both = repeats-both p.new (news ps) e in
    (arrived_first s p ps both.0, each_map (Arrived s ps) (Arrived s (p ∷ ps)) ps (arrived_more s p ps both.0) (each_arrived s ps both.1))

-- ---- the way back

returned : (s u : Members) (qs : List Pair) (x : ℕ) → Each (λ q. u.has q.new ≡ s.has q.old) qs
    → arrives (swapped qs) u x ≡ (is_in (olds qs) x && s.has x)
unfolding arrives olds is_in sided sided_pair
returned s u [] x e = refl
returned s u (q ∷ qs) x e =
    ap₂ (λ (a b : Bool). (a && eqb q.old x) || b) e.0 (returned s u qs x e.1) ∙ go (eqb q.old x) refl (is_in (olds qs) x)
  where
    all : (h b : Bool) → ((h && true) || (b && h)) ≡ h
    all true b = refl
    all false true = refl
    all false false = refl

    go : (t : Bool) → eqb q.old x ≡ t → (b : Bool) → ((s.has q.old && t) || (b && s.has x)) ≡ ((t || b) && s.has x)
    go true z b = ap (λ (h : Bool). (h && true) || (b && s.has x)) (ap s.has (eqb-true q.old x z)) ∙ all (s.has x) b
    go false z b = ap (λ (h : Bool). h || (b && s.has x)) (and-false (s.has q.old))

-- what arrives, swapped, is what was there of the old offsets
pub there_and_back : (s u : Members) (ps : List Pair) (x : ℕ) → ((q : ℕ) → u.has q ≡ arrives ps s q) → repeats (news ps) ≡ false
    → arrives (swapped ps) u x ≡ (is_in (olds ps) x && s.has x)
unfolding Arrived
there_and_back s u ps x e d =
    returned s u ps x (each_map (Arrived s ps) (λ q. u.has q.new ≡ s.has q.old) ps (λ q a. e q.new ∙ a.1) (each_arrived s ps d))
