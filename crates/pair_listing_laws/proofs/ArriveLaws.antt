-- The members that a list of pairs moves, by the first pair of each offset. Assumes nothing.
use mathlib.Core.Path.{◌≡◌, refl, sym, ap, ap₂, ◌∙◌, fun_ext}
use mathlib.Core.Bool.{Bool, true, false, cond, ◌&&◌, ◌||◌, and-false, false≢true}
use mathlib.Core.List.{List, [], ◌∷◌}
use Prim.Native.Nat.{ℕ, ◌≤◌}
use borrow.Author.Tests.{eqb-true}
use lib.Dec.{eqb}
use Rattle.word_bits.specs.Counts.{some}
use Rattle.word_bits.proofs.Quantifiers.{some_no}
use Rattle.sets.specs.Members.{Members}
use Rattle.edits.specs.Edits.{is_in}
use Rattle.renumber_steps.specs.Pairs.{olds, repeats, arrives}
use Rattle.renumber_steps.specs.declared.pair.Pair.{Pair}
use Rattle.pair_listing_laws.specs.Lists.{new_of}
use Rattle.pair_listing_laws.proofs.SomeLaws.{some_or, some_one}

neither : (a b : Bool) → (a || b) ≡ false → (a ≡ false) × (b ≡ false)
neither true b e = absurd (false≢true (sym e))
neither false b e = (refl, e)

module _ (s : Members) (n : ℕ) (clip : (p : ℕ) → n ≤ p → s.has p ≡ false) (q : ℕ) where
  -- whether p moves to q
  abbrev goes : List Pair → ℕ → Bool
  goes pairs p = s.has p && (is_in (olds pairs) p && eqb (new_of pairs p) q)

  none_of : (b : Bool) (u : Bool) → (b && u) ≡ ((b && u) || (b && false))
  none_of true true = refl
  none_of true false = refl
  none_of false u = refl

  first-or_later : (x : Pair) (xs : List Pair) → is_in (olds xs) x.old ≡ false → (p : ℕ) → goes (x ∷ xs) p ≡ ((s.has p && (eqb x.old p && eqb x.new q)) || goes xs p)
  unfolding olds is_in new_of
  first-or_later x xs h p = go (eqb x.old p) refl
    where
      go : (t : Bool) → eqb x.old p ≡ t
          → (s.has p && ((t || is_in (olds xs) p) && eqb (cond t x.new (new_of xs p)) q)) ≡ ((s.has p && (t && eqb x.new q)) || (s.has p && (is_in (olds xs) p && eqb (new_of xs p) q)))
      go true e =
          none_of (s.has p) (eqb x.new q)
          ∙ ap (λ (t : Bool). (s.has p && eqb x.new q) || (s.has p && (t && eqb (new_of xs p) q))) (sym h ∙ ap (is_in (olds xs)) (eqb-true x.old p e))
      go false e = ap (λ (t : Bool). t || (s.has p && (is_in (olds xs) p && eqb (new_of xs p) q))) (sym (and-false (s.has p)))

  pub arrives_is : (pairs : List Pair) → repeats (olds pairs) ≡ false → some n (goes pairs) ≡ arrives pairs s q
  unfolding olds repeats arrives
  arrives_is [] e = some_no n (goes []) (λ p l. unfold is_in in and-false (s.has p))
  arrives_is (x ∷ xs) e =
      let no = neither (is_in (olds xs) x.old) (repeats (olds xs)) e in
      ap (some n) (fun_ext (first-or_later x xs no.0))
      ∙ some_or n (λ p. s.has p && (eqb x.old p && eqb x.new q)) (goes xs)
      ∙ ap₂ ◌||◌ (some_one n s.has clip x.old (eqb x.new q)) (arrives_is xs no.1)
