-- The table of a list of pairs.
use Rattle.std.specs.Prelude.{◌≡◌, true, false, cond, List, [], ◌∷◌, ℕ, ◌%◌, ◌<◌, eqb}
use Rattle.edits.specs.Edits.{is_in}
use Rattle.renumber_steps.specs.Pairs.{olds, repeats}
use Rattle.renumber_steps.specs.declared.pair.Pair.{Pair}

-- the new offset of the first pair whose old offset is p
unfoldable pub new_of : List Pair → ℕ → ℕ
new_of [] p = 0
new_of (x ∷ xs) p = cond (eqb x.old p) x.new (new_of xs p)

-- no old offset stands twice; an offset that is in no pair has 0, any other a number other than 0 whose remainder is its new offset
pub record TableOf (pairs : List Pair) (to : ℕ → ℕ) : Type 0 where
  pub once : repeats (olds pairs) ≡ false
  pub absent : (p : ℕ) → p < 65536 → is_in (olds pairs) p ≡ false → to p ≡ 0
  pub present : (p : ℕ) → p < 65536 → is_in (olds pairs) p ≡ true → (to p ≡ 0 → ⊥) × (to p % 65536 ≡ new_of pairs p)
