-- A list of two pairs and its table, worked out. Assumes nothing.
use mathlib.Core.Path.{◌≡◌, refl, sym}
use mathlib.Core.Bool.{Bool, true, false, cond, ◌||◌, false≢true}
use mathlib.Core.List.{List, [], ◌∷◌}
use Prim.Native.Nat.{ℕ, ◌+◌, ◌*◌, ◌%◌}
use native.Mathlib.Omega.{arith}
use lib.Dec.{eqb}
use Rattle.sets.specs.Members.{read}
use Rattle.sets.proofs.ReadLaws.{read_clipped}
use Rattle.edits.specs.Edits.{is_in}
use Rattle.renumber_steps.specs.Pairs.{olds, repeats, arrives}
use Rattle.renumber_steps.specs.declared.pair.Pair.{Pair}
use Rattle.listing_lines.specs.Offsets.{all_offsets, offsets_of}
use Rattle.pair_listings.specs.Tables.{moved_by}
use Rattle.pair_listing_laws.specs.Lists.{new_of, TableOf}
use Rattle.pair_listing_laws.proofs.TableLaws.{moved-arrives}

-- line 1 pairs 0 with 65,535, line 2 pairs 2 with 0
pairs : List Pair
pairs = record { old = 0; new = 65535 } ∷ record { old = 2; new = 0 } ∷ []

table : ℕ → ℕ
table p = cond (eqb 0 p) (1 * 65536 + 65535) (cond (eqb 2 p) (2 * 65536 + 0) 0)

is_table : TableOf pairs table
unfolding pairs table olds repeats is_in new_of
is_table = record { once = refl; absent = λ p l. none (eqb 0 p) (eqb 2 p); present = λ p l. one (eqb 0 p) (eqb 2 p) }
  where
    none : (t u : Bool) → (t || (u || false)) ≡ false → cond t (1 * 65536 + 65535) (cond u (2 * 65536 + 0) 0) ≡ 0
    none true u e = absurd (false≢true (sym e))
    none false true e = absurd (false≢true (sym e))
    none false false e = refl

    one : (t u : Bool) → (t || (u || false)) ≡ true
        → (cond t (1 * 65536 + 65535) (cond u (2 * 65536 + 0) 0) ≡ 0 → ⊥) × (cond t (1 * 65536 + 65535) (cond u (2 * 65536 + 0) 0) % 65536 ≡ cond t 65535 (cond u 0 0))
    one true u e = ((λ z. omega arith), refl)
    one false true e = ((λ z. omega arith), refl)
    one false false e = absurd (false≢true e)

-- so it moves a set of a file as the list does
moves_alike : (ws : List ℕ) (q : ℕ) → (moved_by table (offsets_of ws)).has q ≡ arrives pairs (offsets_of ws) q
unfolding read
moves_alike ws q = moved-arrives is_table (offsets_of ws) (read_clipped ws all_offsets) (omega arith) q
