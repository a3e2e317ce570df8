-- The tables after an offset is named, and cleared. Assumes nothing.
use mathlib.Core.Path.{◌≡◌, refl, sym, ap, ◌∙◌}
use mathlib.Core.Bool.{Bool, true, false, cond}
use mathlib.Core.List.{List}
use Prim.Native.Nat.{ℕ, ◌<◌}
use native.Mathlib.Omega.{arith}
use borrow.Author.Tests.{eqb-true, eqb-false}
use lib.Dec.{eqb}
use lib.ListN.{length, get_or, set as set_at, length-set}
use lib.Seq.{get_or-set_same, get_or-set_other}
use Rattle.pair_files.specs.Files.{with_word}

-- a table with an offset's word, where it has none
abbrev pub set_word : List ℕ → ℕ → ℕ → List ℕ
set_word table p word = cond (eqb (get_or table p 0) 0) (set_at table p word) table

pub length_word : (table : List ℕ) (p word : ℕ) → length (set_word table p word) ≡ length table
length_word table p word = go (eqb (get_or table p 0) 0)
  where
    go : (t : Bool) → length (cond t (set_at table p word) table) ≡ length table
    go true = length-set table p word
    go false = refl

pub word_at : (table : List ℕ) (f : ℕ → ℕ) (p word : ℕ) → length table ≡ 65536 → p < 65536 → ((q : ℕ) → q < 65536 → get_or table q 0 ≡ f q)
    → (q : ℕ) → q < 65536 → get_or (set_word table p word) q 0 ≡ with_word f p word q
unfolding with_word
word_at table f p word long l e q m = rw (sym (e p l)) (go (eqb (get_or table p 0) 0) (eqb q p) refl)
  where
    go : (t s : Bool) → eqb q p ≡ s → get_or (cond t (set_at table p word) table) q 0 ≡ cond s (cond t word (get_or table p 0)) (f q)
    go true true d = rw (eqb-true q p d) (get_or-set_same table p word 0 (omega arith))
    go true false d = get_or-set_other table p q word 0 (eqb-false q p d) ∙ e q m
    go false true d = ap (λ (k : ℕ). get_or table k 0) (eqb-true q p d)
    go false false d = e q m
