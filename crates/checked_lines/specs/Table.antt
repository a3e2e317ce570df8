-- The lines of document 01, "Sets at their edges", that are marked P: what each asks, and what it says.
use Rattle.std.specs.Prelude.{List, [], ◌∷◌, ℕ}
use Rattle.sets.specs.declared.fixed_bit_set.FixedBitSet.{FixedBitSet}
use Rattle.whole_walks.specs.declared.walk.Walk.TheVariants.{Ones, Union, SymmetricDifference}
use Rattle.checked_lines.specs.Asked.{Asked, IsFull, IsClear, Minimum, Insert, CopyBit, InsertRange, CountOnes, UnionWith, LastBitOf, Listed, Steps}
use Rattle.checked_lines.specs.Asked.{UnionCount, SymmetricDifferenceCount, OnesSteps, UnionSteps, SymmetricDifferenceSteps}

-- the line's place among those marked P, from 1
pub record Line : Type 0 where
  pub place : ℕ
  pub asked : Asked
  pub expected : List ℕ

abbrev bits : ℕ → FixedBitSet
bits n = record { length = n }

-- an answer of none
abbrev none : ℕ
none = 0xFFFFFFFFFFFFFFFF

abbrev line : ℕ → Asked → List ℕ → Line
line place asked expected = record { place = place; asked = asked; expected = expected }

abbrev pub table : List Line
table =
    -- 1. L = 0: `is_full` yes, `is_clear` yes, `minimum` none
    line 1 (IsFull (bits 0) []) (0 ∷ 1 ∷ [])
    ∷ line 1 (IsClear (bits 0) []) (0 ∷ 1 ∷ [])
    ∷ line 1 (Minimum (bits 0) []) (0 ∷ none ∷ [])
    -- 2. L = 64, `insert_range` 64..64: accepted, no change; 64..65: 5
    ∷ line 2 (InsertRange (bits 64) (7 ∷ 9 ∷ []) 64 64) (0 ∷ 64 ∷ 7 ∷ 9 ∷ [])
    ∷ line 2 (InsertRange (bits 64) (7 ∷ 9 ∷ []) 64 65) (5 ∷ 64 ∷ 7 ∷ 9 ∷ [])
    -- 3. L = 70, no member, `insert_range` 60..70: words 0xF000000000000000, 0x3F
    ∷ line 3 (InsertRange (bits 70) (0 ∷ 0 ∷ []) 60 70) (0 ∷ 70 ∷ 0xF000000000000000 ∷ 0x3F ∷ [])
    -- 4. L = 10, {2, 8}: word 0x104; `count_ones` of 2..8 is 1
    ∷ line 4 (Insert (bits 10) (0x4 ∷ []) 8) (0 ∷ 10 ∷ 0x104 ∷ [])
    ∷ line 4 (CountOnes (bits 10) (0x104 ∷ []) 2 8) (0 ∷ 1 ∷ [])
    -- 5. the same set, `copy_bit` from 99 to 2: word 0x100
    ∷ line 5 (CopyBit (bits 10) (0x104 ∷ []) 99 2) (0 ∷ 10 ∷ 0x100 ∷ [])
    -- 6. A = {1, 70}, L = 71; B = {0, 1}, L = 2: `union` front 1, 70, 0; count 3
    ∷ line 6 (Listed Union (bits 71) (2 ∷ 64 ∷ []) (bits 2) (3 ∷ [])) (1 ∷ 70 ∷ 0 ∷ [])
    ∷ line 6 (Steps Union (bits 71) (2 ∷ 64 ∷ []) (bits 2) (3 ∷ []) (0 ∷ 0 ∷ 0 ∷ 0 ∷ [])) (0 ∷ 3 ∷ 1 ∷ 70 ∷ 0 ∷ none ∷ [])
    -- the count and the steps by themselves; a step gives number, answer, low and high of each part, and the next step takes these records
    ∷ line 6 (UnionCount (bits 71) (2 ∷ 64 ∷ []) (bits 2) (3 ∷ [])) (0 ∷ 3 ∷ [])
    ∷ line 6 (UnionSteps (bits 71) (2 ∷ 64 ∷ []) (bits 2) (3 ∷ []) (0 ∷ 0 ∷ 0 ∷ 0 ∷ []))
    (0 ∷ 1 ∷ 2 ∷ 71 ∷ 0 ∷ 2 ∷
    0 ∷ 70 ∷ 71 ∷ 71 ∷ 0 ∷ 2 ∷
    0 ∷ 0 ∷ 71 ∷ 71 ∷ 1 ∷ 2 ∷
    0 ∷ none ∷ 71 ∷ 71 ∷ 1 ∷ 2 ∷ [])
    -- 7. these: `symmetric_difference` front 70, 0
    ∷ line 7 (Listed SymmetricDifference (bits 71) (2 ∷ 64 ∷ []) (bits 2) (3 ∷ [])) (70 ∷ 0 ∷ [])
    ∷ line 7 (Steps SymmetricDifference (bits 71) (2 ∷ 64 ∷ []) (bits 2) (3 ∷ []) (0 ∷ 0 ∷ 0 ∷ [])) (0 ∷ 2 ∷ 70 ∷ 0 ∷ none ∷ [])
    ∷ line 7 (SymmetricDifferenceCount (bits 71) (2 ∷ 64 ∷ []) (bits 2) (3 ∷ [])) (0 ∷ 2 ∷ [])
    ∷ line 7 (SymmetricDifferenceSteps (bits 71) (2 ∷ 64 ∷ []) (bits 2) (3 ∷ []) (0 ∷ 0 ∷ 0 ∷ []))
    (0 ∷ 70 ∷ 71 ∷ 71 ∷ 0 ∷ 2 ∷
    0 ∷ 0 ∷ 71 ∷ 71 ∷ 1 ∷ 2 ∷
    0 ∷ none ∷ 71 ∷ 71 ∷ 1 ∷ 2 ∷ [])
    -- 8. L = 65, {0, 63, 64}: front 0, back 64, front 63, then none at both ends
    ∷ line 8 (Steps Ones (bits 65) (0x8000000000000001 ∷ 1 ∷ []) (bits 0) [] (0 ∷ 1 ∷ 0 ∷ 0 ∷ 1 ∷ [])) (0 ∷ 3 ∷ 0 ∷ 64 ∷ 63 ∷ none ∷ none ∷ [])
    ∷ line 8 (OnesSteps (bits 65) (0x8000000000000001 ∷ 1 ∷ []) (0 ∷ 1 ∷ 0 ∷ 0 ∷ 1 ∷ []))
    (0 ∷ 0 ∷ 1 ∷ 65 ∷
    0 ∷ 64 ∷ 1 ∷ 64 ∷
    0 ∷ 63 ∷ 64 ∷ 64 ∷
    0 ∷ none ∷ 64 ∷ 64 ∷
    0 ∷ none ∷ 64 ∷ 64 ∷ [])
    -- 9. L = 4, {3}; `union_with` L = 130, {129}: length 130, words 8, 0, 2
    ∷ line 9 (UnionWith (bits 4) (8 ∷ 77 ∷ 77 ∷ []) (bits 130) (0 ∷ 0 ∷ 2 ∷ [])) (0 ∷ 130 ∷ 8 ∷ 0 ∷ 2 ∷ [])
    -- 10. helper on 12: position 2, rest 8; on 0: 9
    ∷ line 10 (LastBitOf 12) (0 ∷ 2 ∷ 8 ∷ [])
    ∷ line 10 (LastBitOf 0) (9 ∷ 0 ∷ 0 ∷ [])
    ∷ []
