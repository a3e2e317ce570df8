-- Calls as numbers: five for each, which are the set, the call, two numbers and a yes or no. A run lends one list of positions beside them, and the call
-- that marks a list names a part of it.
use Rattle.std.specs.Prelude.{Bool, true, cond, not, ◌&&◌, List, [], ◌∷◌, ◌++◌, ℕ, ◌+◌, ◌-◌, ◌^◌, eqb, leb, ltb, length, take, drop}
use Rattle.std.proofs.Math.Option.{Option, none, some}
use Rattle.word_bits.specs.Digits.{one}
use Rattle.calls.specs.Calls.{Call, Insert, Remove, Put, Toggle, Set, CopyBit, InsertRange, RemoveRange, ToggleRange, SetRange, Clear, Grow, GrowAndInsert, UnionWith, IntersectWith, DifferenceWith, SymmetricDifferenceWith, InsertAll}
use Rattle.calls.specs.History.{Called, OnA, OnB}

-- the positions start..end of the list; a part that the list does not have is no call
unfoldable pub listed : List ℕ → ℕ → ℕ → Option Call
listed positions start end =
    cond (leb start end && leb end (length positions)) (some (InsertAll (take (end - start) (drop start positions)))) none

-- the call of a number; a number from 18 up is no call
abbrev pub decode : List ℕ → ℕ → ℕ → ℕ → Bool → Option Call
decode positions code x y z =
    cond (eqb code 0) (some (Insert x))
    (cond (eqb code 1) (some (Remove x))
    (cond (eqb code 2) (some (Put x))
    (cond (eqb code 3) (some (Toggle x))
    (cond (eqb code 4) (some (Set x z))
    (cond (eqb code 5) (some (CopyBit x y))
    (cond (eqb code 6) (some (InsertRange x y))
    (cond (eqb code 7) (some (RemoveRange x y))
    (cond (eqb code 8) (some (ToggleRange x y))
    (cond (eqb code 9) (some (SetRange x y z))
    (cond (eqb code 10) (some Clear)
    (cond (eqb code 11) (some (Grow x))
    (cond (eqb code 12) (some (GrowAndInsert x))
    (cond (eqb code 13) (some UnionWith)
    (cond (eqb code 14) (some IntersectWith)
    (cond (eqb code 15) (some DifferenceWith)
    (cond (eqb code 16) (some SymmetricDifferenceWith)
    (cond (eqb code 17) (listed positions x y) none)))))))))))))))))

abbrev pub called : (Call → Called) → Option Call → List Called
called on none = []
called on (some call) = on call ∷ []

-- on A for 0 and on B for 1; any other number is no call
abbrev pub decode_one : List ℕ → ℕ → ℕ → ℕ → ℕ → ℕ → List Called
decode_one positions on code x y z =
    cond (eqb on 0) (called OnA (decode positions code x y (not (eqb z 0))))
    (cond (eqb on 1) (called OnB (decode positions code x y (not (eqb z 0)))) [])

-- the calls of a list of numbers, five by five; fewer than five at its end are no call
unfoldable pub decode_all : List ℕ → List ℕ → List Called
decode_all positions (on ∷ code ∷ x ∷ y ∷ z ∷ rest) = decode_one positions on code x y z ++ decode_all positions rest
decode_all positions [] = []
decode_all positions (on ∷ []) = []
decode_all positions (on ∷ code ∷ []) = []
decode_all positions (on ∷ code ∷ x ∷ []) = []
decode_all positions (on ∷ code ∷ x ∷ y ∷ []) = []

-- the numbers of a call whose list, if it has one, begins at `at` in the lent one
abbrev pub encode : ℕ → ℕ → Call → List ℕ
encode at on (Insert bit) = on ∷ 0 ∷ bit ∷ 0 ∷ 0 ∷ []
encode at on (Remove bit) = on ∷ 1 ∷ bit ∷ 0 ∷ 0 ∷ []
encode at on (Put bit) = on ∷ 2 ∷ bit ∷ 0 ∷ 0 ∷ []
encode at on (Toggle bit) = on ∷ 3 ∷ bit ∷ 0 ∷ 0 ∷ []
encode at on (Set bit enabled) = on ∷ 4 ∷ bit ∷ 0 ∷ one enabled ∷ []
encode at on (CopyBit from to) = on ∷ 5 ∷ from ∷ to ∷ 0 ∷ []
encode at on (InsertRange start end) = on ∷ 6 ∷ start ∷ end ∷ 0 ∷ []
encode at on (RemoveRange start end) = on ∷ 7 ∷ start ∷ end ∷ 0 ∷ []
encode at on (ToggleRange start end) = on ∷ 8 ∷ start ∷ end ∷ 0 ∷ []
encode at on (SetRange start end enabled) = on ∷ 9 ∷ start ∷ end ∷ one enabled ∷ []
encode at on Clear = on ∷ 10 ∷ 0 ∷ 0 ∷ 0 ∷ []
encode at on (Grow n) = on ∷ 11 ∷ n ∷ 0 ∷ 0 ∷ []
encode at on (GrowAndInsert bit) = on ∷ 12 ∷ bit ∷ 0 ∷ 0 ∷ []
encode at on UnionWith = on ∷ 13 ∷ 0 ∷ 0 ∷ 0 ∷ []
encode at on IntersectWith = on ∷ 14 ∷ 0 ∷ 0 ∷ 0 ∷ []
encode at on DifferenceWith = on ∷ 15 ∷ 0 ∷ 0 ∷ 0 ∷ []
encode at on SymmetricDifferenceWith = on ∷ 16 ∷ 0 ∷ 0 ∷ 0 ∷ []
encode at on (InsertAll ps) = on ∷ 17 ∷ at ∷ (at + length ps) ∷ 0 ∷ []

-- the list of a call
abbrev pub list_of : Call → List ℕ
list_of (Insert bit) = []
list_of (Remove bit) = []
list_of (Put bit) = []
list_of (Toggle bit) = []
list_of (Set bit enabled) = []
list_of (CopyBit from to) = []
list_of (InsertRange start end) = []
list_of (RemoveRange start end) = []
list_of (ToggleRange start end) = []
list_of (SetRange start end enabled) = []
list_of Clear = []
list_of (Grow n) = []
list_of (GrowAndInsert bit) = []
list_of UnionWith = []
list_of IntersectWith = []
list_of DifferenceWith = []
list_of SymmetricDifferenceWith = []
list_of (InsertAll ps) = ps

-- the lists of the calls, one after the other: what a run lends beside their numbers
abbrev pub lists_of : List Called → List ℕ
lists_of [] = []
lists_of (OnA call ∷ calls) = list_of call ++ lists_of calls
lists_of (OnB call ∷ calls) = list_of call ++ lists_of calls

-- the numbers of the calls whose lists begin at `at`
abbrev pub encode_all : ℕ → List Called → List ℕ
encode_all at [] = []
encode_all at (OnA call ∷ calls) = encode at 0 call ++ encode_all (at + length (list_of call)) calls
encode_all at (OnB call ∷ calls) = encode at 1 call ++ encode_all (at + length (list_of call)) calls

-- the numbers that calls name
abbrev pub named : Call → List ℕ
named (Insert bit) = bit ∷ []
named (Remove bit) = bit ∷ []
named (Put bit) = bit ∷ []
named (Toggle bit) = bit ∷ []
named (Set bit enabled) = bit ∷ []
named (CopyBit from to) = from ∷ to ∷ []
named (InsertRange start end) = start ∷ end ∷ []
named (RemoveRange start end) = start ∷ end ∷ []
named (ToggleRange start end) = start ∷ end ∷ []
named (SetRange start end enabled) = start ∷ end ∷ []
named Clear = []
named (Grow n) = n ∷ []
named (GrowAndInsert bit) = bit ∷ []
named UnionWith = []
named IntersectWith = []
named DifferenceWith = []
named SymmetricDifferenceWith = []
named (InsertAll ps) = ps

abbrev pub named_all : List Called → List ℕ
named_all [] = []
named_all (OnA call ∷ calls) = named call ++ named_all calls
named_all (OnB call ∷ calls) = named call ++ named_all calls

-- each is a word
abbrev pub are_words : List ℕ → Bool
are_words [] = true
are_words (n ∷ ns) = ltb n (2 ^ 64) && are_words ns
