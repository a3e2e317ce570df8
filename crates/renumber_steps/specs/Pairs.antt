-- A list of pairs of an old offset and a new one, and what it makes of a set.
use Rattle.std.specs.Prelude.{Bool, true, false, cond, ◌&&◌, ◌||◌, List, [], ◌∷◌, ℕ, eqb}
use Rattle.sets.specs.Members.{Members}
use Rattle.edits.specs.Edits.{is_in}
use Rattle.renumber_steps.specs.declared.pair.Pair.{Pair}

-- the old offsets, and the new ones
unfoldable pub olds : List Pair → List ℕ
olds [] = []
olds (p ∷ ps) = p.old ∷ olds ps

unfoldable pub news : List Pair → List ℕ
news [] = []
news (p ∷ ps) = p.new ∷ news ps

-- whether an offset stands twice in a list
unfoldable pub repeats : List ℕ → Bool
repeats [] = false
repeats (p ∷ ps) = is_in ps p || repeats ps

-- whether q is the new offset of a member
unfoldable pub arrives : List Pair → Members → ℕ → Bool
arrives [] s q = false
arrives (p ∷ ps) s q = (s.has p.old && eqb p.new q) || arrives ps s q

-- the new set of n bits has exactly the new offset of each member
unfoldable pub renumbered : List Pair → ℕ → Members → Members
renumbered pairs n s = record { len = n; has = arrives pairs s }

-- every pair swapped: for the way back
unfoldable pub sided_pair : Bool → Pair → Pair
sided_pair back p = cond back (record { old = p.new; new = p.old }) p

unfoldable pub sided : Bool → List Pair → List Pair
sided back [] = []
sided back (p ∷ ps) = sided_pair back p ∷ sided back ps

abbrev pub swapped : List Pair → List Pair
swapped pairs = sided true pairs
