-- What the helpers do, offset by offset and pair by pair.
use Rattle.std.specs.Prelude.{Bool, true, false, cond, ◌||◌, List, [], ◌∷◌, ℕ, ◌/◌, ◌%◌, ◌^◌, leb, get_or, replicate, set as set_at}
use Rattle.std.specs.Int.Bits.{bit_or}
use Rattle.std.specs.List.{filter}
use Rattle.sets.specs.Members.{Members, bit_of}
use Rattle.renumber_steps.specs.Pairs.{repeats}
use Rattle.renumber_steps.specs.declared.pair.Pair.{Pair}

-- those of a list from 65,536 up
unfoldable pub aboves : List ℕ → List ℕ
aboves ps = filter (leb 65536) ps

-- whether an offset was marked already, and the words after it
pub record Taken : Type 0 where
  pub found : Bool
  pub words : List ℕ

-- the words with the bit of an offset on, where they have it
unfoldable pub marked : List ℕ → ℕ → List ℕ
marked ws p = set_at ws (p / 64) (bit_or (get_or ws (p / 64) 0) (2 ^ (p % 64)))

-- the offsets of a list, marked one after the other, up to the first that is marked already
unfoldable pub marking_all : List ℕ → List ℕ → Taken
marking_all ws [] = record { found = false; words = ws }
marking_all ws (p ∷ ps) = cond (bit_of ws p) (record { found = true; words = marked ws p }) (marking_all (marked ws p) ps)

-- the new offset of each member marked
unfoldable pub moved : Members → List ℕ → List Pair → List ℕ
moved s ws [] = ws
moved s ws (p ∷ ps) = moved s (cond (s.has p.old) (marked ws p.new) ws) ps

-- 1,024 words with no mark
unfoldable pub no_marks : List ℕ
no_marks = replicate 1024 0

-- whether an offset stands twice in a list: below 65,536 by the marks, from there up by comparing
unfoldable pub shared : List ℕ → Taken
shared ps = record { found = (marking_all no_marks ps).found || repeats (aboves ps); words = (marking_all no_marks ps).words }

-- the first no of 10, 11, 4 and 12
unfoldable pub pairs_number : Bool → Bool → Bool → Bool → ℕ
pairs_number old new beyond paired = cond old 10 (cond new 11 (cond beyond 4 (cond paired 0 12)))
