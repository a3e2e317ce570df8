-- The bytes of a text that is written out in a definition.
use Rattle.std.specs.Prelude.{List, ℕ}
use mathlib.Core.List as Lists
use Prim.Native.Char.{code}
use Prim.Native.String.{String, [], ◌∷◌}

-- one byte for each ASCII character
unfoldable pub ascii : String → List ℕ
ascii [] = Lists.[]
ascii (c ∷ text) = Lists.◌∷◌ (code c) (ascii text)
