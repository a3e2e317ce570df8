-- A text byte by byte, cut into lines: F is what its lines so far say, and `step` what one line more makes of it.
use Rattle.std.specs.Prelude.{cond, List, [], ◌∷◌, ◌++◌, ℕ, ◌+◌, min, eqb, length, drop}
use Rattle.offset_lines.specs.Lines.{starts_with}

-- lines are counted up to 2 ^ 32 - 1
unfoldable pub more : ℕ → ℕ
more n = min 4294967295 (n + 1)

-- a byte order mark at the start of the first line is skipped
unfoldable pub body_of : ℕ → List ℕ → List ℕ
body_of lines line = cond (eqb lines 0) (cond (starts_with (239 ∷ 187 ∷ 191 ∷ []) line) (drop 3 line) line) line

-- a text that is read so far: its ended lines, and the bytes behind the last line feed
pub record Text (F : Type 0) : Type 0 where
  pub file : F
  pub rest : List ℕ

-- one byte more, and several
unfoldable pub take_byte : {F : Type 0} → (List ℕ → F → F) → Text F → ℕ → Text F
take_byte step t b = cond (eqb b 10) (record { file = step t.rest t.file; rest = [] }) (record { file = t.file; rest = t.rest ++ (b ∷ []) })

unfoldable pub take_bytes : {F : Type 0} → (List ℕ → F → F) → Text F → List ℕ → Text F
take_bytes step t [] = t
take_bytes step t (b ∷ bs) = take_bytes step (take_byte step t b) bs

-- at the end of the text, bytes behind the last line feed are a line
unfoldable pub at_end : {F : Type 0} → (List ℕ → F → F) → Text F → F
at_end step t = cond (eqb (length t.rest) 0) t.file (step t.rest t.file)
