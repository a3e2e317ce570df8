-- What each line keeps, a text keeps. Assumes nothing.
use mathlib.Core.Bool.{Bool, true, false, cond}
use mathlib.Core.List.{List, [], ◌∷◌, ◌++◌}
use Prim.Native.Nat.{ℕ}
use lib.Dec.{eqb}
use lib.ListN.{length}
use Rattle.text_lines.specs.Texts.{Text, take_byte, take_bytes, at_end}

module _ {F : Type 0} (step : List ℕ → F → F) (P : F → Type 0) (keeps : (line : List ℕ) (f : F) → P f → P (step line f)) where
  byte_keeps : (t : Text F) (b : ℕ) → P t.file → P (take_byte step t b).file
  unfolding take_byte
  byte_keeps t b h = go (eqb b 10)
    where
      go : (s : Bool) → P (cond {A = Text F} s (record { file = step t.rest t.file; rest = [] }) (record { file = t.file; rest = t.rest ++ (b ∷ []) })).file
      go true = keeps t.rest t.file h
      go false = h

  bytes_keep : (bytes : List ℕ) (t : Text F) → P t.file → P (take_bytes step t bytes).file
  unfolding take_bytes
  bytes_keep [] t h = h
  bytes_keep (b ∷ bytes) t h = bytes_keep bytes (take_byte step t b) (byte_keeps t b h)

  end_keeps : (t : Text F) → P t.file → P (at_end step t)
  unfolding at_end
  end_keeps t h = go (eqb (length t.rest) 0)
    where
      go : (s : Bool) → P (cond s t.file (step t.rest t.file))
      go true = h
      go false = keeps t.rest t.file h

  pub text_keeps : (t : Text F) (bytes : List ℕ) → P t.file → P (at_end step (take_bytes step t bytes))
  text_keeps t bytes h = end_keeps (take_bytes step t bytes) (bytes_keep bytes t h)
