-- What a reader of lines does with a text that comes in pieces.
use Rattle.std.specs.Prelude.{◌≡◌, List, ℕ, take}
use Rattle.text_lines.specs.Texts.{Text}
use Rattle.text_lines.specs.Rests.{HoldsRest}
use Rattle.text_lines.specs.declared.open_line.OpenLine.{OpenLine}

-- what `kept` has of a reader stays, and `step` is made of each file that it holds: H says how it holds one
pub record Makes {S K F : Type 0} (kept : S → K) (H : F → S → Type 0) (step : F → F) (r after : S) : Type 0 where
  pub same : kept after ≡ kept r
  pub holds : (f : F) → H f r → H (step f) after

-- the same with an ended line, of which 2,052 bytes are there
pub record Keeps {S K F : Type 0} (kept : S → K) (step : K → List ℕ → F → F) (H : F → S → Type 0) (r : S) (line : List ℕ) (after : S) : Type 0 where
  pub same : kept after ≡ kept r
  pub holds : (f : F) (full : List ℕ) → line ≡ take 2052 full → H f r → H (step (kept r) full f) after

-- it holds a text that is read so far: its lines, and the bytes of the line that is not ended
pub record HoldsText {S F : Type 0} (H : F → S → Type 0) (t : Text F) (r : S) (line : OpenLine) : Type 0 where
  pub file : H t.file r
  pub rest : HoldsRest t.rest line
