-- What is said in a report piece by piece. Assumes nothing.
use mathlib.Core.Path.{ap, ap₂, ◌∙◌}
use mathlib.Core.List.{List, ◌++◌}
use Prim.Native.Nat.{ℕ}
use Rattle.byte_texts.proofs.GrowthLaws.{appended_then, appended_as}
use Rattle.text_lines.specs.Reports.{Says}
use Rattle.text_lines.specs.declared.file_report.FileReport.{FileReport}
use Rattle.text_lines.specs.declared.tally.Tally.{Tally}

-- two pieces in a row are their join; the second goes by the name and by the line
pub says_then : {a b c : FileReport} (x : List ℕ) (text : List ℕ → ℕ → List ℕ) → Says a b x → Says b c (text b.name.now b.tally.lines) → Says a c (x ++ text a.name.now a.tally.lines)
says_then x text h g = record {
  name = g.name ∙ h.name;
  tally = g.tally ∙ h.tally;
  text = appended_as (appended_then h.text g.text) (ap (λ (y : List ℕ). x ++ y) (ap₂ text h.name (ap (λ (t : Tally). t.lines) h.tally)));
}
