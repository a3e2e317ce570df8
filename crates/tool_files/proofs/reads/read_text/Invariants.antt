-- The reader holds a text so far; fewer bytes are left after each read.
use Rattle.tool_files.proofs.LoadLaws.{Loading}
use Rattle.tool_files.proofs.reads.read_text.Given as goal

abbrev pub invariant-loop-count : goal.invariant-loop-count
invariant-loop-count g l =
    Loading g.R.LineReader.kept g.R.LineReader.step g.R.LineReader.HoldsFile l.initial.reader (g.F.Read.remaining l.initial.file) l.reader l.line (g.F.Read.remaining l.file)

abbrev pub decreases-loop-count : goal.decreases-loop-count
decreases-loop-count g l = l.reads.left
