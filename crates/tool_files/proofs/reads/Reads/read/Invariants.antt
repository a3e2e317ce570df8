-- A read that a signal broke off moves no byte.
use Rattle.std.proofs.Common.{◌≡◌, length}
use Rattle.std.specs.Io.KnownBytes.{Keeps}
use Rattle.tool_files.proofs.reads.Reads.read.Given as goal

abbrev pub invariant-again : goal.invariant-again
invariant-again g l =
    (l.self.left ≡ l.initial.self.left) × (length l.buffer ≡ length l.initial.buffer) × Keeps (g.F.Read.remaining l.initial.file) (g.F.Read.remaining l.file)

abbrev pub decreases-again : goal.decreases-again
decreases-again g l = l.self.signals
