-- The bytes so far are read.
use lib.ListN.{take}
use Rattle.text_lines.proofs.ReaderLaws.{Taken}
use Rattle.text_lines.proofs.readers.LineReader.take.Given as goal

abbrev pub invariant-loop-byte : goal.invariant-loop-byte
invariant-loop-byte g l =
    Taken g.Self.LineReader.kept g.Self.LineReader.step g.Self.LineReader.HoldsFile l.initial.self l.initial.line (take l.byte-index l.piece) l.self l.line
