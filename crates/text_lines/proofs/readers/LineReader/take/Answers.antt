use Rattle.text_lines.proofs.ReaderLaws.{taken_none, taken_line, taken_byte}
use Rattle.text_lines.proofs.readers.LineReader.take.Goals as goal
use Rattle.text_lines.proofs.readers.LineReader.take.Goals.{then-byte-eq10, else-byte-eq10}

pub loop-byte-init : goal.loop-byte-init
loop-byte-init g c = taken_none

pub loop-byte-preserved : goal.loop-byte-preserved
loop-byte-preserved g c =
    let i = c.loop-byte.invariant in
    let piece = c.args.piece.now in
    elim c.if-byte-eq10.branch [
      | then-byte-eq10 w ↦ rw (w.self-is, w.line-is) (taken_line piece i c.loop-byte-test.true w.if-byte-eq10.true w.held.ensures.held w.take_line.ensures w.clear.ensures.holds)
      | else-byte-eq10 w ↦ rw (w.self-is, w.line-is) (taken_byte piece i c.loop-byte-test.true w.if-byte-eq10.false w.push.ensures.holds)
    ]
