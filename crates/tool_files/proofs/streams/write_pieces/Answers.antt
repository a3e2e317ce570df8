use mathlib.Core.Path.{sym}
use Rattle.std.proofs.Common.{arith}
use Rattle.tool_files.proofs.PieceLaws.{at_first, one_more, at_last}
use Rattle.tool_files.proofs.streams.write_pieces.Goals as goal

pub loop-init : goal.loop-init
loop-init g c = λ rest l. at_first _ _

pub loop-preserved : goal.loop-preserved
loop-preserved g c = λ rest l.
    one_more _ _ _ _ l (c.loop.invariant rest l) c.next_piece.ensures c.in-Some.is (omega arith) c.in_ok-write_told.ensures

pub returns-then-is_over : goal.returns-then-is_over
returns-then-is_over g c = λ rest l.
    at_last _ _ _ l (one_more _ _ _ _ l (c.loop.invariant rest l) c.next_piece.ensures c.in-Some.is (omega arith) c.in_ok-write_told.ensures)
    (sym c.if-is_over.ensures)
