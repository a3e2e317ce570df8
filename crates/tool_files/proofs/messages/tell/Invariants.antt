-- The parts so far are said behind the start, as far as the line has room.
use Rattle.tool_files.proofs.TellLaws.{Line}
use Rattle.tool_files.proofs.messages.tell.Given as goal

abbrev pub invariant-loop-fragment : goal.invariant-loop-fragment
invariant-loop-fragment g l = Line l.fn.start l.message l.fragment-index l.text
