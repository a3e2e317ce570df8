use native.Mathlib.Omega.{arith}
use Rattle.text_lines.proofs.ReaderLaws.{ended_none, ended_some}
use Rattle.text_lines.proofs.readers.LineReader.finish.Goals as goal

pub returns-then-line-gt0-clause-holds : goal.returns-then-line-gt0-clause-holds
returns-then-line-gt0-clause-holds g c = ended_some c.if-line-gt0.true c.held.ensures.held c.take_line.ensures

pub returns-else-line-gt0-clause-holds : goal.returns-else-line-gt0-clause-holds
returns-else-line-gt0-clause-holds g c = ended_none _ (omega (arith, c.if-line-gt0.false))
