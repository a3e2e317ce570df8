use mathlib.Core.Path.{refl}
use native.Mathlib.Omega.{arith}
use Rattle.tool_files.proofs.LoadLaws.{read_none, read_more, read_end}
use Rattle.tool_files.proofs.reads.read_text.Goals as goal

pub loop-count-init : goal.loop-count-init
loop-count-init g c = read_none c.new-line.ensures

pub loop-count-preserved : goal.loop-count-preserved
loop-count-preserved g c =
    read_more _ c.loop-count.invariant (rw c.in-Some.is at c.in_ok-count.ensures.given) c.take.ensures.same c.take.ensures.holds

pub returns-clause-whole : goal.returns-clause-whole
returns-clause-whole g c =
    let end = rw c.in_default.is at c.in_ok-count.ensures.end in
    read_end (g.F.Read.remaining c.read.new.file) c.finish.new.self c.loop-count.invariant (end refl (omega arith)) c.finish.ensures.holds
