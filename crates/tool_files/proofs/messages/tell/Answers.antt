use Rattle.std.proofs.Common.{refl, ap, length, arith}
use Rattle.std.proofs.lemmas.Result.{on_ok_weaker}
use Rattle.tool_files.proofs.TellLaws.{said_none, said_more, told}
use Rattle.tool_files.proofs.messages.tell.Goals as goal
use Rattle.tool_files.proofs.messages.tell.Goals.{in-Text, in-Name, in-Number, in-Reason}

pub loop-fragment-init : goal.loop-fragment-init
loop-fragment-init g c = said_none (ap length c.new-text.ensures.same_bytes) c.new-text.ensures.empty c.append.ensures

pub loop-fragment-preserved : goal.loop-fragment-preserved
loop-fragment-preserved g c = elim c.match-fragment.branch [
  | in-Text w ↦ said_more _ _ c.loop-fragment.invariant c.loop-fragment-test.true w.in-Text.is refl w.append-in-Text.ensures w.text-is
  | in-Name w ↦ said_more _ _ c.loop-fragment.invariant c.loop-fragment-test.true w.in-Name.is refl w.append_name.ensures w.text-is
  | in-Number w ↦ said_more _ _ c.loop-fragment.invariant c.loop-fragment-test.true w.in-Number.is refl w.append_decimal.ensures w.text-is
  | in-Reason w ↦ said_more _ _ c.loop-fragment.invariant c.loop-fragment-test.true w.in-Reason.is tt w.append-in-Reason.ensures w.text-is
]

pub returns : goal.returns
returns g c = on_ok_weaker c.write_report.result (told _ _ (omega arith) c.loop-fragment.invariant c.append-2.ensures c.written.ensures) c.write_report.ensures
