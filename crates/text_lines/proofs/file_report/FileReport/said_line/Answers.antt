use Rattle.text_lines.specs.Messages.{reason_text}
use Rattle.text_lines.proofs.TallyLaws.{said_right, said_wrong}
use Rattle.text_lines.proofs.file_report.FileReport.said_line.Goals as goal
use Rattle.text_lines.proofs.file_report.FileReport.said_line.Goals.{then-says-names, else-says-names}

pub returns : goal.returns
unfolding reason_text
returns c = elim c.if-says-names.branch [
  | then-says-names w ↦ record {
    same = rw w.self-is w.blank_line.ensures.counted.same;
    holds = λ f h. rw w.self-is (said_right h _ _ _ _ w.if-says-names.true (w.blank_line.ensures.counted.holds f h));
  }
  | else-says-names w ↦ record {
    same = rw w.self-is w.bad_line.ensures.same;
    holds = λ f h. rw w.self-is (said_wrong h _ _ _ _ w.if-says-names.false (w.bad_line.ensures.holds f h));
  }
]
