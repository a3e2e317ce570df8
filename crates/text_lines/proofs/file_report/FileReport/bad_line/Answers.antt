use mathlib.Core.Path.{refl}
use Rattle.text_lines.proofs.TallyLaws.{bad_said, bad_unsaid}
use Rattle.text_lines.proofs.file_report.FileReport.bad_line.Goals as goal

pub returns-then-bads-lt20 : goal.returns-then-bads-lt20
returns-then-bads-lt20 c = record {
  same = rw c.append_bad.ensures.buffer refl;
  holds = λ f h. rw (c.more-line.ensures, c.more-self.ensures)
      (bad_said h _ _ _ c.if-bads-lt20.true (rw (c.place.ensures.0, c.place.ensures.1, c.more-line.ensures) at c.append_bad.ensures));
}

pub returns-else-bads-lt20 : goal.returns-else-bads-lt20
returns-else-bads-lt20 c = record {
  same = refl;
  holds = λ f h. rw (c.more-line.ensures, c.more-self.ensures) (bad_unsaid h _ _ _ c.if-bads-lt20.false);
}
