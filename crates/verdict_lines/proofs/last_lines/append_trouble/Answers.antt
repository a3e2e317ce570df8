use borrow.Author.Tests.{ne_eqb}
use Rattle.byte_texts.specs.Ascii.{ascii}
use Rattle.byte_texts.proofs.GrowthLaws.{appended_then}
use Rattle.listing_lines.specs.Lines.{trouble_text}
use Rattle.verdict_lines.proofs.last_lines.append_trouble.Goals as goal

pub returns-else-n-eq0 : goal.returns-else-n-eq0
unfolding ascii trouble_text
returns-else-n-eq0 c = rw (ne_eqb _ 0 c.if-n-eq0.false) (search appended_then)
