use Rattle.byte_texts.specs.Ascii.{ascii}
use Rattle.byte_texts.proofs.GrowthLaws.{appended_then}
use Rattle.listing_lines.specs.Lines.{verdict_text}
use Rattle.verdict_lines.proofs.last_lines.Verdict.append.Goals as goal

pub returns : goal.returns
unfolding ascii verdict_text
returns c = search appended_then
