use Rattle.byte_texts.specs.Ascii.{ascii}
use Rattle.byte_texts.proofs.GrowthLaws.{appended_then}
use Rattle.listing_lines.specs.Lines.{complete_text}
use Rattle.verdict_lines.proofs.last_lines.append_complete.Goals as goal

pub returns : goal.returns
unfolding ascii complete_text
returns c = search appended_then
