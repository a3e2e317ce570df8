use Rattle.byte_texts.specs.Ascii.{ascii}
use Rattle.byte_texts.proofs.GrowthLaws.{appended_then}
use Rattle.listing_lines.specs.Lines.{different_text}
use Rattle.verdict_lines.proofs.last_lines.Verdict.append_different.Goals as goal

pub returns : goal.returns
unfolding ascii different_text
returns c = search appended_then depth 12
