use Rattle.byte_texts.specs.Ascii.{ascii}
use Rattle.byte_texts.proofs.GrowthLaws.{appended_then}
use Rattle.pair_listings.specs.Lines.{unpaired_text}
use Rattle.pair_listings.proofs.lines.append_unpaired.Goals as goal

pub returns : goal.returns
unfolding ascii unpaired_text
returns c = search appended_then depth 12
