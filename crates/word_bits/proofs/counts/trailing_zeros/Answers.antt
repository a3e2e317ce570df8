use Rattle.word_bits.proofs.NumberEnds.{trailing_below}
use Rattle.word_bits.proofs.counts.trailing_zeros.Goals as goal

pub returns : goal.returns
returns c = trailing_below 64 c.args.word
