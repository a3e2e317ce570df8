use Rattle.word_bits.proofs.NumberEnds.{leading_above}
use Rattle.word_bits.proofs.counts.leading_zeros.Goals as goal

pub returns : goal.returns
returns c = leading_above 64 c.args.word c.ranges.word.fits
