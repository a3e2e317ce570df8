use Rattle.word_bits.proofs.Ones.{ones_count}
use Rattle.word_bits.proofs.counts.count_ones.Goals as goal

pub returns : goal.returns
returns c = ones_count 64 c.args.word c.ranges.word.fits
