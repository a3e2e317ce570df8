-- The table is the one that `low_mask` gives, entry by entry.
use Rattle.std.proofs.Common.{sym, arith}
use Rattle.word_bits.specs.Digits.{number}
use Rattle.word_bits.specs.LowMask.{low_mask}
use Rattle.word_bits.proofs.LowMasks.{low_mask_full}
use Rattle.word_bits.proofs.Tabulate.{entry}
use Rattle.word_bits.proofs.low_masks.low_mask.Goals as goal

pub returns-then-r-le64 : goal.returns-then-r-le64
unfolding low_mask number
returns-then-r-le64 c = entry low_mask 65 c.args.r (omega arith)

pub returns-else-r-le64 : goal.returns-else-r-le64
unfolding low_mask number
returns-else-r-le64 c = sym (low_mask_full c.args.r (omega arith))
