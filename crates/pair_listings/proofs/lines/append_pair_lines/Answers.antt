use native.Mathlib.Omega.{arith}
use Rattle.pair_listings.specs.Lines.{pair_lines_text}
use Rattle.pair_listings.proofs.LineLaws.{lined_more}
use Rattle.pair_listings.proofs.lines.append_pair_lines.Goals as goal

pub loop-k-init : goal.loop-k-init
unfolding pair_lines_text
loop-k-init c = c.append.ensures

pub loop-k-preserved : goal.loop-k-preserved
loop-k-preserved c = lined_more _ _ _ _ _ c.loop-k.invariant (omega arith) c.partner.ensures c.append_pair.ensures
