use native.Mathlib.Omega.{arith}
use Rattle.listing_lines.specs.Lines.{lines_text}
use Rattle.listing_lines.proofs.LineLaws.{listed_more}
use Rattle.listing_lines.proofs.lines.Listing.append_lines.Goals as goal

pub loop-k-init : goal.loop-k-init
unfolding lines_text
loop-k-init c = c.append.ensures

pub loop-k-preserved : goal.loop-k-preserved
loop-k-preserved c = listed_more _ _ _ c.loop-k.invariant (omega arith) c.append_line.ensures
