use mathlib.Core.Path.{ap}
use Rattle.byte_texts.proofs.GrowthLaws.{appended_as}
use Rattle.listing_lines.specs.Lines.{count_text}
use Rattle.pair_listings.specs.Lines.{pairs_complete_text}
use Rattle.pair_listings.specs.Pages.{last_text}
use Rattle.pair_listings.proofs.pages.Writing.append_last.Goals as goal

pub returns-then-self : goal.returns-then-self
unfolding last_text
returns-then-self c = rw c.if-self.true (appended_as c.append_count.ensures (ap count_text c.size-total.ensures))

pub returns-else-self : goal.returns-else-self
unfolding last_text
returns-else-self c = rw c.if-self.false (appended_as c.append_pairs_complete.ensures (ap pairs_complete_text c.size-total.ensures))
