use mathlib.Core.Path.{◌∙◌}
use Rattle.pair_listings.proofs.UnpairedLaws.{counted}
use Rattle.pair_listings.proofs.unpaired.count_unpaired.Goals as goal

pub returns : goal.returns
returns c = c.count_all.ensures ∙ counted _ _
