use mathlib.Core.Path.{◌≡◌}
use lib.ListN.{length}
use Rattle.listing_lines.specs.Offsets.{offsets_of}
use Rattle.listings.specs.Pages.{walk_left}
use Rattle.listings.proofs.FillLaws.{Filling}
use Rattle.listings.proofs.fills.fill_walk.Given as goal

abbrev pub invariant-loop-text : goal.invariant-loop-text
invariant-loop-text l =
    Filling l.walk.walk l.listing l.walk.words.now l.walk.other.now l.fn.records l.place l.size l.text l.left l.next × (l.text.out.ghost_name ≡ l.initial.text.out.ghost_name)

abbrev pub decreases-loop-text : goal.decreases-loop-text
decreases-loop-text l = length (walk_left l.walk.walk (offsets_of l.walk.words.now) (offsets_of l.walk.other.now) l.left)
