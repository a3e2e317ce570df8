use mathlib.Core.Path.{◌≡◌, ap₂, ◌∙◌}
use mathlib.Core.List.{List}
use Prim.Native.Nat.{ℕ, ◌+◌}
use native.Mathlib.Omega.{arith}
use lib.ListN.{length}
use Rattle.two_set_counts.specs.Lists.{difference_list}
use Rattle.listing_lines.specs.Offsets.{offsets_of}
use Rattle.listings.specs.Pages.{total_of}
use Rattle.listing_pieces.proofs.SetLaws.{difference_small}
use Rattle.listing_pieces.proofs.writing.Writing.total.Goals as goal
use Rattle.listing_pieces.proofs.writing.Writing.total.Goals.{After-walk_size-then-self}

swapped : (c : After-walk_size-then-self)
    → let p = c.args.self.pair in
    c.walk_size-then-self.result ≡ length (difference_list (offsets_of p.other.now) (offsets_of p.words.now))
swapped c =
    c.walk_size-then-self.ensures ∙ ap₂ (λ (ws vs : List ℕ). length (difference_list (offsets_of ws) (offsets_of vs))) c.swapped.ensures.0 c.swapped.ensures.1

pub overflow_add-result : goal.overflow_add-result
overflow_add-result c =
    let p = c.args.self.pair in
    omega (arith, c.walk_size.ensures, swapped (goal.at.overflow_add-result c).After-walk_size-then-self, difference_small p.words.now p.other.now, difference_small p.other.now p.words.now)

pub returns-then-self : goal.returns-then-self
unfolding total_of
returns-then-self c = rw c.if-self.true (ap₂ ◌+◌ c.walk_size.ensures (swapped (goal.at.returns-then-self c).After-walk_size-then-self))

pub returns : goal.returns
unfolding total_of
returns c = rw c.if-self.false c.walk_size-2.ensures
