use mathlib.Core.Path.{refl, ap}
use native.Mathlib.Omega.{arith}
use lib.ListN.{length, replicate}
use Rattle.byte_texts.proofs.GrowthLaws.{appended_as}
use Rattle.listing_lines.specs.Listings.{listed}
use Rattle.next_many.specs.Calls.{accepted_pair}
use Rattle.listing_lines.specs.Offsets.{offsets_of}
use Rattle.listings.proofs.WalkLaws.{Given, given_64}
use Rattle.listings.proofs.fills.append_batch.Goals as goal
use Rattle.listings.proofs.fills.append_batch.Goals.{In_ok-many}

known : (c : In_ok-many)
    → let a = c.args in
    Given a.walk.walk (offsets_of a.walk.words.now) (offsets_of a.walk.other.now) a.records c.next_many.new.offsets (accepted_pair c.in_ok-many.many)
known c =
    let a = c.args in
    given_64 a.walk.walk (offsets_of a.walk.words.now) (offsets_of a.walk.other.now) a.records (replicate 64 0) refl (c.in_ok-many.ensures.0 refl)

pub returns-clause-right : goal.returns-clause-right
returns-clause-right c =
    let g = known (goal.at.returns-clause-right c).In_ok-many in
    let a = c.args in
    λ z. record {
      text = appended_as (c.append_lines.ensures (omega (arith, g.took.most, g.took.counted, ap length g.took.offsets, c.requires))) (ap (listed a.listing a.place) g.took.offsets);
      rest = g.rest;
      counted = g.took.counted;
    }

pub returns-clause-sure : goal.returns-clause-sure
returns-clause-sure c =
    let g = known (goal.at.returns-clause-sure c).In_ok-many in
    λ h. record { accepted = refl; asked = record { sets = h.sets; first = (g.again h.first h.second).0; second = (g.again h.first h.second).1 } }
