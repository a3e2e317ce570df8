use mathlib.Core.Path.{◌≡◌, ap, ◌∙◌}
use native.Mathlib.Omega.{arith}
use Prim.Native.Nat.{ℕ}
use Rattle.sets.specs.Members.{read, write}
use Rattle.listing_lines.specs.Offsets.{offsets_of}
use Rattle.pair_listings.specs.Tables.{entry_of, moved_below}
use Rattle.pair_listings.proofs.MoveLaws.{moved_start}
use Rattle.pair_listings.proofs.moves.move_each.Goals as goal

pub loop-p-init : goal.loop-p-init
loop-p-init c = λ vs room e. moved_start _ _ vs e

pub returns : goal.returns
unfolding read
returns c = λ vs room e.
    let l = c.loop-p in
    let last : l.p ≡ 65536 = omega (arith, l.auto.p-end, c.loop-p-test.false) in
    let a = c.args in
    l.invariant vs room e ∙ ap (λ (k : ℕ). write vs (moved_below k (entry_of a.to.now) (offsets_of a.words.now))) last
