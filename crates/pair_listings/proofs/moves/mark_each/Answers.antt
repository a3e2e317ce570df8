use mathlib.Core.Path.{◌≡◌, ap, ◌∙◌}
use native.Mathlib.Omega.{arith}
use Prim.Native.Nat.{ℕ}
use Rattle.sets.specs.Members.{write}
use Rattle.pair_listings.specs.Tables.{entry_of, named_below}
use Rattle.pair_listings.proofs.NamedLaws.{named_start}
use Rattle.pair_listings.proofs.moves.mark_each.Goals as goal

pub loop-p-init : goal.loop-p-init
loop-p-init c = λ vs room e. named_start _ vs e

pub returns : goal.returns
returns c = λ vs room e.
    let l = c.loop-p in
    let last : l.p ≡ 65536 = omega (arith, l.auto.p-end, c.loop-p-test.false) in
    l.invariant vs room e ∙ ap (λ (k : ℕ). write vs (named_below k (entry_of c.args.table.now))) last
