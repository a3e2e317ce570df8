use mathlib.Core.Path.{◌≡◌, sym}
use Prim.Native.Nat.{ℕ, ◌+◌, ◌-◌, ◌/◌}
use lib.ListN.{get_or}
use Rattle.masks.specs.Ranges.{end_block}
use Rattle.tests.proofs.PartLaws.{meets}
use Rattle.tests.proofs.ScanLaws.{first_other, scan_whole, scan_before, scan_stop}
use Rattle.tests.proofs.TestLaws.{other-empty, other-one, other_at, other_between, other_last}
use native.Mathlib.Omega.{arith}
use Rattle.tests.proofs.ranges.some_other.Goals as goal
use Rattle.tests.proofs.ranges.some_other.Goals.{After-first_other}

-- the search over the words between the first and the last ends in the slice
between : (c : After-first_other)
    → c.first_other.result
    ≡ first_other (λ i. get_or c.args.words.now i 0)
    (c.args.start / 64 + 1)
    (end_block c.args.start c.args.end - 1)
    c.args.skip
between c =
    let met = c.by_shifts-masks.ensures in
    let m = meets _ _ (rw met at c.if-masks-first.false) in
    let a = c.args in
    scan_whole (λ i. get_or a.words.now i 0) (a.start / 64 + 1) (end_block a.start a.end - 1) a.skip (omega (arith, m.tight)) (rw met at c.first_other.ensures)

pub returns-then-masks-first : goal.returns-then-masks-first
returns-then-masks-first c = sym (other-empty _ _ _ _ (rw c.by_shifts-masks.ensures at c.if-masks-first.true))

pub bounds-words-first : goal.bounds-words-first
bounds-words-first c =
    let met = c.by_shifts-masks.ensures in
    let m = meets _ _ (rw met at c.if-masks-first.false) in
    rw met (omega (arith, m.some))

pub returns-then-words-first-ne0 : goal.returns-then-words-first-ne0
returns-then-words-first-ne0 c =
    let a = c.args in
    sym (other_at a.start a.end a.skip a.words.now c.ranges.skip.fits (a.start / 64) (c.shared_slice_known-2-1.given (a.start / 64)).fits
    (rw c.by_shifts-masks.ensures at c.if-words-first-ne0.true))

pub returns-then-last-first : goal.returns-then-last-first
returns-then-last-first c =
    let met = c.by_shifts-masks.ensures in
    sym (other-one _ _ _ _ (rw met at c.if-last-first.true) (rw met at c.if-words-first-ne0.false))

pub returns-then-first_other-last : goal.returns-then-first_other-last
returns-then-first_other-last c =
    let met = c.by_shifts-masks.ensures in
    let a = c.args in
    let w : ℕ → ℕ = λ i. get_or a.words.now i 0 in
    let l = rw met at c.if-last-first.false in
    let h = rw met at c.if-first_other-last.true in
    let e = between (goal.at.returns-then-first_other-last c).After-first_other in
    let r = c.first_other.result in
    sym (other_between a.start a.end a.skip a.words.now c.ranges.skip.fits r (omega arith) (omega arith)
    (c.shared_slice_known-2-1.given r).fits (scan_stop w (a.start / 64 + 1) (end_block a.start a.end - 1) a.skip r e h))

pub offset_bounds-words-last : goal.offset_bounds-words-last
offset_bounds-words-last c =
    let met = c.by_shifts-masks.ensures in
    let m = meets _ _ (rw met at c.if-masks-first.false) in
    rw met (omega (arith, m.tight))

pub bounds-words-last : goal.bounds-words-last
bounds-words-last c =
    let met = c.by_shifts-masks.ensures in
    let m = meets _ _ (rw met at c.if-masks-first.false) in
    rw met (omega (arith, m.tight))

pub returns : goal.returns
returns c =
    let met = c.by_shifts-masks.ensures in
    let a = c.args in
    let last = end_block a.start a.end - 1 in
    let w : ℕ → ℕ = λ i. get_or a.words.now i 0 in
    let l = rw met at c.if-last-first.false in
    let h = rw met at c.if-first_other-last.false in
    let e = between (goal.at.returns c).After-first_other in
    rw met
    (other_last a.start a.end a.skip a.words.now c.ranges.skip.fits last (omega arith) (c.shared_slice_known-3-1.given last).fits
    (rw met at c.if-words-first-ne0.false)
    (λ k x y. scan_before w (a.start / 64 + 1) last a.skip c.first_other.result e k x (omega arith)))
