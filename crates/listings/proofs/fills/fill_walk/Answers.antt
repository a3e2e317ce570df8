use borrow.Author.Rules.{rules}
use mathlib.Core.Path.{◌∙◌}
use Prim.Native.Nat.{◌+◌}
use native.Mathlib.Omega.{arith}
use lib.ListN.{length}
use Rattle.next_many.specs.Calls.{accepted_pair}
use Rattle.listings.specs.Fills.{records_of, BatchRight}
use Rattle.listing_lines.specs.Offsets.{offsets_of}
use Rattle.listings.proofs.FillLaws.{taken_right, taken_sure, Filling, filling_more, filling_over, unfilled, sure_room, batch_most, batch_last, batch_less}
use Rattle.listings.proofs.fills.fill_walk.Goals as goal
use Rattle.listings.proofs.fills.fill_walk.Goals.{In_ok-many, Else-size-text}

-- the batch of a turn
known : (c : In_ok-many)
    → let a = c.args in
    BatchRight a.walk.walk a.listing (offsets_of a.walk.words.now) (offsets_of a.walk.other.now) c.loop-text.left c.loop-text.next c.loop-text.text
    c.append_batch.new.text (accepted_pair c.in_ok-many.many)
known c = taken_right _ _ _ _ _ c.in_ok-many.ensures.value c.append_batch.ensures.right

more : (c : Else-size-text)
    → let a = c.args in
    Filling a.walk.walk a.listing a.walk.words.now a.walk.other.now a.records a.place (length a.out.now)
    c.append_batch.new.text (records_of (accepted_pair c.in_ok-many.many)) (c.loop-text.next + c.in_ok-many.many.count)
more c =
    filling_more _ _ _ _ _ _ _ c.loop-text.invariant.0 (taken_right _ _ _ _ _ c.in_ok-many.ensures.value c.append_batch.ensures.right)
    (taken_sure c.args.walk.walk c.args.listing _ _ _ c.in_ok-many.ensures.value c.append_batch.ensures.sure) c.if-size-text.false

pub returns-then-size-text : goal.returns-then-size-text
returns-then-size-text c =
    unfilled _ _ _ _ _ _ 0
    (λ s. omega (arith, c.if-size-text.true, sure_room _ _ _ _ _ _ _ c.loop-text.invariant.0 (known (goal.at.returns-then-size-text c).In_ok-many) c.loop-text-test.true s))

pub overflow_add-next : goal.overflow_add-next
overflow_add-next c = omega (arith, batch_most _ _ _ _ (known (goal.at.overflow_add-next c).In_ok-many), c.if-next-gt4294967296.false)

pub returns-then-many-lt64 : goal.returns-then-many-lt64
returns-then-many-lt64 c =
    filling_over _ _ _ _ _ _ _ (more (goal.at.returns-then-many-lt64 c).Else-size-text) (search rules)
    (batch_last _ _ _ _ (known (goal.at.returns-then-many-lt64 c).In_ok-many) c.if-many-lt64.true)

pub loop-text-smaller : goal.loop-text-smaller
loop-text-smaller c = batch_less _ _ _ _ (known (goal.at.loop-text-smaller c).In_ok-many) c.if-many-lt64.false

pub loop-text-preserved : goal.loop-text-preserved
loop-text-preserved c = (more (goal.at.loop-text-preserved c).Else-size-text, c.append_batch.ensures.buffer ∙ c.loop-text.invariant.1)
