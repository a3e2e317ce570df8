use mathlib.Core.Path.{◌≡◌, ap, ◌∙◌}
use Prim.Native.Nat.{◌-◌, ◌/◌, ◌%◌, ◌^◌}
use lib.ListN.{length, length-set}
use lib.Seq.{get_or-set_same, get_or-set_other}
use Rattle.word_bits.specs.LowMask.{low_mask}
use Rattle.word_bits.proofs.ShiftMasks.{shifted_down}
use Rattle.sets.specs.Members.{words_of}
use Rattle.fresh_sets.proofs.CopyLaws.{copied, length-copied, copied_in, copied_out, blocks_write}
use native.Mathlib.Omega.{arith}
use Rattle.fresh_sets.proofs.fresh.fill_from.Goals as goal
use Rattle.fresh_sets.proofs.fresh.fill_from.Goals.{After-slice_known-3-1}

-- what the two sweeps leave
known : (c : After-slice_known-3-1) → c.change_blocks.new.words
    ≡ copied c.args.bits c.args.blocks.now c.args.words.now
known c = rw (c.change_blocks.ensures, c.copy_blocks.ensures, c.min-copied.ensures)

pub bounds-words-whole : goal.bounds-words-whole
unfolding words_of
bounds-words-whole c =
    let a = c.args in
    rw (known (goal.at.bounds-words-whole c).After-slice_known-3-1, length-copied a.bits a.blocks.now a.words.now c.requires) (omega (arith, c.requires))

pub shape_of-words-then-rem-ne0 : goal.shape_of-words-then-rem-ne0
shape_of-words-then-rem-ne0 c =
    let a = c.args in
    length-set c.change_blocks.new.words (a.bits / 64) _ ∙ ap length (known (goal.at.shape_of-words-then-rem-ne0 c).After-slice_known-3-1) ∙ length-copied a.bits a.blocks.now a.words.now c.requires

pub returns-then-rem-ne0 : goal.returns-then-rem-ne0
unfolding words_of
returns-then-rem-ne0 c =
    let a = c.args in
    let n = a.bits in
    let bs = a.blocks.now in
    let ws = a.words.now in
    let room = c.requires in
    let low : (2 ^ 64 - 1) / 2 ^ (64 - n % 64) ≡ low_mask (n % 64) =
    shifted_down (64 - n % 64) (omega arith) ∙ ap low_mask (let e : 64 - (64 - n % 64) ≡ n % 64 = omega arith in e) in
    rw (known (goal.at.returns-then-rem-ne0 c).After-slice_known-3-1, c.block.ensures, low)
    (blocks_write n bs ws room _ (λ k. (c.shared_slice_known-1.given k).fits) (length-set (copied n bs ws) (n / 64) _ ∙ length-copied n bs ws room)
    (λ k h. get_or-set_other (copied n bs ws) (n / 64) k _ 0 (λ e. omega arith) ∙ copied_in n bs ws room k h)
    (λ z. get_or-set_same (copied n bs ws) (n / 64) _ 0 (rw (length-copied n bs ws room) (omega (arith, room))))
    (λ k h. get_or-set_other (copied n bs ws) (n / 64) k _ 0 (λ e. omega arith) ∙ copied_out n bs ws room k (omega arith)))

pub returns-else-rem-ne0 : goal.returns-else-rem-ne0
unfolding words_of
returns-else-rem-ne0 c =
    let a = c.args in
    let n = a.bits in
    let bs = a.blocks.now in
    let ws = a.words.now in
    let room = c.requires in
    rw (known (goal.at.returns-else-rem-ne0 c).After-slice_known-3-1)
    (blocks_write n bs ws room _ (λ k. (c.shared_slice_known-1.given k).fits) (length-copied n bs ws room) (copied_in n bs ws room)
    (λ z. absurd (z c.if-rem-ne0.false)) (λ k h. copied_out n bs ws room k (omega arith)))
