use mathlib.Core.Path.{sym, ap, ap₂, ◌∙◌}
use Prim.Native.Nat.{ℕ, ◌-◌, ◌^◌}
use native.Mathlib.Omega.{arith}
use lib.Bits.{bit_and}
use Rattle.word_bits.specs.LowMask.{low_mask}
use Rattle.masks.proofs.MaskLaws.{mask_after, mask_is}
use Rattle.masks.proofs.range_masks.range_mask.Goals as goal

pub returns-then-word : goal.returns-then-word
returns-then-word c = sym (mask_after c.args.start c.args.end c.args.word (omega arith))

pub returns : goal.returns
returns c =
    ap₂ (λ (e s : ℕ). bit_and e ((2 ^ 64 - 1) - s))
    (c.low_mask.ensures ∙ ap low_mask c.saturating_sub.ensures)
    (c.low_mask-2.ensures ∙ ap low_mask c.saturating_sub-2.ensures)
    ∙ mask_is _ _ _
