use mathlib.Core.Path.{ap, ◌∙◌}
use Prim.Native.Nat.{ℕ}
use native.Mathlib.Omega.{arith}
use Rattle.masks.specs.RangeMasks.{range_mask}
use Rattle.masks.proofs.MaskLaws.{masks_some}
use Rattle.masks.proofs.ShiftLaws.{first_mask, last_mask, only_mask}
use Rattle.masks.proofs.range_masks.Masks.by_shifts.Goals as goal

pub returns-then-first-last : goal.returns-then-first-last
returns-then-first-last c =
    let s = c.args.start in
    let e = c.args.end in
    let only = only_mask s e c.if-end-start.false c.if-first-last.true in
    masks_some s e c.if-end-start.false only (only ∙ ap (λ (k : ℕ). range_mask s e k) c.if-first-last.true)

pub returns : goal.returns
returns c = masks_some _ _ c.if-end-start.false (first_mask _ _ (omega arith)) (last_mask _ _ (omega arith))
