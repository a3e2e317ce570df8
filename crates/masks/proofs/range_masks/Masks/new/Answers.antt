use Rattle.masks.proofs.MaskLaws.{masks_some}
use Rattle.masks.proofs.range_masks.Masks.new.Goals as goal

pub returns : goal.returns
returns c = masks_some _ _ c.if-end-start.false c.range_mask.ensures c.range_mask-2.ensures
