use Rattle.masks.proofs.MaskLaws.{masks_empty}
use Rattle.masks.proofs.range_masks.Masks.none.Goals as goal

pub returns : goal.returns
returns c = λ start end h e. rw e (masks_empty start end h)
