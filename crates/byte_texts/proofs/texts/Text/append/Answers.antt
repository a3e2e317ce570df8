use mathlib.Core.Path.{refl, ap}
use Prim.Native.Nat.{ℕ, ◌+◌}
use Rattle.byte_texts.proofs.GrowthLaws.{appended_by}
use Rattle.byte_texts.proofs.WriteLaws.{written_fits}
use Rattle.byte_texts.proofs.texts.Text.append.Goals as goal

pub returns : goal.returns
returns c =
    appended_by
    (written_fits _ _ _ _ _ (record { from = c.min-start.ensures; until = ap (λ (k : ℕ). c.min-start.result + k) c.min.ensures }) c.copy_from_slice.ensures.after)
    refl
