-- The part that is tried first, and the one after it. Assumes nothing.
use mathlib.Core.Path.{◌≡◌, refl}
use mathlib.Core.Bool.{Bool, true, false}
use Prim.Native.Nat.{ℕ}
use Rattle.parts.specs.Steps.{front, back}
use Rattle.parts.specs.declared.records.End.{End}
use Rattle.parts.specs.declared.records.End.TheVariants.{Front, Back}
use Rattle.parts.specs.declared.records.Step.{Step}
use Rattle.sets.specs.declared.answers.Part.{Part}
use Rattle.std.specs.Prelude.{Option}
use Rattle.std.specs.Prelude.{Some, None}
use Rattle.walks.specs.Helpers.{row_step, placed}
use Rattle.walks.specs.Rules.{or_else, pair_step}

-- a step of one of two parts, placed, is a step of two parts
module _ (f g : ℕ → Bool) (one two : Part) where
  pub placed_is : (end : End) → placed one two (row_step end f g one two) ≡ pair_step end f g one two
  placed_is Front = go (front f one).at (front f one).part (front g two)
    where
      go : (x : Option ℕ) (s : Part) (t : Step) → placed one two (or_else x (record { second = false; at = x; part = s }) (record { second = true; at = t.at; part = t.part }))
          ≡ or_else x (record { at = x; one = s; two = two }) (record { at = t.at; one = one; two = t.part })
      go (Some p) s t = refl
      go None s t = refl
  placed_is Back = go (back g two).at (back g two).part (back f one)
    where
      go : (x : Option ℕ) (s : Part) (t : Step) → placed one two (or_else x (record { second = true; at = x; part = s }) (record { second = false; at = t.at; part = t.part }))
          ≡ or_else x (record { at = x; one = one; two = s }) (record { at = t.at; one = t.part; two = two })
      go (Some p) s t = refl
      go None s t = refl
