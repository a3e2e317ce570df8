-- Steps of a part: a rising list over one set, between low and high.
use Rattle.std.specs.Prelude.{Bool, cond, ℕ, suc, ◌+◌, ◌-◌, ltb}
use Rattle.word_bits.specs.Counts.{zeros_below, zeros_above}
use Rattle.sets.specs.Outcomes.{place}
use Rattle.parts.specs.declared.records.End.{End}
use Rattle.parts.specs.declared.records.End.TheVariants.{Front, Back}
use Rattle.sets.specs.declared.answers.Part.{Part}
use Rattle.parts.specs.declared.records.Step.{Step}

-- the positions from low up, and from high down, that stand before the next one of the part
abbrev pub ahead : (ℕ → Bool) → Part → ℕ
ahead has part = zeros_below (part.high - part.low) (λ j. has (part.low + j))

abbrev pub behind : (ℕ → Bool) → Part → ℕ
behind has part = zeros_above (part.high - part.low) (λ j. has (part.low + j))

-- the position p and the record after it, or none, which changes no record
abbrev pub taken : Bool → ℕ → Part → Part → Step
taken there p after part = record { at = place there p; part = cond there after part }

-- a front step gives the smallest position of the part with low <= p < high and makes low p + 1
unfoldable pub front : (ℕ → Bool) → Part → Step
front has part = taken (ltb (ahead has part) (part.high - part.low)) (part.low + ahead has part)
    (record { low = part.low + ahead has part + 1; high = part.high }) part

-- a back step the largest, and makes high p
unfoldable pub back : (ℕ → Bool) → Part → Step
back has part = taken (ltb (behind has part) (part.high - part.low)) (part.high - suc (behind has part))
    (record { low = part.low; high = part.high - suc (behind has part) }) part

abbrev pub step : End → (ℕ → Bool) → Part → Step
step Front has part = front has part
step Back has part = back has part
