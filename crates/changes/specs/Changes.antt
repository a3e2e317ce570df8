-- What a change does to a bit and to a word.
use Rattle.std.specs.Prelude.{Bool, true, false, not, cond, ℕ}
use Rattle.word_bits.specs.Digits.{digit, number}
use Rattle.changes.specs.declared.change.Change.{Change}
use Rattle.changes.specs.declared.change.Change.TheVariants.{Insert, Remove, Toggle}

-- a bit after the change
abbrev pub effect : Change → Bool → Bool
effect Insert was = true
effect Remove was = false
effect Toggle was = not was

-- a word after the change of the bits that a mask names
unfoldable pub changed_word : Change → ℕ → ℕ → ℕ
changed_word change mask word = number 64 (λ j. cond (digit mask j) (effect change (digit word j)) (digit word j))
