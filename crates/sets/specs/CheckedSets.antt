-- The set that checked words are.
use Rattle.sets.specs.Members.{Members, read}
use Rattle.sets.specs.declared.checked.Checked.{Checked}

abbrev pub members : Checked → Members
members c = read c.words.now (record { length = c.length })
