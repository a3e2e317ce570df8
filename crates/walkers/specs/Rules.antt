-- A walker of `ones`: the set's words beside the set and the record of the part that is left.
use Rattle.std.specs.Prelude.{List, ℕ}
use Rattle.std.specs.Borrow.{Bor}
use Rattle.sets.specs.declared.fixed_bit_set.FixedBitSet.{FixedBitSet}
use Rattle.parts.specs.declared.records.End.{End}
use Rattle.parts.specs.declared.records.End.TheVariants.{Front, Back}
use Rattle.sets.specs.declared.answers.Part.{Part}
use Rattle.walks.specs.Rules.{Stepped, ones_next_rule, ones_next_back_rule}
use Rattle.walkers.specs.declared.walker.Ones.{Ones}

-- over the lent words, at first 0 and L
abbrev pub first_walker : FixedBitSet → Bor (List ℕ) → Ones
first_walker set ws = record { words = ws; set = set; part = record { low = 0; high = set.length } }

-- the same set, at another record
abbrev pub moved_walker : Ones → Part → Ones
moved_walker w part = record { words = w.words; set = w.set; part = part }

-- the step of `ones` at that end
abbrev pub walker_rule : FixedBitSet → List ℕ → Part → End → Stepped
walker_rule set ws part Front = ones_next_rule set ws part
walker_rule set ws part Back = ones_next_back_rule set ws part
