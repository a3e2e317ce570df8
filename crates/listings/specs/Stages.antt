-- Whether nothing is left to write.
use Rattle.std.specs.Prelude.{Bool, true, false}
use Rattle.listings.specs.declared.jobs.Stage.{Stage}
use Rattle.listings.specs.declared.jobs.Stage.TheVariants.{First, Second, Last, Over}

abbrev pub is_over : Stage → Bool
is_over Over = true
is_over First = false
is_over Second = false
is_over Last = false
