-- Whether nothing is left to write.
use Rattle.std.specs.Prelude.{Bool, true, false}
use Rattle.pair_listings.specs.declared.jobs.Stage.{Stage}
use Rattle.pair_listings.specs.declared.jobs.Stage.TheVariants.{Lines, Last, Over}

abbrev pub is_over : Stage → Bool
is_over Over = true
is_over Lines = false
is_over Last = false
