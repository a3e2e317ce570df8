-- The end of a walk that a yes or no names.
use Rattle.std.specs.Prelude.{Bool, cond}
use Rattle.parts.specs.declared.records.End.{End}
use Rattle.parts.specs.declared.records.End.TheVariants.{Front, Back}

abbrev pub end_at : Bool → End
end_at back = cond back Back Front
