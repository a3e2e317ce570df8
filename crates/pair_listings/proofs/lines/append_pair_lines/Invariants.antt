use lib.ListN.{take}
use Rattle.byte_texts.specs.Growth.{Appended}
use Rattle.pair_listings.specs.Tables.{entry_of}
use Rattle.pair_listings.specs.Lines.{pair_lines_text}
use Rattle.pair_listings.proofs.lines.append_pair_lines.Given as goal

abbrev pub invariant-loop-k : goal.invariant-loop-k
invariant-loop-k l = Appended l.fn.out l.out (pair_lines_text l.places.sheet l.places.total l.place (entry_of l.table) (take l.k l.offsets))
