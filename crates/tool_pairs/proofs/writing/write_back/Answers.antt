use mathlib.Core.Path.{sym}
use lib.ListN.{replicate}
use Rattle.pair_listings.specs.Tables.{entry_of}
use Rattle.pair_listings.proofs.NamedLaws.{made_read}
use Rattle.tool_pairs.proofs.writing.write_back.Goals as goal

pub returns : goal.returns
returns g c =
    rw (sym (made_read (entry_of c.args.from.now) (replicate 1024 0) _ c.named_set.ensures (rw (c.branch-map_err.ensures, c.in_ok-map_err.is) at (sym c.map_err.ensures.variant)))) c.write_pairs.ensures
