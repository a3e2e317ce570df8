use mathlib.Core.Path.{sym}
use Rattle.std.proofs.Common.{rules}
use Rattle.listing_lines.specs.Offsets.{offsets_of}
use Rattle.pair_listings.specs.Tables.{entry_of}
use Rattle.pair_listings.specs.Pages.{rest_text}
use Rattle.pair_listings.proofs.PageLaws.{first_is, nothing_left}
use Rattle.tool_pairs.proofs.writing.write_pairs.Goals as goal

pub returns : goal.returns
returns g c =
    let rest = rest_text c.args.job (entry_of c.args.table.now) (offsets_of c.args.words.now) in
    rw (sym (first_is c.args.job (entry_of c.args.table.now) c.args.words.now), sym c.first_page.ensures)
    (c.write_pieces.ensures rest (record {
      piece = λ page lent back w p. search rules;
      last = nothing_left c.args.job (entry_of c.args.table.now) c.args.words.now;
    }))
