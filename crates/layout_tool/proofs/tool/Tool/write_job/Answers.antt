use mathlib.Core.Path.{sym, ◌∙◌}
use Rattle.std.proofs.Common.{rules}
use Rattle.listing_lines.specs.Offsets.{offsets_of}
use Rattle.listings.specs.Pages.{rest_text}
use Rattle.listing_pieces.proofs.PageLaws.{first_is, nothing_left}
use Rattle.layout_tool.proofs.tool.Tool.write_job.Goals as goal

pub returns-clause-written : goal.returns-clause-written
returns-clause-written g c =
    let a = c.args in
    let name = c.bytes-name.result.now in
    let other = c.bytes-other_name.result.now in
    let ws = a.file.words.now in
    let vs = a.other.words.now in
    rw (c.if-self.false, sym (c.bytes-name.ensures ∙ c.new-shown.ensures), sym (c.bytes-other_name.ensures ∙ c.new-other_shown.ensures), sym (first_is a.job name other ws vs), sym c.first_page.ensures)
    (c.write_pieces.ensures (rest_text a.job name other (offsets_of ws) (offsets_of vs)) (record {
      piece = λ page lent back w p. search rules;
      last = nothing_left a.job name other ws vs;
    }))
