use Rattle.byte_texts.specs.Ascii.{ascii}
use Rattle.pair_lines.specs.Lines.{pair_text, pair_line_of}
use Rattle.pair_lines.proofs.lines.parse_pair.Goals as goal

pub returns : goal.returns
unfolding pair_line_of ascii
returns c = c.parse_by.ensures pair_text (λ these r h. let m = h.says.met in rw h.shows at m)
