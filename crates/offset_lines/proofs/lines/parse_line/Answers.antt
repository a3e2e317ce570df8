use Rattle.byte_texts.specs.Ascii.{ascii}
use Rattle.offset_lines.specs.Lines.{offset_text, line_of}
use Rattle.offset_lines.proofs.lines.parse_line.Goals as goal

pub returns : goal.returns
unfolding line_of ascii
returns c = c.parse_by.ensures offset_text (λ these r h. let m = h.says.met in rw h.shows at m)
