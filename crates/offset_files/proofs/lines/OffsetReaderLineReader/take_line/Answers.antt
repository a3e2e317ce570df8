use mathlib.Core.Path.{subst}
use Rattle.offset_lines.specs.Lines.{line_of}
use Rattle.offset_lines.proofs.LineLaws.{line_cut}
use Rattle.text_lines.specs.Texts.{body_of}
use Rattle.text_lines.proofs.BodyLaws.{body_held}
use Rattle.offset_files.specs.Files.{File, take_line}
use Rattle.offset_files.specs.Holds.{HoldsFile}
use Rattle.offset_files.proofs.LineLaws.{entry_decided}
use Rattle.offset_files.proofs.lines.OffsetReaderLineReader.take_line.Goals as goal

pub returns : goal.returns
unfolding take_line
returns c = record {
  same = c.entry_line.ensures.same;
  holds = λ f full e h.
      let d = body_held line_of line_cut f.lines full h.counts.lines e c.body_of-body.ensures.bytes in
      subst (λ (g : File). HoldsFile g c.entry_line.new.self) (entry_decided _ _ (body_of f.lines full) f d) (c.entry_line.ensures.holds f h);
}
