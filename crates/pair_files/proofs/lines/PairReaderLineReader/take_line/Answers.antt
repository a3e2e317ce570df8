use mathlib.Core.Path.{subst}
use Rattle.pair_lines.specs.Lines.{pair_line_of}
use Rattle.pair_lines.proofs.LineLaws.{line_cut}
use Rattle.text_lines.specs.Texts.{body_of}
use Rattle.text_lines.proofs.BodyLaws.{body_held}
use Rattle.pair_files.specs.Files.{PairFile, take_pair}
use Rattle.pair_files.specs.Holds.{HoldsPairs}
use Rattle.pair_files.proofs.LineLaws.{entry_decided}
use Rattle.pair_files.proofs.lines.PairReaderLineReader.take_line.Goals as goal

pub returns : goal.returns
unfolding take_pair
returns c = record {
  same = c.entry_line.ensures.same;
  holds = λ f full e h.
      let d = body_held pair_line_of line_cut f.lines full h.counts.lines e c.body_of-body.ensures.bytes in
      subst (λ (g : PairFile). HoldsPairs g c.entry_line.new.self) (entry_decided _ _ (body_of f.lines full) _ f d) (c.entry_line.ensures.holds f h);
}
