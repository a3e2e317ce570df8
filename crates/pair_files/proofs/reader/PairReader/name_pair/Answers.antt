use mathlib.Core.Path.{refl}
use native.Mathlib.Omega.{arith}
use Rattle.text_lines.specs.Texts.{more}
use Rattle.pair_files.proofs.HoldsLaws.{named_holds}
use Rattle.pair_files.proofs.reader.PairReader.name_pair.Goals as goal

pub overflow_mul-line : goal.overflow_mul-line
unfolding more
overflow_mul-line c = omega (arith, c.more-lines.ensures)

pub overflow_add-line : goal.overflow_add-line
unfolding more
overflow_add-line c = omega (arith, c.more-lines.ensures)

pub overflow_add-line-2 : goal.overflow_add-line-2
unfolding more
overflow_add-line-2 c = omega (arith, c.more-lines.ensures)

pub returns : goal.returns
returns c = record {
  same = refl;
  holds = λ f h. rw c.more-lines.ensures
      (named_holds h _ _ (omega arith) (omega arith) refl refl (rw c.more-lines.ensures at c.name_offset.ensures) (rw c.more-lines.ensures at c.name_offset-2.ensures));
}
