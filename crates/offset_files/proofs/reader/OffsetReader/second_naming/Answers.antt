use mathlib.Core.Path.{refl}
use native.Mathlib.Omega.{arith}
use Rattle.offset_files.proofs.EntryLaws.{first_is}
use Rattle.offset_files.proofs.HoldsLaws.{second_said, second_unsaid}
use Rattle.offset_files.proofs.reader.OffsetReader.second_naming.Goals as goal

pub returns-then-repeats-lt20-clause-held : goal.returns-then-repeats-lt20-clause-held
returns-then-repeats-lt20-clause-held c = λ f z h.
    let a = c.append_repeat.ensures in
    second_said h _ (omega arith) _ (rw c.more-self.ensures at a.tally) c.more-self-2.ensures refl refl c.if-repeats-lt20.true (first_is h _ (omega arith)) (rw c.more-self.ensures at a.text)

pub returns-else-repeats-lt20-clause-held : goal.returns-else-repeats-lt20-clause-held
returns-else-repeats-lt20-clause-held c = λ f z h.
    rw (c.more-self.ensures, c.more-self-2.ensures) (second_unsaid h _ (omega arith) _ refl refl refl refl c.if-repeats-lt20.false refl)
