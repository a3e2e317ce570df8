use mathlib.Core.Path.{refl}
use native.Mathlib.Omega.{arith}
use Rattle.offset_files.proofs.HoldsLaws.{new_holds}
use Rattle.offset_files.proofs.reader.OffsetReader.new_offset.Goals as goal

pub returns-clause-held : goal.returns-clause-held
returns-clause-held c = λ f z h.
    rw (c.more-line.ensures, c.more-self.ensures) (new_holds h _ (omega arith) (rw c.new.ensures at c.insert-accepted.ensures) refl refl refl refl refl)
