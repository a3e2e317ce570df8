use mathlib.Core.Path.{refl}
use Rattle.pair_files.proofs.HoldsLaws.{accepted_holds}
use Rattle.pair_files.proofs.reader.PairReader.accept_pair.Goals as goal

pub returns : goal.returns
returns c = λ old new. record { same = refl; holds = λ f h. rw c.more-self.ensures (accepted_holds h old new refl refl refl refl) }
