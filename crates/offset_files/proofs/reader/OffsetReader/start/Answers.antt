use mathlib.Core.Path.{refl}
use Rattle.offset_files.proofs.StartLaws.{start_holds}
use Rattle.offset_files.proofs.reader.OffsetReader.start.Goals as goal

pub returns-clause-none : goal.returns-clause-none
returns-clause-none c = λ w t.
    let none = c.default-self.ensures in
    start_holds c.args.self.now (rw (none.0, none.1.0, none.1.1.0, none.1.1.1) refl) refl refl w t (c.fill.ensures.after (λ y h. h)) (c.fill-2.ensures.after (λ y h. h))
