use mathlib.Core.Path.{ap, ◌∙◌}
use lib.ListN.{length}
use Rattle.sets.specs.Members.{words_of}
use Rattle.sets.specs.Questions.{questions}
use Rattle.sets.specs.Rules.{SlicePart}
use Rattle.sets.proofs.QuestionLaws.{valid}
use Rattle.export_edits.proofs.SliceLaws.{slice_counts}
use Rattle.export_edits.proofs.view_calls.fbs_as_slice.Goals as goal

pub returns : goal.returns
returns c =
    let a = c.args in
    ap (λ (s : SlicePart). record { offset = 0; count = length s.words }) c.as_slice.ensures
    ∙ slice_counts (questions a.set a.words.now) (words_of a.set.length) a.words (λ z. (valid a.set a.words.now z).enough)
