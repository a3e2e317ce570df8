use Rattle.std.proofs.Common.{◌≡◌, ℕ, List, false, length, refl, sym, ap, ◌∙◌, arith}
use Rattle.sets.specs.Members.{words_of, set_of, empty}
use Rattle.sets.specs.Checks.{Sound}
use Rattle.sets.specs.Questions.{both_questions}
use Rattle.sets.specs.declared.answers.Told.{Told}
use Rattle.sets.specs.declared.checked.Checked.{Checked}
use Rattle.sets.proofs.OutcomeLaws.{given_yes}
use Rattle.sets.proofs.QuestionLaws.{valid_yes, first-yes}
use Rattle.comparisons.proofs.RelationLaws.{subset_is}
use Rattle.renumberings.proofs.answers.members_marked.Goals as goal

-- 1,024 words are those of a set of 65,536 bits, which has no bit past its length
whole : (ws : List ℕ) → length ws ≡ 1024 → Sound 65536 ws
unfolding words_of
whole ws long = record {
  asked = valid_yes _ ws (record { small = omega arith; enough = omega (arith, long); clean = λ p a b. absurd (omega arith) });
  own = long;
}

pub returns : goal.returns
unfolding both_questions
returns c =
    let a = c.args in
    let marks : Checked = record { length = 65536; words = a.marks; sound = whole a.marks.now (omega arith) } in
    c.subset_by_words.ensures ∙ subset_is a.set marks
    ∙ ap (λ (t : Told). t.yes) (given_yes (λ m. record { number = m; yes = false }) (first-yes a.set.sound.asked (sym marks.sound.asked)) refl)
