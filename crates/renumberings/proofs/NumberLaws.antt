-- What a renumbering leaves where no question refuses. Assumes nothing.
use mathlib.Core.Path.{◌≡◌, refl, sym, ◌∙◌, ap}
use Prim.Native.Nat.{ℕ}
use mathlib.Core.List.{List}
use lib.ListN.{length}
use Rattle.sets.specs.Members.{Members, read, set_of, empty, write}
use Rattle.sets.specs.Outcomes.{outcome}
use Rattle.sets.specs.Questions.{questions, new_questions}
use Rattle.sets.specs.Rules.{with_capacity_rule}
use Rattle.sets.specs.declared.answers.Edited.{Edited}
use Rattle.sets.specs.declared.fixed_bit_set.FixedBitSet.{FixedBitSet}
use Rattle.sets.proofs.OutcomeLaws.{given_yes}
use Rattle.sets.proofs.QuestionLaws.{first-yes}
use Rattle.renumber_steps.specs.Passes.{moved}
use Rattle.renumber_steps.specs.Rules.{pairs_questions, renumber_rule}
use Rattle.renumber_steps.specs.declared.pair.Pair.{Pair}
use Rattle.renumber_steps.proofs.AskLaws.{renumbered_by}

-- there is room for the new set, which is made
pub made : {n : ℕ} (vs : List ℕ) → 0 ≡ new_questions n (length vs) → with_capacity_rule n vs ≡ record { number = 0; set = set_of (empty n); words = write vs (empty n) }
made vs e = sym (given_yes _ e refl)

pub accepted : (set : FixedBitSet) (ws : List ℕ) (n : ℕ) (vs : List ℕ) (ps : List Pair) (r : Edited) (zs zs' : List ℕ) {s : Members} → 0 ≡ questions set ws → s ≡ read ws set
    → 0 ≡ new_questions n (length vs) → 0 ≡ pairs_questions ps n s → outcome r zs ≡ with_capacity_rule n vs → zs' ≡ moved s zs ps → outcome r zs' ≡ renumber_rule set ws ps n vs
accepted set ws n vs ps r zs zs' valid same room asked fresh moves =
    let new = fresh ∙ made vs room in
    let last : zs' ≡ moved (read ws set) (write vs (empty n)) ps = moves ∙ (λ i. moved (same i) (new i).words ps) in
    (λ i. record { number = (new i).number; set = (new i).set; words = last i })
    ∙ renumbered_by set ws ps n vs (sym (first-yes (sym (first-yes (sym valid) room)) (asked ∙ ap (pairs_questions ps n) same)))
