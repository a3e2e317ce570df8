use Rattle.std.proofs.Common.{◌≡◌, ℕ, List, false, refl, sym, ap, subst, ◌∙◌}
use Rattle.sets.specs.Members.{set_of, empty}
use Rattle.sets.specs.Refusals.{number}
use Rattle.sets.proofs.OutcomeLaws.{given_yes}
use Rattle.sets.proofs.RefusalLaws.{number_ne0, answer_refused}
use Rattle.sets.specs.Outcomes.{Outcome, outcome, given}
use Rattle.sets.specs.declared.fixed_bit_set.FixedBitSet.{FixedBitSet}
use Rattle.sets.specs.declared.answers.Edited.{Edited}
use Rattle.sets.specs.declared.answers.Told.{Told}
use Rattle.renumber_steps.specs.Pairs.{swapped}
use Rattle.renumber_steps.specs.Rules.{renumber_rule}
use Rattle.renumber_steps.specs.Promises.{came_back, way_back, AndBack}
use Rattle.renumber_steps.specs.declared.pair.Pair.{Pair}
use Rattle.renumber_steps.proofs.BackLaws.{and-back_no, and-back-yes}
use Rattle.renumberings.proofs.restores.renumber_and_back.Goals as goal

-- what the calls say, as the contract
module _ (set : FixedBitSet) (ws : List ℕ) (ps : List Pair) (n : ℕ) (vs us : List ℕ) (moved : Edited) (zs : List ℕ) (r : Told) (e : outcome moved zs ≡ renumber_rule set ws ps n vs) where
  said_no : (moved.number ≡ 0 → ⊥) → r ≡ given moved.number (λ m. record { number = m; yes = false }) (came_back set ws (way_back set ws ps n vs us)) → AndBack set ws ps n vs us r zs us
  said_no h is = subst (λ (ys : List ℕ). AndBack set ws ps n vs us r ys us) (sym (ap (λ (o : Outcome). o.words) e)) (and-back_no set ws ps n vs us (ap (λ (o : Outcome). o.number) e) h is)

  said_yes : (back : Edited) (ys : List ℕ) → moved.number ≡ 0 → outcome back ys ≡ renumber_rule moved.set zs (swapped ps) set.length us → r ≡ came_back set ws (outcome back ys) → AndBack set ws ps n vs us r zs ys
  said_yes back ys z e₂ is =
      let way : outcome back ys ≡ way_back set ws ps n vs us = e₂ ∙ ap (λ (o : Outcome). renumber_rule o.set o.words (swapped ps) set.length us) e in
      subst (λ (os : List ℕ). AndBack set ws ps n vs us r os ys) (sym (ap (λ (o : Outcome). o.words) e))
      (subst (λ (os : List ℕ). AndBack set ws ps n vs us r (renumber_rule set ws ps n vs).words os) (sym (ap (λ (o : Outcome). o.words) way))
      (and-back-yes set ws ps n vs us (sym (ap (λ (o : Outcome). o.number) e) ∙ z) (is ∙ ap (came_back set ws) way)))

pub returns-in_err-moved : goal.returns-in_err-moved
returns-in_err-moved c =
    let a = c.args in
    said_no a.set a.words.now a.pairs.now a.bits a.out.now a.again.now (record { number = number c.in_err-moved.field-0.0; set = set_of (empty 0) }) _ _ c.in_err-moved.ensures
    (number_ne0 c.in_err-moved.field-0.0) (answer_refused _ _ _ _ _ c.from_residual.ensures.1 refl)

pub returns-in_err-back : goal.returns-in_err-back
unfolding came_back
returns-in_err-back c =
    let a = c.args in
    said_yes a.set a.words.now a.pairs.now a.bits a.out.now a.again.now (record { number = 0; set = c.in_ok-moved.moved }) _ _ c.in_ok-moved.ensures
    (record { number = number c.in_err-back.field-0.0; set = set_of (empty 0) }) _ refl c.in_err-back.ensures (answer_refused _ _ _ _ _ c.from_residual-in_err-back.ensures.1 refl)

pub returns : goal.returns
unfolding came_back
returns c =
    let a = c.args in
    said_yes a.set a.words.now a.pairs.now a.bits a.out.now a.again.now (record { number = 0; set = c.in_ok-moved.moved }) _ _ c.in_ok-moved.ensures
    (record { number = 0; set = c.in_ok-back.back }) _ refl c.in_ok-back.ensures (given_yes (λ m. record { number = m; yes = false }) refl c.eq.ensures)
