-- The old set stands again after both calls. Assumes nothing.
use mathlib.Core.Path.{◌≡◌, refl, sym, ap, ap₂, ◌∙◌}
use mathlib.Core.Bool.{Bool, true, false, beq, ◌&&◌}
use mathlib.Core.List.{List}
use Prim.Native.Nat.{ℕ, ◌≤◌}
use borrow.Author.Tests.{eq-eqb}
use lib.ListN.{length}
use Rattle.word_bits.proofs.Quantifiers.{all_yes}
use Rattle.sets.specs.Members.{Members, words_of, read, write}
use Rattle.sets.specs.Questions.{positions_question, both_questions}
use Rattle.sets.specs.Outcomes.{Outcome, given}
use Rattle.sets.specs.declared.fixed_bit_set.FixedBitSet.{FixedBitSet}
use Rattle.sets.specs.declared.answers.Told.{Told}
use Rattle.sets.proofs.OutcomeLaws.{given_yes, given_no}
use Rattle.sets.proofs.QuestionLaws.{Valid, valid_yes, first-yes}
use Rattle.sets.proofs.ReadLaws.{read_clipped, write_valid}
use Rattle.sets.proofs.WriteLaws.{read-write}
use Rattle.comparisons.specs.Orders.{equal}
use Rattle.comparisons.specs.Rules.{eq_rule}
use Rattle.renumber_steps.specs.Pairs.{olds}
use Rattle.renumber_steps.specs.Rules.{renumber_rule}
use Rattle.renumber_steps.specs.Promises.{way_back, came_back, AndBack}
use Rattle.renumber_steps.specs.declared.pair.Pair.{Pair}
use Rattle.renumber_steps.proofs.AcceptLaws.{accepted, accepted_by}
use Rattle.renumber_steps.proofs.PromiseLaws.{back_is}

-- a set is equal to itself
equal_same : (s : Members) → equal s s ≡ true
equal_same s = ap₂ ◌&&◌ (eq-eqb s.len s.len refl) (all_yes s.len (λ p. beq (s.has p) (s.has p)) (λ p l. same (s.has p)))
  where
    same : (b : Bool) → beq b b ≡ true
    same true = refl
    same false = refl

-- the old set, and the same set written into other words
rewritten : (set : FixedBitSet) (ws us : List ℕ) → Valid set ws → words_of set.length ≤ length us
    → eq_rule set ws set (write us (read ws set)) ≡ record { number = 0; yes = true }
unfolding both_questions read
rewritten set ws us v space =
    sym (given_yes (λ m. record { number = m; yes = false })
    (first-yes (valid_yes set ws v) (sym (valid_yes set (write us (read ws set)) (write_valid us (read ws set) (read_clipped ws set) v.small space))))
    (ap (λ (b : Bool). record { number = 0; yes = b })
    (sym (ap (equal (read ws set)) (read-write us (read ws set) (read_clipped ws set)) ∙ equal_same (read ws set)))))

module _ (set : FixedBitSet) (ws : List ℕ) (ps : List Pair) (n : ℕ) (vs us : List ℕ) where
  says_yes : (renumber_rule set ws ps n vs).number ≡ 0 → positions_question set (olds ps) ≡ 0 → words_of set.length ≤ length us
      → came_back set ws (way_back set ws ps n vs us) ≡ record { number = 0; yes = true }
  unfolding came_back
  says_yes e below space =
      let a = accepted set ws ps n (length vs) (accepted_by set ws ps n vs e).0 in
      ap (λ (o : Outcome). came_back set ws o) (back_is set ws ps n vs us e space below)
      ∙ sym (given_yes (λ m. record { number = m; yes = false }) refl refl) ∙ rewritten set ws us a.good space

  -- where the first call was refused
  pub and-back_no : {r : Told} {m : ℕ} → m ≡ (renumber_rule set ws ps n vs).number → (m ≡ 0 → ⊥)
      → r ≡ given m (λ k. record { number = k; yes = false }) (came_back set ws (way_back set ws ps n vs us))
      → AndBack set ws ps n vs us r (renumber_rule set ws ps n vs).words us
  and-back_no {r} {m} e h is = record {
    told = is ∙ ap (λ (m : ℕ). given m (λ k. record { number = k; yes = false }) (came_back set ws (way_back set ws ps n vs us))) e;
    out = refl;
    again = given_no (λ k. us) _ e h;
    yes = λ z below space. absurd (h (e ∙ z));
  }

  -- where it was accepted
  pub and-back-yes : {r : Told} → (renumber_rule set ws ps n vs).number ≡ 0 → r ≡ came_back set ws (way_back set ws ps n vs us)
      → AndBack set ws ps n vs us r (renumber_rule set ws ps n vs).words (way_back set ws ps n vs us).words
  and-back-yes {r} e is = record {
    told = is ∙ given_yes (λ k. record { number = k; yes = false }) (sym e) refl;
    out = refl;
    again = given_yes (λ k. us) (sym e) refl;
    yes = λ z below space. is ∙ says_yes e below space;
  }
