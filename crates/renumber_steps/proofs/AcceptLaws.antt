-- A renumbering that no question refuses. Assumes nothing.
use mathlib.Core.Path.{◌≡◌, refl, sym, ap}
use mathlib.Core.Bool.{Bool, true, false, cond, not, ◌&&◌}
use mathlib.Core.List.{List}
use Prim.Native.Nat.{ℕ, ◌<◌}
use native.Mathlib.Omega.{arith}
use lib.ListN.{length}
use Rattle.word_bits.specs.Counts.{some}
use Rattle.word_bits.proofs.Quantifiers.{none_of, some_no}
use Rattle.sets.specs.Members.{read, write, empty, set_of}
use Rattle.sets.specs.Questions.{first, questions, new_questions, positions_question}
use Rattle.sets.specs.Outcomes.{Outcome}
use Rattle.sets.specs.declared.fixed_bit_set.FixedBitSet.{FixedBitSet}
use Rattle.sets.proofs.OutcomeLaws.{given-accepted}
use Rattle.sets.proofs.QuestionLaws.{Valid, valid, valid_yes, first-both, first-yes, room, Room, room_yes}
use Rattle.edits.specs.Edits.{is_in}
use Rattle.renumber_steps.specs.Pairs.{olds, news, repeats, renumbered}
use Rattle.renumber_steps.specs.Rules.{olds_question, news_question, members_question, pairs_questions, renumber_questions, renumber_rule}
use Rattle.renumber_steps.specs.declared.pair.Pair.{Pair}

-- what its questions tell
pub record Accepted (set : FixedBitSet) (ws : List ℕ) (ps : List Pair) (n size : ℕ) : Type 0 where
  pub good : Valid set ws
  pub enough : Room n size
  pub olds-once : repeats (olds ps) ≡ false
  pub news-once : repeats (news ps) ≡ false
  pub below : positions_question (set_of (empty n)) (news ps) ≡ 0
  pub paired : (x : ℕ) → x < set.length → ((read ws set).has x && not (is_in (olds ps) x)) ≡ false

no_of : (b : Bool) {k : ℕ} → (k ≡ 0 → ⊥) → cond b k 0 ≡ 0 → b ≡ false
no_of true h e = absurd (h e)
no_of false h e = refl

module _ (set : FixedBitSet) (ws : List ℕ) (ps : List Pair) (n size : ℕ) where
  abbrev rest_4 : ℕ
  rest_4 = first (positions_question (set_of (empty n)) (news ps)) (members_question ps (read ws set))

  pub accepted : renumber_questions set ws ps n size ≡ 0 → Accepted set ws ps n size
  unfolding olds_question news_question members_question read
  accepted e =
      let s = first-both (first (questions set ws) (new_questions n size)) (pairs_questions ps n (read ws set)) e in
      let q = first-both (questions set ws) (new_questions n size) s.0 in
      let a = first-both (olds_question ps) (first (news_question ps) rest_4) s.1 in
      let b = first-both (news_question ps) rest_4 a.1 in
      let c = first-both (positions_question (set_of (empty n)) (news ps)) (members_question ps (read ws set)) b.1 in
      record {
        good = valid set ws q.0;
        enough = room n size q.1;
        olds-once = no_of (repeats (olds ps)) (λ z. omega arith) a.0;
        news-once = no_of (repeats (news ps)) (λ z. omega arith) b.0;
        below = c.0;
        paired = none_of set.length (λ p. (read ws set).has p && not (is_in (olds ps) p)) (no_of (some set.length (λ p. (read ws set).has p && not (is_in (olds ps) p))) (λ z. omega arith) c.1);
      }

  pub accepts : Accepted set ws ps n size → renumber_questions set ws ps n size ≡ 0
  unfolding olds_question news_question members_question read
  accepts a =
      sym (first-yes (sym (first-yes (valid_yes set ws a.good) (sym (room_yes n size a.enough))))
      (first-yes (ap (λ (b : Bool). cond b 10 0) a.olds-once) (first-yes (ap (λ (b : Bool). cond b 11 0) a.news-once)
      (first-yes a.below (sym (ap (λ (b : Bool). cond b 12 0) (some_no set.length (λ p. (read ws set).has p && not (is_in (olds ps) p)) a.paired)))))))

-- an accepted call gives the new set
pub accepted_by : (set : FixedBitSet) (ws : List ℕ) (ps : List Pair) (n : ℕ) (vs : List ℕ) → (renumber_rule set ws ps n vs).number ≡ 0
    → (renumber_questions set ws ps n (length vs) ≡ 0)
    × (◌≡◌ {A = Outcome} (renumber_rule set ws ps n vs) (record { number = 0; set = set_of (renumbered ps n (read ws set)); words = write vs (renumbered ps n (read ws set)) }))
accepted_by set ws ps n vs e =
    given-accepted (λ (o : Outcome). o.number) (λ m. record { number = m; set = set_of (empty 0); words = vs }) _ (renumber_questions set ws ps n (length vs)) (λ m. refl) refl e
