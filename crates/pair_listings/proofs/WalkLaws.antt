-- The next 128 members of a walk. Assumes nothing.
use mathlib.Core.Path.{◌≡◌, refl, sym, ap, subst, ◌∙◌}
use mathlib.Core.List.{List}
use Prim.Native.Nat.{ℕ}
use lib.ListN.{length, drop}
use Rattle.std.specs.Prelude.{Result, Ok, Err, None, IfSome}
use Rattle.std.specs.Result.{result_ok}
use Rattle.sets.specs.Members.{Members, read}
use Rattle.sets.specs.Questions.{questions, part_question, part_questions, both_questions}
use Rattle.sets.specs.declared.refusal.Refusal.{Refusal}
use Rattle.sets.specs.declared.answers.Part.{Part}
use Rattle.sets.proofs.OutcomeLaws.{given-accepted, given-number}
use Rattle.sets.proofs.QuestionLaws.{first-yes}
use Rattle.sets.proofs.RefusalLaws.{number_ne0}
use Rattle.two_set_counts.specs.Lists.{ones_list}
use Rattle.walks.specs.Rules.{first_part}
use Rattle.whole_walks.proofs.PartLists.{left_first}
use Rattle.next_many.specs.Calls.{next_many_of}
use Rattle.next_many.specs.Many.{Many, front_steps}
use Rattle.next_many.specs.declared.answers.Many.{Many as ManyAnswer}
use Rattle.next_many.specs.Rules.{ManyOutcome, many_outcome, written, ones_next_many_rule}
use Rattle.next_many.specs.declared.answers.NextMany.{NextMany}
use Rattle.next_many.proofs.LeftLaws.{steps_take, steps_drop, steps_asked}
use Rattle.listing_lines.specs.Offsets.{all_offsets, offsets_of}
use Rattle.listing_lines.proofs.TakeLaws.{Took, took}
use Rattle.pair_listings.specs.Pages.{members_left}

module _ (ws : List ℕ) where
  abbrev s : Members
  s = offsets_of ws

  -- ---- all members

  pub all_left : members_left s (first_part all_offsets) ≡ ones_list s
  unfolding read
  all_left = left_first s s.has

  -- its words twice are the two sets of a walk
  pub asked_twice : questions all_offsets ws ≡ 0 → both_questions all_offsets ws all_offsets ws ≡ 0
  unfolding both_questions
  asked_twice ok = sym (first-yes ok (sym ok))

  -- ---- the next ones

  module _ (part : Part) where
    pub record Given (after : List ℕ) (r : NextMany) : Type 0 where
      pub took : Took 128 (members_left s part) r.count after
      pub rest : members_left s r.part ≡ drop 128 (members_left s part)
      pub again : part_question all_offsets part ≡ 0 → part_question all_offsets r.part ≡ 0

    abbrev refusal : List ℕ → ℕ → ManyOutcome
    refusal out n = record { number = n; count = 0; part = part; out = out }

    -- an accepted call with a buffer of 128 words
    pub given_128 : (out : List ℕ) {after : List ℕ} {r : NextMany} → length out ≡ 128 → many_outcome r after ≡ ones_next_many_rule all_offsets ws part out → r.number ≡ 0 → Given after r
    given_128 out {after} {r} n d z = record {
      took = took 128 (members_left s part) m.positions out n (steps_take s.has (length out) part) (ap (λ (x : ManyOutcome). x.count) e) (ap (λ (x : ManyOutcome). x.out) e);
      rest = ap (λ (x : ManyOutcome). members_left s x.part) e ∙ steps_drop s.has (length out) part ∙ ap (λ (k : ℕ). drop k (members_left s part)) n;
      again = λ p. ap (λ (x : ManyOutcome). part_question all_offsets x.part) e ∙ steps_asked all_offsets s.has (length out) part p;
    }
      where
        m : Many
        m = front_steps (length out) s.has part

        e : many_outcome r after ≡ written out m
        e = (given-accepted (λ (x : ManyOutcome). x.number) (refusal out) (written out m) (part_questions all_offsets ws part) (λ k. refl) d z).1

    -- it is accepted where its questions pass
    pub accepted : (out : List ℕ) {x : ManyOutcome} → x ≡ ones_next_many_rule all_offsets ws part out → questions all_offsets ws ≡ 0 → part_question all_offsets part ≡ 0 → x.number ≡ 0
    accepted out e ok p =
        given-number (λ (x : ManyOutcome). x.number) (refusal out) (written out (front_steps (length out) s.has part)) (part_questions all_offsets ws part) (λ k. refl) refl e
        ∙ sym (first-yes ok (sym p))

-- a call whose value is not taken by `.ok()?` was refused
pub untaken : (part : Part) (r : Result ManyAnswer Refusal) → None ≡ result_ok r → (next_many_of part r).number ≡ 0 → ⊥
untaken part (Ok m) e z = subst (λ o. IfSome o (λ _. ⊥)) e tt
untaken part (Err d) e z = number_ne0 d z
