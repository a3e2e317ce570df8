-- The third demand, of the calls that a run makes: each gets what the one before it stored. Assumes nothing.
use mathlib.Core.Path.{◌≡◌, refl, sym, ap, ap₂, ◌∙◌}
use mathlib.Core.List.{List, [], ◌∷◌, ◌++◌, map}
use Prim.Native.Nat.{ℕ, suc, ◌-◌, ◌<◌, ◌^◌}
use native.Mathlib.Omega.{arith}
use borrow.Author.Tests.{ne_eqb}
use lib.ListN.{length, drop, get_or, length-map}
use lib.Seq.{take_at, drop_at}
use Rattle.std.specs.Result.{IsErrAnd}
use Rattle.std.proofs.Common.{Result}
use Rattle.std.proofs.lemmas.Result.{err_from_is_err_and}
use Rattle.sets.specs.Members.{Members, empty, write, set_of}
use Rattle.sets.specs.Outcomes.{Outcome, given}
use Rattle.sets.specs.Refusals.{number}
use Rattle.sets.specs.declared.refusal.Refusal.{Refusal}
use Rattle.sets.proofs.RefusalLaws.{number_ne0}
use Rattle.sets.specs.Questions.{new_questions, both_questions}
use Rattle.sets.proofs.QuestionLaws.{first-both, first-yes, valid_yes}
use Rattle.sets.proofs.ReadLaws.{write_valid}
use Rattle.sets.proofs.WordLaws.{words_mono}
use Rattle.sets.proofs.WriteLaws.{read-write, write-write, length-write}
use Rattle.sets.specs.Rules.{with_capacity_rule}
use Rattle.std.specs.Prelude.{Option}
use Rattle.std.specs.Prelude.{Some, None}
use Rattle.calls.specs.Encoding.{decode_all}
use Rattle.calls.specs.History.{fresh_sets}
use Rattle.calls.specs.Rules.{ReplayOutcome, replay_rule, stored}
use Rattle.calls.proofs.SoundLaws.{Sound}
use Rattle.calls.proofs.HistoryLaws.{Keeps}
use Rattle.whole_walks.specs.Walks.{walk_list, answers}
use Rattle.whole_walks.specs.Walked.{Walked}
use Rattle.whole_walks.specs.Rules.{end_of, answer_word, answer_of, answers_question, WalkOutcome, walk_rule}
use Rattle.whole_walks.proofs.RecordLaws.{answers_below}
use Rattle.history.specs.Runs.{Input, Output, output_of, questions_of, ran_of, state_of}
use Rattle.history.specs.declared.ran.Run.{Run}
use Rattle.history.specs.ThirdDemand.{Accepted, ThirdDemand}
use Rattle.history.proofs.DemandLaws.{empty_sound, kept, history-walked}

-- a number of 0 gives what an accepted call leaves
yes : {A : Type 0} {n : ℕ} (refused : ℕ → A) (accepted : A) → n ≡ 0 → given n refused accepted ≡ accepted
unfolding given
yes refused accepted e = ap (λ (m : ℕ). given m refused accepted) e

-- a set that fits is made
pub fresh : (n : ℕ) (ws : List ℕ) {x : Outcome} → new_questions n (length ws) ≡ 0 → x ≡ with_capacity_rule n ws → x.number ≡ 0
fresh n ws z e = ap (λ (o : Outcome). o.number) (e ∙ yes _ _ z)

both_yes : (s o : Members) (ws vs : List ℕ) → Sound (length ws) s → Sound (length vs) o → both_questions (set_of s) (write ws s) (set_of o) (write vs o) ≡ 0
unfolding both_questions
both_yes s o ws vs h k =
    sym (first-yes (valid_yes _ _ (write_valid ws s h.clipped h.small h.enough)) (sym (valid_yes _ _ (write_valid vs o k.clipped k.small k.enough))))

-- an answer is read back from its word
read_back : (xs : List (Option ℕ)) → ((k p : ℕ) → get_or xs k None ≡ Some p → p < 65536) → map answer_of (map answer_word xs) ≡ xs
read_back [] h = refl
read_back (Some p ∷ xs) h =
    let b = h 0 p refl in
    ap₂ {C = List (Option ℕ)} (λ q qs. q ∷ qs) (rw (ne_eqb p (2 ^ 64 - 1) (λ e. omega arith)) refl) (read_back xs (λ k. h (suc k)))
read_back (None ∷ xs) h = ap {B = List (Option ℕ)} (λ qs. None ∷ qs) (read_back xs (λ k. h (suc k)))

module _ (i : Input) (go : questions_of i ≡ 0) where
  abbrev ws : List ℕ
  ws = i.words

  abbrev vs : List ℕ
  vs = i.other

  pub passed : (new_questions i.a_bits (length ws) ≡ 0) × (new_questions i.b_bits (length vs) ≡ 0) × (answers_question (length i.steps) (length i.out) ≡ 0)
  passed = let outer = first-both _ _ go in let inner = first-both _ _ outer.1 in (outer.0, inner.0, inner.1)

  k : Keeps (length ws) (length vs) (fresh_sets i.a_bits i.b_bits) (state_of i)
  k = kept i.a_bits (length ws) i.b_bits (length vs) (decode_all i.positions i.calls) passed.0 passed.1

  -- what is written is read back as the answers, in the words of the steps
  abbrev given-answers : List (Option ℕ)
  given-answers = answers i.walk (state_of i).a (state_of i).b (map end_of i.steps)

  demand : Walked i.walk (state_of i).a (state_of i).b (map end_of i.steps) given-answers (length (walk_list i.walk (state_of i).a (state_of i).b))
  demand = history-walked i.a_bits (length ws) i.b_bits (length vs) (decode_all i.positions i.calls) passed.0 passed.1 i.walk (map end_of i.steps)

  one_each : length (map answer_word given-answers) ≡ length i.steps
  one_each = length-map given-answers answer_word ∙ demand.answered ∙ length-map i.steps end_of

  -- the calls leave the history's state
  module _ {x y : Outcome} {z : ReplayOutcome} (e : x ≡ with_capacity_rule i.a_bits ws) (f : y ≡ with_capacity_rule i.b_bits vs) (g : z ≡ replay_rule x.set x.words y.set y.words i.calls i.positions) where
    replayed : z ≡ stored ws vs (state_of i)
    replayed =
        let a = empty i.a_bits in
        let b = empty i.b_bits in
        let sa = empty_sound i.a_bits (length ws) passed.0 in
        let sb = empty_sound i.b_bits (length vs) passed.1 in
        g
        ∙ rw (
          e,
          f,
          yes _ _ passed.0,
          yes _ _ passed.1,
          yes _ _ (both_yes a b ws vs sa sb),
          length-write ws a sa.enough,
          length-write vs b sb.enough,
          read-write ws a sa.clipped,
          read-write vs b sb.clipped,
          write-write ws a (state_of i).a (words_mono k.a.longer) k.a.sound.enough,
          write-write vs b (state_of i).b (words_mono k.b.longer) k.b.sound.enough,
        ) refl

    pub calls-made : z.number ≡ 0
    calls-made = ap (λ (v : ReplayOutcome). v.number) replayed

    -- the walk and its count over what is stored
    module _ {w : WalkOutcome} (h : w ≡ walk_rule z.a z.words z.b z.other i.walk i.steps i.out) where
      walked_over : w ≡ record { number = 0; count = length (walk_list i.walk (state_of i).a (state_of i).b); out = map answer_word given-answers ++ drop (length i.steps) i.out }
      walked_over =
          h
          ∙ rw (
            replayed,
            yes _ _ (sym (first-yes (both_yes (state_of i).a (state_of i).b ws vs k.a.sound k.b.sound) (sym passed.2))),
            read-write ws (state_of i).a k.a.sound.clipped,
            read-write vs (state_of i).b k.b.sound.clipped,
          ) refl

      pub walk_made : w.number ≡ 0
      walk_made = ap (λ (v : WalkOutcome). v.number) walked_over

      pub accepted : Accepted i (record { number = w.number; a = z.a; words = z.words; b = z.b; other = z.other; count = w.count; out = w.out })
      accepted =
          let taken = take_at (map answer_word given-answers) (drop (length i.steps) i.out) (length i.steps) one_each in
          let decoded = read_back given-answers (answers_below 65536 _ _ (map end_of i.steps) _ _ k.a.sound.small k.b.sound.small) in
          record {
            number = walk_made;
            first_set = (ap (λ (v : ReplayOutcome). v.a) replayed, ap (λ (v : ReplayOutcome). v.words) replayed);
            second_set = (ap (λ (v : ReplayOutcome). v.b) replayed, ap (λ (v : ReplayOutcome). v.other) replayed);
            walked = rw (walked_over, taken, decoded) demand;
            beyond = ap (λ (v : WalkOutcome). drop (length i.steps) v.out) walked_over ∙ drop_at (map answer_word given-answers) (drop (length i.steps) i.out) (length i.steps) one_each;
          }

-- a run that a question ends
pub run_refused : (i : Input) (r : Result Run Refusal) (e : Refusal) → IsErrAnd r (λ d. d ≡ e) → number e ≡ questions_of i
    → ThirdDemand i (output_of (ran_of r) i.words i.other i.out)
run_refused i r e passed numbered =
    let p = err_from_is_err_and r passed in
    record {
      refused = λ n.
          ap (λ (x : Result Run Refusal). output_of (ran_of x) i.words i.other i.out) p.1
          ∙ ap {B = Output} (λ (m : ℕ). record { number = m; a = set_of (empty 0); words = i.words; b = set_of (empty 0); other = i.other; count = 0; out = i.out })
          (ap number p.2 ∙ numbered);
      accepted = λ z. absurd (number_ne0 e (numbered ∙ z));
    }
