-- A list of calls, one after the other. Assumes nothing.
use mathlib.Core.Path.{◌≡◌, refl, sym, ap, ◌∙◌}
use mathlib.Core.Bool.{Bool, true, false, not, cond}
use mathlib.Core.List.{List, [], ◌∷◌, ◌++◌}
use mathlib.Core.Option.{Option, none, some}
use Prim.Native.Nat.{ℕ, ◌<◌, ◌^◌}
use native.Mathlib.Omega.{arith}
use borrow.Author.Tests.{ne_eqb}
use lib.Dec.{eqb}
use lib.ListN.{length, get_or}
use Rattle.std.specs.Result.{result_unwrap_or}
use Rattle.std.proofs.Common.{Result, Ok, Err}
use Rattle.sets.specs.Members.{Members, read, write, set_of}
use Rattle.sets.specs.Outcomes.{Outcome, outcome}
use Rattle.sets.specs.Refusals.{edited_of}
use Rattle.sets.specs.declared.refusal.Refusal.{Refusal}
use Rattle.sets.specs.declared.fixed_bit_set.FixedBitSet.{FixedBitSet}
use Rattle.sets.proofs.QuestionLaws.{Valid, valid_yes, first-yes}
use Rattle.sets.proofs.ReadLaws.{write_read, write_valid}
use Rattle.sets.proofs.WordLaws.{words_mono}
use Rattle.sets.proofs.WriteLaws.{read-write, write-write, length-write}
use Rattle.sets.specs.Questions.{both_questions}
use Rattle.calls.specs.Calls.{Call}
use Rattle.calls.specs.History.{State, Called, OnA, OnB, history}
use Rattle.calls.specs.Encoding.{called, decode, decode_all}
use Rattle.calls.specs.Rules.{ReplayOutcome, decoded_rule, stored}
use Rattle.calls.proofs.SoundLaws.{Sound, Kept, same_kept, sound_read, leaves_kept}
use Rattle.calls.proofs.CallLaws.{call_holds}
use Rattle.calls.proofs.EncodingLaws.{decode_five}

-- ---- states

pub record Keeps (m n : ℕ) (s t : State) : Type 0 where
  pub a : Kept m s.a t.a
  pub b : Kept n s.b t.b

through : {size : ℕ} {s t u : Members} → Kept size s t → Kept size t u → Kept size s u
through k l = let h = k.longer in record { sound = l.sound; longer = omega (arith, l.longer) }

pub history_kept : (m n : ℕ) (calls : List Called) (s : State) → Sound m s.a → Sound n s.b → Keeps m n s (history m n calls s)
unfolding history
history_kept m n [] s h k = record { a = same_kept m s.a h; b = same_kept n s.b k }
history_kept m n (OnA call ∷ calls) s h k =
    let l = leaves_kept call m s.a s.b h k.clipped k.small in
    let rest = history_kept m n calls _ l.sound k in
    record { a = through l rest.a; b = rest.b }
history_kept m n (OnB call ∷ calls) s h k =
    let l = leaves_kept call n s.b s.a k h.clipped h.small in
    let rest = history_kept m n calls _ h l.sound in
    record { a = rest.a; b = through l rest.b }

pub history-append : (m n : ℕ) (cs ds : List Called) (s : State) → history m n (cs ++ ds) s ≡ history m n ds (history m n cs s)
unfolding history
history-append m n [] ds s = refl
history-append m n (c ∷ cs) ds s = history-append m n cs ds _

-- ---- the words of a state

set_read : (set : FixedBitSet) (ws : List ℕ) → set ≡ set_of (read ws set)
unfolding read
set_read set ws = refl

-- a refused call leaves the set
kept_set : (a : FixedBitSet) (r : Result FixedBitSet Refusal) → result_unwrap_or r a ≡ (edited_of a r).set
kept_set a (Ok after) = refl
kept_set a (Err e) = refl

module _ (a : FixedBitSet) (ws : List ℕ) (b : FixedBitSet) (vs : List ℕ) (va : Valid a ws) (vb : Valid b vs) where
  abbrev pub held : State
  held = record { a = read ws a; b = read vs b }

  module _ (fa : (k : ℕ) → get_or ws k 0 < 2 ^ 64) (fb : (k : ℕ) → get_or vs k 0 < 2 ^ 64) where
    pub no_call : ◌≡◌ {A = ReplayOutcome} (record { number = 0; a = a; words = ws; b = b; other = vs })
        (stored ws vs (history (length ws) (length vs) [] held))
    unfolding history
    no_call = rw (write_read a ws va fa, write_read b vs vb fb, ← set_read a ws, ← set_read b vs) refl

    pub on_a : (call : Option Call) {x : Outcome} → x ≡ decoded_rule a ws b vs call
        → ◌≡◌ {A = ReplayOutcome} (record { number = 0; a = x.set; words = x.words; b = b; other = vs })
        (stored ws vs (history (length ws) (length vs) (called OnA call) held))
    unfolding history
    on_a none e = rw e no_call
    on_a (some call) e =
        let h = call_holds call a ws b vs va vb fa in
        rw (e, h.set, h.words, write_read b vs vb fb, ← set_read b vs) refl

    pub on_b : (call : Option Call) {x : Outcome} → x ≡ decoded_rule b vs a ws call
        → ◌≡◌ {A = ReplayOutcome} (record { number = 0; a = a; words = ws; b = x.set; other = x.words })
        (stored ws vs (history (length ws) (length vs) (called OnB call) held))
    unfolding history
    on_b none e = rw e no_call
    on_b (some call) e =
        let h = call_holds call b vs a ws vb va fb in
        rw (e, h.set, h.words, write_read a ws va fa, ← set_read a ws) refl

    -- five numbers: what they call on A, on B, or on neither
    module _ (positions ns : List ℕ) (long : length ns ≡ 5) where
      abbrev on : ℕ
      on = get_or ns 0 0

      abbrev call_of : Option Call
      call_of = decode positions (get_or ns 1 0) (get_or ns 2 0) (get_or ns 3 0) (not (eqb (get_or ns 4 0) 0))

      abbrev ended : ReplayOutcome
      ended = stored ws vs (history (length ws) (length vs) (decode_all positions ns) held)

      abbrev one_call : ℕ → Option Call → List Called
      one_call k c = cond (eqb k 0) (called OnA c) (cond (eqb k 1) (called OnB c) [])

      ended_by : {cs : List Called} → cs ≡ one_call on call_of → {x : ReplayOutcome} → x ≡ stored ws vs (history (length ws) (length vs) cs held) → x ≡ ended
      ended_by e o = o ∙ ap (λ (cs : List Called). stored ws vs (history (length ws) (length vs) cs held)) (e ∙ sym (decode_five positions ns long))

      pub made_on_a : on ≡ 0 → (call : Option Call) → call ≡ call_of → (r : Result FixedBitSet Refusal) (set : FixedBitSet) (now : List ℕ)
          → set ≡ result_unwrap_or r a → outcome (edited_of a r) now ≡ decoded_rule a ws b vs call
          → ◌≡◌ {A = ReplayOutcome} (record { number = 0; a = set; words = now; b = b; other = vs }) ended
      made_on_a e call d r set now u o =
          ended_by (ap (called OnA) d ∙ ap (λ (k : ℕ). one_call k call_of) (sym e))
          (ap (λ (s : FixedBitSet). record { number = 0; a = s; words = now; b = b; other = vs }) (u ∙ kept_set a r) ∙ on_a call o)

      pub made_on_b : on ≡ 1 → (call : Option Call) → call ≡ call_of → (r : Result FixedBitSet Refusal) (set : FixedBitSet) (now : List ℕ)
          → set ≡ result_unwrap_or r b → outcome (edited_of b r) now ≡ decoded_rule b vs a ws call
          → ◌≡◌ {A = ReplayOutcome} (record { number = 0; a = a; words = ws; b = set; other = now }) ended
      made_on_b e call d r set now u o =
          ended_by (ap (called OnB) d ∙ ap (λ (k : ℕ). one_call k call_of) (sym e))
          (ap (λ (s : FixedBitSet). record { number = 0; a = a; words = ws; b = s; other = now }) (u ∙ kept_set b r) ∙ on_b call o)

      none_made : [] ≡ one_call on call_of → ◌≡◌ {A = ReplayOutcome} (record { number = 0; a = a; words = ws; b = b; other = vs }) ended
      none_made e = ended_by e no_call

      pub made_on_neither : (on ≡ 0 → ⊥) → (on ≡ 1 → ⊥) → ◌≡◌ {A = ReplayOutcome} (record { number = 0; a = a; words = ws; b = b; other = vs }) ended
      made_on_neither h k = none_made (rw (ne_eqb on 0 h, ne_eqb on 1 k) refl)

      pub made_none : none ≡ call_of → ◌≡◌ {A = ReplayOutcome} (record { number = 0; a = a; words = ws; b = b; other = vs }) ended
      made_none d =
          none_made (either (eqb on 0) (eqb on 1) ∙ ap (one_call on) d)
        where
          either : (s t : Bool) → ◌≡◌ {A = List Called} [] (cond s [] (cond t [] []))
          either true t = refl
          either false true = refl
          either false false = refl

  -- what some calls leave is what the calls after them get
  module _ (calls : List Called) where
    abbrev then : State
    then = history (length ws) (length vs) calls held

    kept : Keeps (length ws) (length vs) held then
    kept = history_kept (length ws) (length vs) calls held (sound_read a ws va) (sound_read b vs vb)

    pub left_sound : {x : ReplayOutcome} → x ≡ stored ws vs then → both_questions x.a x.words x.b x.other ≡ 0
    unfolding both_questions
    left_sound e =
        rw e
        (sym (first-yes (valid_yes _ _ (write_valid ws then.a kept.a.sound.clipped kept.a.sound.small kept.a.sound.enough))
        (sym (valid_yes _ _ (write_valid vs then.b kept.b.sound.clipped kept.b.sound.small kept.b.sound.enough)))))

    pub left_sizes : {x : ReplayOutcome} → x ≡ stored ws vs then → (length x.words ≡ length ws) × (length x.other ≡ length vs)
    left_sizes e = rw e (length-write ws then.a kept.a.sound.enough, length-write vs then.b kept.b.sound.enough)

    left_left : (rest : List Called) → stored (write ws then.a) (write vs then.b) (history (length ws) (length vs) rest then) ≡ stored ws vs (history (length ws) (length vs) rest then)
    left_left rest =
        let k = history_kept (length ws) (length vs) rest then kept.a.sound kept.b.sound in
        rw (
          write-write ws then.a (history (length ws) (length vs) rest then).a (words_mono k.a.longer) k.a.sound.enough,
          write-write vs then.b (history (length ws) (length vs) rest then).b (words_mono k.b.longer) k.b.sound.enough,
        ) refl

    pub left_then : (rest : List Called) {x : ReplayOutcome} → x ≡ stored ws vs then
        → stored x.words x.other (history (length x.words) (length x.other) rest (record { a = read x.words x.a; b = read x.other x.b }))
        ≡ stored ws vs (history (length ws) (length vs) (calls ++ rest) held)
    left_then rest e =
        rw (
          (left_sizes e).0,
          (left_sizes e).1,
          e,
          read-write ws then.a kept.a.sound.clipped,
          read-write vs then.b kept.b.sound.clipped,
          history-append (length ws) (length vs) calls rest held,
        ) (left_left rest)
