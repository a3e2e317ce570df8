-- The loop over a list of calls: what the calls that remain do to what is held equals what all of them do to the start. Assumes nothing.
use mathlib.Core.Path.{◌≡◌, refl, sym, ap, ◌∙◌}
use mathlib.Core.List.{List, []}
use Prim.Native.Nat.{ℕ, zero, suc, ◌+◌, ◌-◌, ◌*◌, ◌≤◌, ◌<◌, ◌^◌}
use native.Mathlib.Omega.{arith}
use lib.ListN.{length, get_or, take, drop}
use lib.Seq.{drop-drop}
use Rattle.std.specs.Result.{IsErrAnd}
use Rattle.std.specs.Simd.{first_chunks}
use Rattle.std.proofs.Common.{Result}
use Rattle.std.proofs.lemmas.Result.{err_from_is_err_and}
use Rattle.sets.specs.Members.{read}
use Rattle.sets.specs.Outcomes.{given}
use Rattle.sets.specs.Refusals.{number}
use Rattle.sets.specs.declared.refusal.Refusal.{Refusal}
use Rattle.sets.proofs.OutcomeLaws.{given_no}
use Rattle.sets.proofs.RefusalLaws.{number_ne0}
use Rattle.sets.specs.declared.fixed_bit_set.FixedBitSet.{FixedBitSet}
use Rattle.sets.proofs.WriteLaws.{write_fits}
use Rattle.sets.specs.Questions.{both_questions}
use Rattle.sets.proofs.QuestionLaws.{both_valid}
use Rattle.calls.specs.History.{Called, history}
use Rattle.calls.specs.Encoding.{decode_all}
use Rattle.calls.specs.Rules.{ReplayOutcome, replay_outcome, replayed_of, stored}
use Rattle.calls.proofs.EncodingLaws.{decode_at, decode_end}
use Rattle.calls.proofs.HistoryLaws.{no_call, left_sound, left_sizes, left_then}

-- a list of calls that a refusal ends
pub replay_refused : (a : FixedBitSet) (ws : List ℕ) (b : FixedBitSet) (vs : List ℕ) (given_else : ReplayOutcome) {n : ℕ}
    (r : Result (FixedBitSet × FixedBitSet) Refusal) (e : Refusal) → IsErrAnd r (λ d. d ≡ e) → number e ≡ n
    → replay_outcome (replayed_of a b r) ws vs ≡ given n (λ m. record { number = m; a = a; words = ws; b = b; other = vs }) given_else
replay_refused a ws b vs given_else r e passed numbered =
    let p = err_from_is_err_and r passed in
    ap (λ (x : Result (FixedBitSet × FixedBitSet) Refusal). replay_outcome (replayed_of a b x) ws vs) p.1
    ∙ given_no (λ m. record { number = m; a = a; words = ws; b = b; other = vs }) given_else (ap number p.2 ∙ numbered) (number_ne0 p.0)

-- what some calls leave of two sets
abbrev pub ran : List Called → FixedBitSet → List ℕ → FixedBitSet → List ℕ → ReplayOutcome
ran calls a ws b vs = stored ws vs (history (length ws) (length vs) calls (record { a = read ws a; b = read vs b }))

pub record Replaying (calls positions : List ℕ) (result : ReplayOutcome) (a : FixedBitSet) (ws : List ℕ) (b : FixedBitSet) (vs : List ℕ) (m n at : ℕ) : Type 0 where
  pub sound : both_questions a ws b vs ≡ 0
  pub same : ran (decode_all positions (drop at calls)) a ws b vs ≡ result
  pub sizes : (length ws ≡ m) × (length vs ≡ n)
  pub fits : ((k : ℕ) → get_or ws k 0 < 2 ^ 64) × ((k : ℕ) → get_or vs k 0 < 2 ^ 64)
  pub within : at ≤ length calls

module _ (calls positions : List ℕ) (result : ReplayOutcome) (a : FixedBitSet) (ws : List ℕ) (b : FixedBitSet) (vs : List ℕ) (m n at : ℕ)
    (i : Replaying calls positions result a ws b vs m n at) where
  pub again : 5 ≤ length calls - at → {x : ReplayOutcome}
      → x ≡ ran (decode_all positions (take 5 (drop at calls))) a ws b vs
      → Replaying calls positions result x.a x.words x.b x.other m n (at + 5)
  again h {x} e =
      let v = both_valid a ws b vs i.sound in
      let s = left_sizes a ws b vs v.one v.two _ e in record {
        sound = left_sound a ws b vs v.one v.two _ e;
        same = left_then a ws b vs v.one v.two _ (decode_all positions (drop (at + 5) calls)) e ∙ ap (λ (cs : List Called). ran cs a ws b vs) (sym (decode_at positions calls at h)) ∙ i.same;
        sizes = (s.0 ∙ i.sizes.0, s.1 ∙ i.sizes.1);
        fits = (λ k. rw e (write_fits ws _ i.fits.0 k), λ k. rw e (write_fits vs _ i.fits.1 k));
        within = omega arith;
      }

  pub over : length calls - at < 5 → ◌≡◌ {A = ReplayOutcome} (record { number = 0; a = a; words = ws; b = b; other = vs }) result
  over h =
      let v = both_valid a ws b vs i.sound in
      no_call a ws b vs v.one v.two i.fits.0 i.fits.1 ∙ ap (λ (cs : List Called). ran cs a ws b vs) (sym (decode_end positions calls at h)) ∙ i.same

-- a list cut into fives
five_of : (n k : ℕ) (xs : List ℕ) → k < length (first_chunks 5 n xs) → get_or (first_chunks 5 n xs) k [] ≡ take 5 (drop (5 * k) xs)
five_of zero k xs h = absurd (omega arith)
five_of (suc n) zero xs h = refl
five_of (suc n) (suc k) xs h =
    let e : 5 + 5 * k ≡ 5 * suc k = omega arith in
    five_of n k (drop 5 xs) (omega arith) ∙ ap (take 5) (drop-drop (5 * k) 5 xs ∙ ap (λ (m : ℕ). drop m xs) e)

pub five_at : (n k : ℕ) (xs : List ℕ) {fives : List (List ℕ)} → fives ≡ first_chunks 5 n xs → k < length fives → get_or fives k [] ≡ take 5 (drop (5 * k) xs)
five_at n k xs e h = rw e (five_of n k xs (rw e at h))
