-- What the loop stores, as what a call has written, and what a call that a refusal ends gives. Assumes nothing.
use mathlib.Core.Path.{◌≡◌, refl, sym, ap, ap₂, ◌∙◌}
use mathlib.Core.Bool.{Bool}
use mathlib.Core.List.{List, ◌++◌, append-nil, append_assoc}
use borrow.Rule.Slice.PartMut.{mid_of, post_of, Post-is}
use Prim.Native.Nat.{ℕ, ◌+◌, ◌-◌, ◌*◌, ◌≤◌, min}
use native.Mathlib.Nat.{sub-zero, zero-add}
use native.Mathlib.Omega.{arith}
use lib.ListN.{length, take, drop, length-append, length-drop}
use lib.Seq.{take_at, take-length, drop_at, drop-drop, drop-length}
use Rattle.std.specs.Result.{IsErrAnd}
use Rattle.std.proofs.Common.{Result}
use Rattle.std.proofs.lemmas.Result.{err_from_is_err_and}
use Rattle.sets.specs.CheckedSets.{members}
use Rattle.sets.specs.Members.{Members, read}
use Rattle.sets.specs.Outcomes.{given}
use Rattle.sets.specs.Questions.{part_question}
use Rattle.sets.specs.Refusals.{number}
use Rattle.sets.specs.declared.answers.Part.{Part}
use Rattle.sets.specs.declared.checked.Checked.{Checked}
use Rattle.sets.specs.declared.fixed_bit_set.FixedBitSet.{FixedBitSet}
use Rattle.sets.specs.declared.refusal.Refusal.{Refusal}
use Rattle.sets.proofs.OutcomeLaws.{given_no}
use Rattle.sets.proofs.RangeQuestionLaws.{part_within}
use Rattle.sets.proofs.ReadLaws.{read_len}
use Rattle.sets.proofs.RefusalLaws.{number_ne0}
use Rattle.sets.proofs.WordLaws.{words_hold}
use Rattle.next_many.specs.Calls.{next_many_of, next_many_pair_of}
use Rattle.next_many.specs.Helpers.{FillOutcome, stored, filled}
use Rattle.next_many.specs.Many.{Many, front_steps, front_pairs}
use Rattle.next_many.specs.Rules.{ManyOutcome, many_outcome, written, ManyPairOutcome, many_pair_outcome, written_pair}
use Rattle.next_many.specs.declared.answers.Many.{Many as Answered}
use Rattle.next_many.specs.declared.answers.ManyPair.{ManyPair as AnsweredPair}
use Rattle.next_many.proofs.ManyLaws.{steps_high, steps_length, rest, pairs_are}

-- a part that question 8 passes lies within the checked set, and so within its own words
pub part_room : (c : Checked) (ws : List ℕ) (set : FixedBitSet) (part : Part) → members c ≡ read ws set → 0 ≡ part_question set part → part.high ≤ c.length
part_room c ws set part e q =
    let l : c.length ≡ set.length = sym (read_len c.words.now (record { length = c.length })) ∙ ap (λ (m : Members). m.len) e ∙ read_len ws set in
    rw l (part_within set part (sym q)).inside

pub own_room : (c : Checked) {high : ℕ} → high ≤ c.length → min high (length c.words.now * 64) ≡ high
own_room c h = rw c.sound.own (omega (arith, h, (words_hold c.length).0))

-- a call that a refusal ends: nothing is written
pub many_refused : (part : Part) (out : List ℕ) (given_else : ManyOutcome) {n : ℕ} (r : Result Answered Refusal) (e : Refusal) → IsErrAnd r (λ d. d ≡ e) → number e ≡ n
    → many_outcome (next_many_of part r) out ≡ given n (λ m. record { number = m; count = 0; part = part; out = out }) given_else
many_refused part out given_else r e passed numbered =
    let p = err_from_is_err_and r passed in
    ap (λ (x : Result Answered Refusal). many_outcome (next_many_of part x) out) p.1
    ∙ given_no (λ m. record { number = m; count = 0; part = part; out = out }) given_else (ap number p.2 ∙ numbered) (number_ne0 p.0)

pub pair_refused : (one two : Part) (out : List ℕ) (given_else : ManyPairOutcome) {n : ℕ} (r : Result AnsweredPair Refusal) (e : Refusal) → IsErrAnd r (λ d. d ≡ e) → number e ≡ n
    → many_pair_outcome (next_many_pair_of one two r) out ≡ given n (λ m. record { number = m; count = 0; one = one; two = two; out = out }) given_else
pair_refused one two out given_else r e passed numbered =
    let p = err_from_is_err_and r passed in
    ap (λ (x : Result AnsweredPair Refusal). many_pair_outcome (next_many_pair_of one two x) out) p.1
    ∙ given_no (λ m. record { number = m; count = 0; one = one; two = two; out = out }) given_else (ap number p.2 ∙ numbered) (number_ne0 p.0)

module _ (has : ℕ → Bool) (part : Part) (out : List ℕ) {x : FillOutcome} (e : x ≡ filled has part.high 0 part.low out) where
  abbrev steps : Many
  steps = front_steps (length out) has part

  -- the loop from word 0 on, with the record of the part after the steps
  pub fill_written : {h : ℕ} → h ≡ part.high → ◌≡◌ {A = ManyOutcome} (record { number = 0; count = x.count; part = record { low = x.low; high = h }; out = x.out }) (written out steps)
  unfolding filled
  fill_written k =
      ap₂ (λ (y : FillOutcome) (h : ℕ). record { number = 0; count = y.count; part = record { low = y.low; high = h }; out = y.out })
      (e ∙ ap (λ (n : ℕ). stored 0 out (front_steps n has part)) (sub-zero (length out))
      ∙ ap (λ (n : ℕ). record { count = n; low = steps.part.low; out = steps.positions ++ drop n out }) (zero-add (length steps.positions)))
      (k ∙ sym (steps_high has (length out) part))

  pub fill_room : x.count ≤ length out
  fill_room = omega (arith, ap (λ (o : ManyOutcome). o.count) (fill_written refl), steps_length has (length out) part)

-- what lies after the end of a buffer is nothing
pub after_all : (n : ℕ) (xs ys : List ℕ) → n ≤ length xs → ys ++ post_of n (length xs - n) xs ≡ ys
after_all n xs ys h = ap (λ (zs : List ℕ). ys ++ zs) (Post-is n (length xs) xs h ∙ drop-length xs) ∙ append-nil ys

-- and from n on it is what n words leave
pub from_on : (n : ℕ) (xs : List ℕ) → mid_of n (length xs - n) xs ≡ drop n xs
from_on n xs = ap (λ (k : ℕ). take k (drop n xs)) (sym (length-drop n xs)) ∙ take-length (drop n xs)

-- the second part behind the first
module _ (f g : ℕ → Bool) (one two : Part) (out : List ℕ) where
  abbrev m : Many
  m = front_steps (length out) f one

  abbrev n : ℕ
  n = length m.positions

  abbrev o : Many
  o = rest f g (length out) m two

  pub pair_written : {x y : ManyOutcome} → x ≡ written out m → y ≡ written (drop x.count x.out) (front_steps (length (drop x.count x.out)) g two)
      → ◌≡◌ {A = ManyPairOutcome} (record { number = 0; count = x.count + y.count; one = x.part; two = y.part; out = take x.count x.out ++ y.out }) (written_pair out (front_pairs (length out) f g one two))
  pair_written e d =
      let left = ap (λ (z : ManyOutcome). drop z.count z.out) e ∙ drop_at m.positions (drop n out) n refl in
      let second = d ∙ ap (λ (zs : List ℕ). written zs (front_steps (length zs) g two)) left ∙ ap (λ (i : ℕ). written (drop n out) (front_steps i g two)) (length-drop n out) in
      ap₂ (λ (z w : ManyOutcome). record { number = 0; count = z.count + w.count; one = z.part; two = w.part; out = take z.count z.out ++ w.out }) e second
      ∙ ap₂ (λ (ys zs : List ℕ). record { number = 0; count = n + length o.positions; one = m.part; two = o.part; out = ys ++ (o.positions ++ zs) }) (take_at m.positions (drop n out) n refl) (drop-drop (length o.positions) n out)
      ∙ ap (λ (ys : List ℕ). record { number = 0; count = n + length o.positions; one = m.part; two = o.part; out = ys }) (sym (append_assoc m.positions o.positions (drop (n + length o.positions) out)))
      ∙ ap (λ (k : ℕ). record { number = 0; count = k; one = m.part; two = o.part; out = m.positions ++ o.positions ++ drop k out }) (sym (length-append m.positions o.positions))
      ∙ ap (written_pair out) (sym (pairs_are f g (length out) one two))
