-- Front steps in a row give the first of the positions that are left, and leave the others. Assumes nothing.
use mathlib.Core.Path.{◌≡◌, refl, sym, ap, ◌∙◌}
use mathlib.Core.Bool.{Bool, not}
use mathlib.Core.List.{List, [], ◌∷◌, ◌++◌}
use Prim.Native.Nat.{ℕ, zero, suc, ◌+◌, ◌-◌, ◌≤◌, min}
use native.Mathlib.Nat.{le_refl, le_trans}
use native.Mathlib.Omega.{arith}
use lib.ListN.{length, take, drop, length-append, length-take, length-drop}
use Rattle.sets.specs.Members.{Members, set_of}
use Rattle.sets.specs.Outcomes.{position_of}
use Rattle.sets.specs.Questions.{part_question}
use Rattle.sets.specs.declared.fixed_bit_set.FixedBitSet.{FixedBitSet}
use Rattle.sets.proofs.RangeQuestionLaws.{part_yes, part_within}
use Rattle.two_set_counts.specs.Lists.{zeroes_list}
use Rattle.sets.specs.declared.answers.Part.{Part}
use Rattle.std.specs.Prelude.{Option}
use Rattle.std.specs.Prelude.{Some, None}
use Rattle.parts.specs.Steps.{front}
use Rattle.parts.specs.declared.records.End.{End}
use Rattle.parts.specs.declared.records.End.TheVariants.{Front, Back}
use Rattle.parts.specs.declared.records.Step.{Step}
use Rattle.walks.specs.Rules.{first_part, pair_step}
use Rattle.whole_walks.proofs.PartLists.{left_first, part_left}
use Rattle.whole_walks.proofs.PartSteps.{Taken, step-taken, Outcome, gives, lacks, step-outcome}
use Rattle.whole_walks.proofs.WalkSteps.{both_left, row-good}
use Rattle.next_many.specs.Many.{front_steps, front_pairs}
use Rattle.next_many.specs.Mixes.{Taking, single, many, fronts_of, backs_of, asked}
use Rattle.next_many.proofs.ManyLaws.{pairs_are}

module _ (whole rest : List ℕ) where
  taken_more : (n : ℕ) (x : Option ℕ) → Taken x Front whole rest → position_of x ++ take n rest ≡ take (suc n) whole
  taken_more n (Some p) t = ap (take (suc n)) (sym t)
  taken_more zero None t = ap (take 1) (sym t.0)
  taken_more (suc n) None t = ap (take (suc n)) t.1 ∙ ap (take (suc (suc n))) (sym t.0)

  dropped_more : (n : ℕ) (x : Option ℕ) → Taken x Front whole rest → drop n rest ≡ drop (suc n) whole
  dropped_more n (Some p) t = ap (drop (suc n)) (sym t)
  dropped_more zero None t = t.1 ∙ ap (drop 1) (sym t.0)
  dropped_more (suc n) None t = ap (drop (suc n)) t.1 ∙ ap (drop (suc (suc n))) (sym t.0)

  -- one step of those that ask for m more
  one-step : (x : Option ℕ) (end : End) → Taken x end whole rest → (m : ℕ) → length (position_of x) + min m (length rest) ≡ min (suc m) (length whole)
  one-step (Some p) Front t m = omega (arith, ap length t)
  one-step (Some p) Back t m = omega (arith, ap length t, length-append rest (p ∷ []))
  one-step None end t m = omega (arith, ap length t.0, ap length t.1)

-- ---- one part

module _ (f : ℕ → Bool) where
  pub steps_take : (n : ℕ) (part : Part) → (front_steps n f part).positions ≡ take n (part_left f part)
  unfolding front_steps
  steps_take zero part = refl
  steps_take (suc n) part =
      ap (λ (xs : List ℕ). position_of (front f part).at ++ xs) (steps_take n (front f part).part)
      ∙ taken_more (part_left f part) (part_left f (front f part).part) n (front f part).at (step-taken f part Front)

  pub steps_drop : (n : ℕ) (part : Part) → part_left f (front_steps n f part).part ≡ drop n (part_left f part)
  unfolding front_steps
  steps_drop zero part = refl
  steps_drop (suc n) part =
      steps_drop n (front f part).part ∙ dropped_more (part_left f part) (part_left f (front f part).part) n (front f part).at (step-taken f part Front)

-- `zeroes` from its first record: the first n of the list of non-members
pub zeroes_take : (a : Members) (n : ℕ) → (front_steps n (λ p. not (a.has p)) (first_part (set_of a))).positions ≡ take n (zeroes_list a)
zeroes_take a n = steps_take (λ p. not (a.has p)) n (first_part (set_of a)) ∙ ap (take n) (left_first a (λ p. not (a.has p)))

-- the record after the steps passes question 8 where the one before them did
abbrev In : Part → Part → Type 0
In part q = (q.low ≤ q.high) × (q.high ≤ part.high)

steps_in : (f : ℕ → Bool) (n : ℕ) (part : Part) → part.low ≤ part.high → In part (front_steps n f part).part
unfolding front_steps
steps_in f zero part l = (l, le_refl part.high)
steps_in f (suc n) part l =
    let k = go (step-outcome f part Front) in
    let i = steps_in f n (front f part).part k.0 in
    (i.0, le_trans i.1 k.1)
  where
    go : {s : Step} → Outcome Front f part s → In part s.part
    go (gives p a b y zs) = (omega arith, le_refl part.high)
    go (lacks zs) = (l, le_refl part.high)

pub steps_asked : (set : FixedBitSet) (f : ℕ → Bool) (n : ℕ) (part : Part) → part_question set part ≡ 0 → part_question set (front_steps n f part).part ≡ 0
steps_asked set f n part e =
    let w = part_within set part e in
    let i = steps_in f n part w.ordered in
    part_yes set (front_steps n f part).part i.0 (le_trans i.1 w.inside)

-- ---- two parts

module _ (f g : ℕ → Bool) where
  pub pairs-take : (n : ℕ) (one two : Part) → (front_pairs n f g one two).positions ≡ take n (both_left f g one two)
  unfolding front_pairs
  pairs-take zero one two = refl
  pairs-take (suc n) one two =
      let s = pair_step Front f g one two in
      ap (λ (xs : List ℕ). position_of s.at ++ xs) (pairs-take n s.one s.two)
      ∙ taken_more (both_left f g one two) (both_left f g s.one s.two) n s.at (row-good f g one two Front).0

  pub pairs-drop : (n : ℕ) (one two : Part) → both_left f g (front_pairs n f g one two).one (front_pairs n f g one two).two ≡ drop n (both_left f g one two)
  unfolding front_pairs
  pairs-drop zero one two = refl
  pairs-drop (suc n) one two =
      let s = pair_step Front f g one two in
      pairs-drop n s.one s.two ∙ dropped_more (both_left f g one two) (both_left f g s.one s.two) n s.at (row-good f g one two Front).0

  -- so no later call is refused with 8
  pub pairs-asked : (a b : FixedBitSet) (n : ℕ) (one two : Part) → part_question a one ≡ 0 → part_question b two ≡ 0
      → (part_question a (front_pairs n f g one two).one ≡ 0) × (part_question b (front_pairs n f g one two).two ≡ 0)
  pairs-asked a b n one two p q =
      rw (pairs_are f g n one two) (steps_asked a f n one p, steps_asked b g (n - length (front_steps n f one).positions) two q)

  -- a mix gives as many positions as it asks for, or as are left
  pub mix_gives : (ts : List Taking) (one two : Part) → length (fronts_of f g ts one two) + length (backs_of f g ts one two) ≡ min (asked ts) (length (both_left f g one two))
  unfolding fronts_of backs_of
  mix_gives [] one two = omega arith
  mix_gives (single Front ∷ ts) one two =
      let s = pair_step Front f g one two in
      let h = one-step (both_left f g one two) (both_left f g s.one s.two) s.at Front (row-good f g one two Front).0 (asked ts) in
      omega (arith, length-append (position_of s.at) (fronts_of f g ts s.one s.two), mix_gives ts s.one s.two, h)
  mix_gives (single Back ∷ ts) one two =
      let s = pair_step Back f g one two in
      let h = one-step (both_left f g one two) (both_left f g s.one s.two) s.at Back (row-good f g one two Back).0 (asked ts) in
      omega (arith, length-append (position_of s.at) (backs_of f g ts s.one s.two), mix_gives ts s.one s.two, h)
  mix_gives (many n ∷ ts) one two =
      let m = front_pairs n f g one two in
      let h = ap length (pairs-take n one two) ∙ length-take n (both_left f g one two) in
      let k = ap length (pairs-drop n one two) ∙ length-drop n (both_left f g one two) in
      omega (arith, length-append m.positions (fronts_of f g ts m.one m.two), mix_gives ts m.one m.two, h, k)
