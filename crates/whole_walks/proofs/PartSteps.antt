-- What a step takes from what is part_left of its part. Assumes nothing.
use mathlib.Core.Path.{◌≡◌, sym, ap, ◌∙◌}
use mathlib.Core.Bool.{Bool, true}
use mathlib.Core.List.{List, [], ◌∷◌, ◌++◌}
use mathlib.Core.Logic.{◌⊎◌, inl, inr}
use Prim.Native.Nat.{ℕ, suc, ◌+◌, ◌-◌, ◌≤◌, ◌<◌}
use native.Mathlib.Nat.{add-sub_of_le}
use native.Mathlib.Omega.{arith}
use Rattle.word_bits.proofs.Ends.{below_no, below_yes, above_no, above_yes}
use Rattle.word_bits.proofs.Order.{lt-or-le}
use Rattle.std.specs.Prelude.{Option}
use Rattle.std.specs.Prelude.{Some, None}
use Rattle.parts.specs.Steps.{ahead, behind, front, back, step}
use Rattle.parts.specs.declared.records.End.{End}
use Rattle.parts.specs.declared.records.End.TheVariants.{Front, Back}
use Rattle.sets.specs.declared.answers.Part.{Part}
use Rattle.parts.specs.declared.records.Step.{Step}
use Rattle.parts.proofs.PartLaws.{front-none, front_at, back_none, back_at}
use Rattle.whole_walks.proofs.PartLists.{under, over, NoneIn, left_none, left_cut, part_left}

-- the part that a step passes over, and the part that it leaves
abbrev pub passed : End → Part → ℕ → Part
passed Front part p = under part p
passed Back part p = over part p

abbrev pub kept : End → Part → ℕ → Part
kept Front part p = over part p
kept Back part p = under part p

-- a step gives the first position from its end, or there is none
pub data Outcome (end : End) (f : ℕ → Bool) (part : Part) : Step → Type 0 where
  gives : (p : ℕ) → part.low ≤ p → p < part.high → f p ≡ true → NoneIn f (passed end part p)
      → Outcome end f part (record { at = Some p; part = kept end part p })
  lacks : NoneIn f part → Outcome end f part (record { at = None; part = part })

module _ (f : ℕ → Bool) (part : Part) where
  abbrev size : ℕ
  size = part.high - part.low

  abbrev row : ℕ → Bool
  row j = f (part.low + j)

  at_place : (p : ℕ) → part.low ≤ p → {b : Bool} → row (p - part.low) ≡ b → f p ≡ b
  at_place p a e = sym (ap f (add-sub_of_le a)) ∙ e

  front-outcome : Outcome Front f part (front f part)
  front-outcome = go (lt-or-le (ahead f part) size)
    where
      go : (ahead f part < size) ⊎ (size ≤ ahead f part) → Outcome Front f part (front f part)
      go (inl l) =
          let y = below_yes size row l in
          let zs : NoneIn f (under part (part.low + ahead f part)) = λ q a b. at_place q a (below_no size row (q - part.low) (omega arith)) in
          rw (front_at f part (part.low + ahead f part) (omega arith) (omega arith) y zs)
          (gives (part.low + ahead f part) (omega arith) (omega arith) y zs)
      go (inr g) =
          let zs : NoneIn f part = λ q a b. at_place q a (below_no size row (q - part.low) (omega arith)) in
          rw (front-none f part zs) (lacks zs)

  back-outcome : Outcome Back f part (back f part)
  back-outcome = go (lt-or-le (behind f part) size)
    where
      go : (behind f part < size) ⊎ (size ≤ behind f part) → Outcome Back f part (back f part)
      go (inl l) =
          let p = part.high - suc (behind f part) in
          let e : part.low + (size - suc (behind f part)) ≡ p = omega arith in
          let y = sym (ap f e) ∙ above_yes size row l in
          let zs : NoneIn f (over part p) = λ q a b. at_place q (omega arith) (above_no size row (q - part.low) (omega arith) (omega arith)) in
          rw (back_at f part p (omega arith) (omega arith) y (λ q a. zs q (omega arith))) (gives p (omega arith) (omega arith) y zs)
      go (inr g) =
          let zs : NoneIn f part = λ q a b. at_place q a (above_no size row (q - part.low) (omega arith) (omega arith)) in
          rw (back_none f part zs) (lacks zs)

  pub step-outcome : (end : End) → Outcome end f part (step end f part)
  step-outcome Front = front-outcome
  step-outcome Back = back-outcome

-- what a step takes from a list: its first or its last position, or none where the list is empty
abbrev pub Taken : Option ℕ → End → List ℕ → List ℕ → Type 0
Taken (Some p) Front whole rest = whole ≡ p ∷ rest
Taken (Some p) Back whole rest = whole ≡ rest ++ (p ∷ [])
Taken None end whole rest = (whole ≡ []) × (rest ≡ [])

module _ (f : ℕ → Bool) (part : Part) where
  outcome-taken : (end : End) {s : Step} → Outcome end f part s → Taken s.at end (part_left f part) (part_left f s.part)
  outcome-taken Front (gives p a b y zs) = left_cut f part p a b y ∙ ap (λ (xs : List ℕ). xs ++ (p ∷ part_left f (over part p))) (left_none f (under part p) zs)
  outcome-taken Back (gives p a b y zs) = left_cut f part p a b y ∙ ap (λ (xs : List ℕ). part_left f (under part p) ++ (p ∷ xs)) (left_none f (over part p) zs)
  outcome-taken end (lacks zs) = (left_none f part zs, left_none f part zs)

  pub step-taken : (end : End) → Taken (step end f part).at end (part_left f part) (part_left f (step end f part).part)
  step-taken end = outcome-taken end (step-outcome f part end)
