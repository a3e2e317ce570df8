-- The answers of a walk stay below the length of its sets. Assumes nothing.
use mathlib.Core.Path.{◌≡◌}
use mathlib.Core.Bool.{Bool}
use mathlib.Core.List.{List, [], ◌∷◌}
use Prim.Native.Nat.{ℕ, zero, suc, ◌≤◌, ◌<◌}
use native.Mathlib.Nat.{le_refl, le_trans}
use native.Mathlib.Omega.{arith}
use lib.ListN.{get_or}
use Rattle.sets.specs.declared.answers.Part.{Part}
use Rattle.std.specs.Prelude.{Option}
use Rattle.std.specs.Prelude.{Some, None}
use Rattle.parts.specs.Steps.{front, back, step}
use Rattle.parts.specs.declared.records.End.{End}
use Rattle.parts.specs.declared.records.End.TheVariants.{Front, Back}
use Rattle.parts.specs.declared.records.Step.{Step}
use Rattle.walks.specs.Rules.{or_else, pair_step}
use Rattle.walks.specs.declared.answers.PairStep.{PairStep}
use Rattle.whole_walks.specs.Walks.{answers_from}
use Rattle.whole_walks.proofs.PartSteps.{Outcome, gives, lacks, step-outcome}

-- the records that a step leaves end at n at most, and the position that it gives is below n
record Below (n : ℕ) (s : PairStep) : Type 0 where
  first : s.one.high ≤ n
  second : s.two.high ≤ n
  given : (p : ℕ) → s.at ≡ Some p → p < n

module _ (f : ℕ → Bool) (part : Part) where
  step_high : (end : End) → (step end f part).part.high ≤ part.high
  step_high end = go end (step-outcome f part end)
    where
      go : (end : End) {s : Step} → Outcome end f part s → s.part.high ≤ part.high
      go Front (gives p a b y zs) = le_refl part.high
      go Back (gives p a b y zs) = omega arith
      go end (lacks zs) = le_refl part.high

  step_below : (end : End) (p : ℕ) → (step end f part).at ≡ Some p → p < part.high
  step_below end p e = go (step-outcome f part end) e
    where
      go : {s : Step} → Outcome end f part s → s.at ≡ Some p → p < part.high
      go (gives q a b y zs) e = let same : q ≡ p = cc in omega arith
      go (lacks zs) e = absurd (let z : ◌≡◌ {A = ℕ} 0 1 = cc in omega arith)

module _ (n : ℕ) (f g : ℕ → Bool) where
  step_in : (end : End) (one two : Part) → one.high ≤ n → two.high ≤ n → Below n (pair_step end f g one two)
  step_in end one two h k = go end
    where
      in_first : (e : End) → Below n (record { at = (step e f one).at; one = (step e f one).part; two = two })
      in_first e = record { first = le_trans (step_high f one e) h; second = k; given = λ p is. le_trans (step_below f one e p is) h }

      in_second : (e : End) → Below n (record { at = (step e g two).at; one = one; two = (step e g two).part })
      in_second e = record { first = h; second = le_trans (step_high g two e) k; given = λ p is. le_trans (step_below g two e p is) k }

      either : (q : Option ℕ) {x y : PairStep} → Below n x → Below n y → Below n (or_else q x y)
      either (Some p) u v = u
      either None u v = v

      go : (e : End) → Below n (pair_step e f g one two)
      go Front = either (front f one).at (in_first Front) (in_second Front)
      go Back = either (back g two).at (in_second Back) (in_first Back)

  pub answers_below : (ends : List End) (one two : Part) → one.high ≤ n → two.high ≤ n
      → (k p : ℕ) → get_or (answers_from f g ends one two) k None ≡ Some p → p < n
  unfolding answers_from
  answers_below [] one two h k i p e = absurd (let z : ◌≡◌ {A = ℕ} 0 1 = cc in omega arith)
  answers_below (end ∷ ends) one two h k zero p e = (step_in end one two h k).given p e
  answers_below (end ∷ ends) one two h k (suc i) p e =
      let b = step_in end one two h k in
      answers_below ends (pair_step end f g one two).one (pair_step end f g one two).two b.first b.second i p e
