-- Front steps in a row, by the next position of a part. Assumes nothing.
use mathlib.Core.Path.{◌≡◌, refl, sym, ap, ◌∙◌}
use mathlib.Core.Bool.{Bool, true, false}
use mathlib.Core.List.{List, [], ◌∷◌, ◌++◌, append-nil}
use Prim.Native.Nat.{ℕ, zero, suc, ◌+◌, ◌-◌, ◌≤◌, ◌<◌}
use native.Mathlib.Nat.{le_refl, le_trans}
use native.Mathlib.Omega.{arith}
use lib.ListN.{length}
use Rattle.sets.specs.Outcomes.{position_of}
use Rattle.sets.specs.declared.answers.Part.{Part}
use Rattle.std.specs.Prelude.{Some, None}
use Rattle.parts.specs.Steps.{front, back, step}
use Rattle.parts.specs.declared.records.End.{End}
use Rattle.parts.specs.declared.records.End.TheVariants.{Front, Back}
use Rattle.parts.specs.declared.records.Step.{Step}
use Rattle.parts.proofs.PartLaws.{front_at, front_cases, front-none, back_none}
use Rattle.walks.specs.Rules.{or_else, pair_step}
use Rattle.walks.specs.declared.answers.PairStep.{PairStep}
use Rattle.next_many.specs.Many.{Many, front_steps, ManyPair, front_pairs}

-- a step, and n after it
abbrev after : (ℕ → Bool) → ℕ → Step → Many
after has n s = record { positions = position_of s.at ++ (front_steps n has s.part).positions; part = (front_steps n has s.part).part }

module _ (has : ℕ → Bool) (part : Part) where
  -- none changes no record, so that none comes again
  none_again : front has part ≡ record { at = None; part = part } → (n : ℕ) → front_steps n has part ≡ record { positions = []; part = part }
  unfolding front_steps
  none_again e zero = refl
  none_again e (suc n) = ap (after has n) e ∙ none_again e n

  -- a part with no position left
  pub steps_none : ((p : ℕ) → part.low ≤ p → p < part.high → has p ≡ false) → (n : ℕ) → front_steps n has part ≡ record { positions = []; part = part }
  steps_none zs = none_again (front-none has part zs)

  -- a part whose next position is p
  pub steps_at : (p : ℕ) → part.low ≤ p → p < part.high → has p ≡ true → ((q : ℕ) → part.low ≤ q → q < p → has q ≡ false) → (n : ℕ)
      → front_steps (suc n) has part
      ≡ record { positions = p ∷ (front_steps n has (record { low = p + 1; high = part.high })).positions; part = (front_steps n has (record { low = p + 1; high = part.high })).part }
  unfolding front_steps
  steps_at p a b y zs n = ap (after has n) (front_at has part p a b y zs)

-- a part keeps its high
pub steps_high : (has : ℕ → Bool) (n : ℕ) (part : Part) → (front_steps n has part).part.high ≡ part.high
unfolding front_steps
steps_high has zero part = refl
steps_high has (suc n) part = steps_high has n (front has part).part ∙ front_cases (λ s. s.part.high ≡ part.high) has part (λ p. refl) refl

-- and no step gives two positions
pub steps_length : (has : ℕ → Bool) (n : ℕ) (part : Part) → length (front_steps n has part).positions ≤ n
unfolding front_steps
steps_length has zero part = le_refl 0
steps_length has (suc n) part =
    front_cases (λ s. length (position_of s.at ++ (front_steps n has s.part).positions) ≤ suc n) has part
    (λ p. let h = steps_length has n (record { low = p + 1; high = part.high }) in omega arith) (le_trans (steps_length has n part) (omega arith))

-- ---- two parts: the steps of the first, and those that are left over of the second

abbrev pub joined : Many → Many → ManyPair
joined m o = record { positions = m.positions ++ o.positions; one = m.part; two = o.part }

module _ (f g : ℕ → Bool) where
  -- the steps of the second part, once the first has given what it has
  abbrev pub rest : ℕ → Many → Part → Many
  rest n m two = front_steps (n - length m.positions) g two

  abbrev after_pair : ℕ → PairStep → ManyPair
  after_pair n s = record {
    positions = position_of s.at ++ (front_pairs n f g s.one s.two).positions;
    one = (front_pairs n f g s.one s.two).one;
    two = (front_pairs n f g s.one s.two).two;
  }

  -- a front step of two parts, by that of the first
  abbrev by_first : Part → Part → Step → PairStep
  by_first one two s = or_else s.at (record { at = s.at; one = s.part; two = two }) (record { at = (front g two).at; one = one; two = (front g two).part })

  pub pairs_are : (n : ℕ) (one two : Part) → front_pairs n f g one two ≡ joined (front_steps n f one) (rest n (front_steps n f one) two)
  unfolding front_pairs front_steps
  pairs_are zero one two = refl
  pairs_are (suc n) one two =
      front_cases (λ s. front f one ≡ s → after_pair n (by_first one two s) ≡ joined (after f n s) (rest (suc n) (after f n s) two)) f one
      (λ p e. in_first p (pairs_are n (record { low = p + 1; high = one.high }) two)) (λ e. in_second e (pairs_are n one (front g two).part)) refl
    where
      in_first : (p : ℕ) → front_pairs n f g (record { low = p + 1; high = one.high }) two ≡ joined (front_steps n f (record { low = p + 1; high = one.high })) (rest n (front_steps n f (record { low = p + 1; high = one.high })) two)
          → after_pair n (record { at = Some p; one = record { low = p + 1; high = one.high }; two = two })
          ≡ joined (after f n (record { at = Some p; part = record { low = p + 1; high = one.high } })) (rest (suc n) (after f n (record { at = Some p; part = record { low = p + 1; high = one.high } })) two)
      in_first p ih =
          let m = front_steps n f (record { low = p + 1; high = one.high }) in
          let e : n - length m.positions ≡ suc n - suc (length m.positions) = omega arith in
          ap (λ (x : ManyPair). record { positions = p ∷ x.positions; one = x.one; two = x.two }) ih
          ∙ ap (λ (i : ℕ). joined (record { positions = p ∷ m.positions; part = m.part }) (front_steps i g two)) e

      in_second : front f one ≡ record { at = None; part = one } → front_pairs n f g one (front g two).part ≡ joined (front_steps n f one) (rest n (front_steps n f one) (front g two).part)
          → after_pair n (record { at = (front g two).at; one = one; two = (front g two).part }) ≡ joined (front_steps n f one) (rest (suc n) (front_steps n f one) two)
      in_second e ih =
          let none = none_again f one e n in
          let x : n - 0 ≡ n = omega arith in
          let y : suc n ≡ suc n - 0 = omega arith in
          ap (λ (m : ManyPair). record { positions = position_of (front g two).at ++ m.positions; one = m.one; two = m.two }) (ih ∙ ap (λ (m : Many). joined m (rest n m (front g two).part)) none)
          ∙ ap (λ (i : ℕ). joined (record { positions = []; part = one }) (record { positions = position_of (front g two).at ++ (front_steps i g (front g two).part).positions; part = (front_steps i g (front g two).part).part })) x
          ∙ ap (λ (i : ℕ). joined (record { positions = []; part = one }) (front_steps i g two)) y
          ∙ ap (λ (m : Many). joined m (rest (suc n) m two)) (sym none)

-- a walk of one part has nothing in the second: the steps are those of the first alone
pub pairs_alone : (f : ℕ → Bool) (n : ℕ) (one two : Part)
    → front_pairs n f (λ p. false) one two ≡ record { positions = (front_steps n f one).positions; one = (front_steps n f one).part; two = two }
pairs_alone f n one two =
    let m = front_steps n f one in
    pairs_are f (λ p. false) n one two
    ∙ ap (joined m) (steps_none (λ p. false) two (λ p a b. refl) (n - length m.positions))
    ∙ ap (λ (xs : List ℕ). record { positions = xs; one = m.part; two = two }) (append-nil m.positions)

-- and so is a single step at either end
abbrev alone : Part → Step → PairStep
alone two s = record { at = s.at; one = s.part; two = two }

pub step_alone : (end : End) (f : ℕ → Bool) (one two : Part) → pair_step end f (λ p. false) one two ≡ alone two (step end f one)
step_alone Front f one two =
    ap (λ (t : Step). or_else (front f one).at (alone two (front f one)) (record { at = t.at; one = one; two = t.part })) (front-none (λ p. false) two (λ p a b. refl))
    ∙ front_cases (λ s. or_else s.at (alone two s) (record { at = None; one = one; two = two }) ≡ alone two s) f one (λ p. refl) refl
step_alone Back f one two =
    ap (λ (t : Step). or_else t.at (record { at = t.at; one = one; two = t.part }) (alone two (back f one))) (back_none (λ p. false) two (λ p a b. refl))
