-- The next position of a part, by the first or the last word that has one. Assumes nothing.
use mathlib.Core.Path.{◌≡◌, sym, ap, ap₂, ◌∙◌}
use mathlib.Core.Bool.{Bool, true, false, ◌&&◌}
use mathlib.Core.Logic.{◌⊎◌, inl, inr}
use Prim.Native.Nat.{ℕ, suc, ◌+◌, ◌-◌, ◌≤◌, ◌<◌}
use native.Mathlib.Nat.{add-sub_of_le}
use native.Mathlib.Omega.{arith}
use borrow.Author.Tests.{lt-ltb, le-ltb, ltb-true}
use lib.Dec.{ltb}
use Rattle.word_bits.specs.Counts.{zeros_below, zeros_above}
use Rattle.word_bits.proofs.Ends.{below_at, below_no, below_none, below_yes, above_at, above_no, above_none, above_yes}
use Rattle.word_bits.proofs.Order.{lt-or-le}
use Rattle.std.specs.Prelude.{Some, None}
use Rattle.std.proofs.lemmas.Option.{cond_some}
use Rattle.sets.specs.Outcomes.{place}
use Rattle.parts.proofs.CutWords.{both_true}
use Rattle.parts.specs.Helpers.{top_of, next_from, bottom_of, prev_from}
use Rattle.parts.specs.Steps.{taken, ahead, behind, front, back}
use Rattle.parts.specs.declared.records.Step.{Step}
use Rattle.sets.specs.declared.answers.Part.{Part}

-- ---- a step by its position

module _ (has : ℕ → Bool) (part : Part) where
  pub front-none : ((p : ℕ) → part.low ≤ p → p < part.high → has p ≡ false) → front has part ≡ record { at = None; part = part }
  unfolding front
  front-none zs =
      let z = below_none (part.high - part.low) (λ j. has (part.low + j)) (λ j l. zs (part.low + j) (omega arith) (omega arith)) in
      ap (λ (t : Bool). taken t (part.low + ahead has part) (record { low = part.low + ahead has part + 1; high = part.high }) part)
      (le-ltb (ahead has part) (part.high - part.low) (omega (arith, z)))

  pub back_none : ((p : ℕ) → part.low ≤ p → p < part.high → has p ≡ false) → back has part ≡ record { at = None; part = part }
  unfolding back
  back_none zs =
      let z = above_none (part.high - part.low) (λ j. has (part.low + j)) (λ j l. zs (part.low + j) (omega arith) (omega arith)) in
      ap (λ (t : Bool). taken t (part.high - suc (behind has part)) (record { low = part.low; high = part.high - suc (behind has part) }) part)
      (le-ltb (behind has part) (part.high - part.low) (omega (arith, z)))

  module _ (p : ℕ) (a : part.low ≤ p) (b : p < part.high) (y : has p ≡ true) where
    at_low : has (part.low + (p - part.low)) ≡ true
    at_low = ap has (add-sub_of_le a) ∙ y

    pub front_at : ((q : ℕ) → part.low ≤ q → q < p → has q ≡ false) → front has part ≡ record { at = Some p; part = record { low = p + 1; high = part.high } }
    unfolding front
    front_at zs =
        let z = below_at (part.high - part.low) (λ j. has (part.low + j)) (p - part.low) (omega arith) at_low (λ j l. zs (part.low + j) (omega arith) (omega arith)) in
        let e : part.low + ahead has part ≡ p = omega (arith, z) in
        ap (λ (t : Bool). taken t (part.low + ahead has part) (record { low = part.low + ahead has part + 1; high = part.high }) part)
        (lt-ltb (ahead has part) (part.high - part.low) (omega (arith, z)))
        ∙ ap (λ (x : ℕ). record { at = Some x; part = record { low = x + 1; high = part.high } }) e

    pub back_at : ((q : ℕ) → p < q → q < part.high → has q ≡ false) → back has part ≡ record { at = Some p; part = record { low = part.low; high = p } }
    unfolding back
    back_at zs =
        let z = above_at (part.high - part.low) (λ j. has (part.low + j)) (p - part.low) (omega arith) at_low (λ j c d. zs (part.low + j) (omega arith) (omega arith)) in
        let e : part.high - suc (behind has part) ≡ p = omega (arith, z) in
        ap (λ (t : Bool). taken t (part.high - suc (behind has part)) (record { low = part.low; high = part.high - suc (behind has part) }) part)
        (lt-ltb (behind has part) (part.high - part.low) (omega (arith, z)))
        ∙ ap (λ (x : ℕ). record { at = Some x; part = record { low = part.low; high = x } }) e

-- ---- a step by what a search found

module _ (has : ℕ → Bool) (part : Part) where
  abbrev top : ℕ
  top = top_of part.low part.high

  abbrev up : ℕ → Bool
  up j = has (part.low + j)

  abbrev steps_up : ℕ
  steps_up = zeros_below (top - part.low) up

  passed_up : (q : ℕ) → part.low ≤ q → q < part.low + steps_up → has q ≡ false
  passed_up q a b = ap has (sym (add-sub_of_le a)) ∙ below_no (top - part.low) up (q - part.low) (omega arith)

  pub front-found : (r : ℕ) → next_from has part.low part.high ≡ Some r → r < part.high → record { at = Some r; part = record { low = r + 1; high = part.high } } ≡ front has part
  unfolding next_from
  front-found r e l =
      let q = cond_some (ltb steps_up (top - part.low)) (part.low + steps_up) r e in
      let at = q.1 in
      sym (front_at has part r (omega (arith, at)) l (ap has (sym at) ∙ below_yes (top - part.low) up (ltb-true steps_up (top - part.low) q.0)) (λ q a b. passed_up q a (omega (arith, at))))

  pub front_lacks : ((r : ℕ) → next_from has part.low part.high ≡ Some r → part.high ≤ r) → record { at = None; part = part } ≡ front has part
  unfolding next_from
  front_lacks past = go (lt-or-le steps_up (top - part.low))
    where
      go : (steps_up < top - part.low) ⊎ (top - part.low ≤ steps_up) → record { at = None; part = part } ≡ front has part
      go (inl i) =
          let h = past (part.low + steps_up) (ap (λ (t : Bool). place t (part.low + steps_up)) (lt-ltb steps_up (top - part.low) i)) in
          sym (front-none has part (λ q a b. passed_up q a (omega (arith, h))))
      go (inr g) = sym (front-none has part (λ q a b. passed_up q a (omega arith)))

  abbrev bottom : ℕ
  bottom = bottom_of part.low

  abbrev down : ℕ → Bool
  down j = has (bottom + j)

  abbrev steps_down : ℕ
  steps_down = zeros_above (part.high - bottom) down

  passed_down : (q : ℕ) → bottom ≤ q → q < part.high → part.high ≤ q + steps_down → has q ≡ false
  passed_down q a b l = ap has (sym (add-sub_of_le a)) ∙ above_no (part.high - bottom) down (q - bottom) (omega arith) (omega arith)

  pub back_found : (r : ℕ) → prev_from has part.low part.high ≡ Some r → part.low ≤ r → record { at = Some r; part = record { low = part.low; high = r } } ≡ back has part
  unfolding prev_from
  back_found r e l =
      let q = cond_some (ltb part.low part.high && ltb steps_down (part.high - bottom)) (part.high - suc steps_down) r e in
      let at = q.1 in
      let both = both_true (ltb part.low part.high) (ltb steps_down (part.high - bottom)) q.0 in
      let h = ltb-true part.low part.high both.0 in
      let i = ltb-true steps_down (part.high - bottom) both.1 in
      let p : bottom + (part.high - bottom - suc steps_down) ≡ r = omega (arith, at, h, i) in
      sym (back_at has part r l (omega (arith, at, h)) (ap has (sym p) ∙ above_yes (part.high - bottom) down i) (λ q a b. passed_down q (omega (arith, l)) b (omega (arith, at, h, i))))

  pub back_lacks : ((r : ℕ) → prev_from has part.low part.high ≡ Some r → r < part.low) → record { at = None; part = part } ≡ back has part
  unfolding prev_from
  back_lacks past = go (lt-or-le part.low part.high) (lt-or-le steps_down (part.high - bottom))
    where
      go : (part.low < part.high) ⊎ (part.high ≤ part.low) → (steps_down < part.high - bottom) ⊎ (part.high - bottom ≤ steps_down) → record { at = None; part = part } ≡ back has part
      go (inl h) (inl i) =
          let l = past (part.high - suc steps_down) (ap₂ (λ (s t : Bool). place (s && t) (part.high - suc steps_down)) (lt-ltb part.low part.high h) (lt-ltb steps_down (part.high - bottom) i)) in
          sym (back_none has part (λ q a b. passed_down q (omega (arith, a)) b (omega (arith, l, a, h))))
      go (inl h) (inr g) = sym (back_none has part (λ q a b. passed_down q (omega (arith, a)) b (omega (arith, a, b, g))))
      go (inr g) w = sym (back_none has part (λ q a b. absurd (omega arith)))

-- a front step gives a position, or none and the record as it was
pub front_cases : (P : Step → Type 0) (has : ℕ → Bool) (part : Part) → ((p : ℕ) → P (record { at = Some p; part = record { low = p + 1; high = part.high } }))
    → P (record { at = None; part = part }) → P (front has part)
unfolding front
front_cases P has part given lacks = go (ltb (ahead has part) (part.high - part.low))
  where
    go : (b : Bool) → P (taken b (part.low + ahead has part) (record { low = part.low + ahead has part + 1; high = part.high }) part)
    go true = given (part.low + ahead has part)
    go false = lacks
