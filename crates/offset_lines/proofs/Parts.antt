-- A number and the text behind it, read in parts of a slice. Assumes nothing.
use mathlib.Core.Path.{◌≡◌, refl, ap, ◌∙◌}
use mathlib.Core.Bool.{true, false, cond}
use mathlib.Core.Logic.{◌⊎◌, inl, inr}
use mathlib.Core.List.{List, [], ◌∷◌}
use Prim.Native.Nat.{ℕ, ◌-◌, ◌≤◌}
use native.Mathlib.Omega.{arith}
use borrow.Author.Tests.{le-ltb, leb-false}
use borrow.Author.Rules.{part_to_end}
use lib.Dec.{eqb, leb, ltb}
use lib.ListN.{length, take, drop}
use Rattle.std.specs.Prelude.{Some, None, Ok, Err}
use Rattle.offset_lines.specs.declared.entry.Fault.TheVariants.{TooLarge}
use Rattle.offset_lines.specs.Lines.{is_digit, digits_of, after_digits, value_of, starts_with, held_value, offset_of, said_of}
use Rattle.offset_lines.specs.Held.{held_offset, held_said}
use Rattle.offset_lines.specs.declared.scans.Digits.{Digits}
use Rattle.offset_lines.proofs.Texts.{yes_no}
use Rattle.offset_lines.proofs.DigitLaws.{all_read}

-- a slice from a place on
abbrev pub from : ℕ → List ℕ → List ℕ
from k text = take (length text - k) (drop k text)

pub starts_within : (these text : List ℕ) → starts_with these text ≡ true → length these ≤ length text
unfolding starts_with
starts_within [] text e = omega arith
starts_within (p ∷ these) [] e = let z : ◌≡◌ {A = ℕ} 0 1 = cc in absurd (omega arith)
starts_within (p ∷ these) (b ∷ text) e = go (yes_no (eqb p b)) (starts_within these text)
  where
    go : (eqb p b ≡ true) ⊎ (eqb p b ≡ false) → (starts_with these text ≡ true → length these ≤ length text) → length (p ∷ these) ≤ length (b ∷ text)
    go (inl h) more = let l = more (rw h at e) in omega arith
    go (inr h) more = let f = rw h at e in let z : ◌≡◌ {A = ℕ} 0 1 = cc in absurd (omega arith)

-- ---- the digits and what stands behind them

pub digits_within : (base : ℕ) (text : List ℕ) → length (digits_of base text) ≤ length text
unfolding digits_of
digits_within base [] = omega arith
digits_within base (b ∷ text) = go (yes_no (is_digit base b)) (digits_within base text)
  where
    go : (is_digit base b ≡ true) ⊎ (is_digit base b ≡ false) → length (digits_of base text) ≤ length text → length (digits_of base (b ∷ text)) ≤ length (b ∷ text)
    go (inl h) l = simp h (omega arith)
    go (inr h) l = simp h (omega arith)

pub after_is : (base : ℕ) (text : List ℕ) → drop (length (digits_of base text)) text ≡ after_digits base text
unfolding digits_of after_digits
after_is base [] = refl
after_is base (b ∷ text) = go (yes_no (is_digit base b)) (after_is base text)
  where
    go : (is_digit base b ≡ true) ⊎ (is_digit base b ≡ false) → drop (length (digits_of base text)) text ≡ after_digits base text
        → drop (length (digits_of base (b ∷ text))) (b ∷ text) ≡ after_digits base (b ∷ text)
    go (inl h) same = simp h same
    go (inr h) same = simp h

-- ---- a held value tells as much as the value

-- an offset is below 65,536
pub held_is : (v : ℕ) → held_offset (held_value v) ≡ offset_of v
unfolding held_offset held_value offset_of
held_is v = go (yes_no (leb v 65536))
  where
    go : (leb v 65536 ≡ true) ⊎ (leb v 65536 ≡ false) → held_offset (cond (leb v 65536) (Some v) None) ≡ cond (ltb v 65536) (Ok v) (Err TooLarge)
    go (inl h) = rw h refl
    go (inr h) = rw (h, le-ltb v 65536 (let l = leb-false v 65536 h in omega arith)) refl

-- ---- a number at the start of a text, with what stands behind it

module _ (base : ℕ) (text : List ℕ) (d : Digits) (r : d ≡ all_read base text) where
  pub count_within : d.count ≤ length text
  count_within = let e = ap (λ (x : Digits). x.count) r in omega (arith, e, digits_within base text)

  pub rest_is : from d.count text ≡ after_digits base text
  rest_is = part_to_end text d.count ∙ ap (λ (x : Digits). drop x.count text) r ∙ after_is base text

module _ (one many : List ℕ) (base : ℕ) (text : List ℕ) (d : Digits) (r : d ≡ all_read base text) where
  pub said_is : held_said one many d.count d.value (from d.count text)
      ≡ said_of one many (length (digits_of base text)) (value_of base (digits_of base text)) (after_digits base text)
  unfolding held_said said_of
  said_is =
      ap (λ (x : Digits). held_said one many x.count x.value (from d.count text)) r
      ∙ ap (said_of one many (length (digits_of base text)) (value_of base (digits_of base text))) (rest_is base text d r)
