-- The digits that a text starts with, their number and their value, capped. Assumes nothing.
use mathlib.Core.Path.{◌≡◌, refl, sym, ap, ◌∙◌}
use mathlib.Core.Bool.{Bool, true, false, cond}
use mathlib.Core.Logic.{◌⊎◌, inl, inr}
use mathlib.Core.List.{List, [], ◌∷◌}
use Prim.Native.Nat.{ℕ, suc, ◌+◌, ◌*◌, ◌^◌, ◌≤◌, ◌<◌, min}
use native.Mathlib.Nat.{pow-zero, pow-succ', mul_assoc, add-mul, mul-zero, eq-zero-or-pos, le-mul_of_pos_right}
use native.Mathlib.Omega.{arith}
use borrow.Author.Tests.{leb-true, leb-false, lt-leb, ltb-true, ltb-false}
use lib.Dec.{leb, ltb}
use lib.ListN.{length, get_or, drop, drop_of_length-le}
use Rattle.std.specs.Prelude.{Option, Some, None}
use Rattle.std.specs.Bool.{then_some}
use Rattle.std.proofs.lemmas.Option.{none-some, same_Some}
use Rattle.offset_lines.specs.Lines.{is_digit, digit_value, digits_of, value_of, held_value}
use Rattle.offset_lines.specs.declared.scans.Digits.{Digits}
use Rattle.offset_lines.proofs.Texts.{yes_no, at_next}

-- ---- the value with one digit more

value_more : (base v d : ℕ) (bs : List ℕ) → (v * base + d) * base ^ length bs + value_of base bs ≡ v * base ^ suc (length bs) + (d * base ^ length bs + value_of base bs)
value_more base v d bs =
    let p : v * base ^ suc (length bs) ≡ v * base * base ^ length bs = ap (λ (x : ℕ). v * x) (pow-succ' base (length bs)) ∙ sym (mul_assoc v base (base ^ length bs)) in
    let q = add-mul (v * base) d (base ^ length bs) in
    omega (arith, p, q)

-- a value above the cap is as good as the cap
capped_more : (x p w : ℕ) → min 65537 (min 65537 x * p + w) ≡ min 65537 (x * p + w)
capped_more x p w = go (yes_no (ltb x 65537)) (eq-zero-or-pos p)
  where
    go : (ltb x 65537 ≡ true) ⊎ (ltb x 65537 ≡ false) → (p ≡ 0) ⊎ (0 < p) → min 65537 (min 65537 x * p + w) ≡ min 65537 (x * p + w)
    go (inl l) z =
        let l = ltb-true x 65537 l in
        let e : min 65537 x ≡ x = omega arith in
        ap (λ (y : ℕ). min 65537 (y * p + w)) e
    go (inr l) (inl z) = rw (z, mul-zero, mul-zero)
    go (inr l) (inr z) =
        let l = ltb-false x 65537 l in
        let e : min 65537 x ≡ 65537 = omega arith in
        omega (arith, e, le-mul_of_pos_right x z, le-mul_of_pos_right (min 65537 x) z)

-- ---- a value is held up to 65,536

pub some_held : (v : ℕ) → then_some (leb v 65536) v ≡ held_value v
unfolding held_value
some_held v = go (leb v 65536)
  where
    go : (t : Bool) → then_some t v ≡ cond t (Some v) None
    go true = refl
    go false = refl

held_capped : (v : ℕ) → held_value (min 65537 v) ≡ held_value v
unfolding held_value
held_capped v = go (yes_no (leb v 65536))
  where
    go : (leb v 65536 ≡ true) ⊎ (leb v 65536 ≡ false) → cond (leb (min 65537 v) 65536) (Some (min 65537 v)) None ≡ cond (leb v 65536) (Some v) None
    go (inl h) = let l = leb-true v 65536 h in let m : min 65537 v ≡ v = omega arith in rw m refl
    go (inr h) = let l = leb-false v 65536 h in rw (h, lt-leb (min 65537 v) 65536 (omega arith)) refl

-- one digit, or none
pub digit_some : (base b d : ℕ) → cond (is_digit base b) (Some (digit_value b)) None ≡ Some d → (is_digit base b ≡ true) × (digit_value b ≡ d)
digit_some base b d e = go (yes_no (is_digit base b))
  where
    go : (is_digit base b ≡ true) ⊎ (is_digit base b ≡ false) → (is_digit base b ≡ true) × (digit_value b ≡ d)
    go (inl h) = (h, same_Some _ _ (rw h at e))
    go (inr h) = absurd (none-some d (rw h at e))

pub digit_none : (base b : ℕ) → cond (is_digit base b) (Some (digit_value b)) None ≡ None → is_digit base b ≡ false
digit_none base b e = go (yes_no (is_digit base b))
  where
    go : (is_digit base b ≡ true) ⊎ (is_digit base b ≡ false) → is_digit base b ≡ false
    go (inl h) = absurd (none-some (digit_value b) (sym (rw h at e)))
    go (inr h) = h

-- ---- the loop

abbrev pub all_read : ℕ → List ℕ → Digits
all_read base text = record { count = length (digits_of base text); value = held_value (value_of base (digits_of base text)) }

-- so many digits of such a value are read

pub record Read (base : ℕ) (text : List ℕ) (count value : ℕ) : Type 0 where
  pub within : count ≤ length text
  pub small : value ≤ 65537
  pub counted : count + length (digits_of base (drop count text)) ≡ length (digits_of base text)
  pub valued : min 65537 (value * base ^ length (digits_of base (drop count text)) + value_of base (digits_of base (drop count text)))
      ≡ min 65537 (value_of base (digits_of base text))

pub read_start : (base : ℕ) (text : List ℕ) → Read base text 0 0
read_start base text = record { within = omega arith; small = omega arith; counted = omega arith; valued = simp native.Mathlib.Nat.zero-mul (ap (min 65537) (omega arith)) }

module _ {base : ℕ} {text : List ℕ} {count value : ℕ} (r : Read base text count value) where
  -- one digit more
  pub read_next : count < length text → is_digit base (get_or text count 0) ≡ true
      → Read base text (count + 1) (min 65537 (value * base + digit_value (get_or text count 0)))
  unfolding digits_of value_of
  read_next l h =
      let b = get_or text count 0 in
      let ds = digits_of base (drop (count + 1) text) in
      let e : digits_of base (drop count text) ≡ b ∷ ds = simp (at_next text count l, h) in
      let n : count + suc (length ds) ≡ length (digits_of base text) = ap (λ (xs : List ℕ). count + length xs) (sym e) ∙ r.counted in
      record {
        within = omega arith;
        small = omega arith;
        counted = omega (arith, n);
        valued =
            capped_more (value * base + digit_value b) (base ^ length ds) (value_of base ds) ∙ ap (min 65537) (value_more base value (digit_value b) ds)
            ∙ ap (λ (xs : List ℕ). min 65537 (value * base ^ length xs + value_of base xs)) (sym e) ∙ r.valued;
      }

  -- where no digit is left, they are all read
  module _ (none : digits_of base (drop count text) ≡ []) where
    count_all : count ≡ length (digits_of base text)
    count_all = let n : count + 0 ≡ length (digits_of base text) = ap (λ (xs : List ℕ). count + length xs) (sym none) ∙ r.counted in omega (arith, n)

    value_all : value ≡ min 65537 (value_of base (digits_of base text))
    unfolding value_of
    value_all =
        let v : min 65537 (value * 1 + 0) ≡ min 65537 (value_of base (digits_of base text)) =
        rw pow-zero at (ap (λ (xs : List ℕ). min 65537 (value * base ^ length xs + value_of base xs)) (sym none) ∙ r.valued) in
        let s = r.small in
        omega (arith, v)

    pub read_as : (held : Option ℕ) → held ≡ held_value value → record { count = count; value = held } ≡ all_read base text
    read_as held h = rw (sym count_all, h ∙ ap held_value value_all ∙ held_capped (value_of base (digits_of base text))) refl

  pub none-not : count < length text → is_digit base (get_or text count 0) ≡ false → digits_of base (drop count text) ≡ []
  unfolding digits_of
  none-not l h = simp (at_next text count l, h)

  pub none_end : length text ≤ count → digits_of base (drop count text) ≡ []
  unfolding digits_of
  none_end l = rw (drop_of_length-le text l)
