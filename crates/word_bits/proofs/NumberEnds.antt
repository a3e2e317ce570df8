-- The language's counts of zeros at the ends of a number are those over its digits. Assumes nothing.
use Rattle.std.proofs.Common.{◌≡◌, ℕ, zero, suc, ◌/◌, ◌%◌, ◌^◌, ◌<◌, ◌≤◌, Bool, true, false, cond, eqb, ◌⊎◌, sym, refl, ap, ◌∙◌, ap₂, inl, inr, eq-zero-or-pos, pow-suc, arith}
use mathlib.Core.Path.{fun_ext}
use native.Mathlib.Nat.{div-eq_of_lt-le}
use lib.Count.{count_leading_zeros, count_trailing_zeros, under, leading_of_zero, leading_top}
use Rattle.word_bits.specs.Digits.{digit, one}
use Rattle.word_bits.specs.Counts.{zeros_below, zeros_above}
use Rattle.word_bits.proofs.Digits.{digit-suc, digit_of_zero, digit_above, low_bit}
use Rattle.word_bits.proofs.Ends.{above_at, above_none}

under_cond : (b : Bool) (t : ℕ) → under (one b) t ≡ cond b 0 (suc t)
under_cond true t = refl
under_cond false t = refl

pub trailing_below : (n x : ℕ) → count_trailing_zeros n x ≡ zeros_below n (digit x)
unfolding count_trailing_zeros zeros_below
trailing_below zero x = refl
trailing_below (suc n) x =
    ap₂ under (low_bit x) (trailing_below n (x / 2)) ∙ under_cond (digit x 0) (zeros_below n (digit (x / 2)))
    ∙ ap (λ (f : ℕ → Bool). cond (digit x 0) 0 (suc (zeros_below n f))) (sym (fun_ext (digit-suc x)))

-- the highest digit of a number from 2 ^ i up and below 2 ^ (i + 1) is digit i
top_digit : (i x : ℕ) → 2 ^ i ≤ x → x < 2 ^ suc i → digit x i ≡ true
unfolding digit
top_digit i x l h =
    let q : x / 2 ^ i ≡ 1 = div-eq_of_lt-le (2 ^ i) (omega arith) (omega (arith, pow-suc 2 i)) in
    ap (λ (y : ℕ). eqb (y % 2) 1) q

pub leading_above : (n x : ℕ) → x < 2 ^ n → count_leading_zeros n x ≡ zeros_above n (digit x)
leading_above n x h = go (eq-zero-or-pos x)
  where
    go : (x ≡ 0) ⊎ (0 < x) → count_leading_zeros n x ≡ zeros_above n (digit x)
    go (inl e) =
        ap (count_leading_zeros n) e ∙ leading_of_zero n
        ∙ sym (above_none n (digit x) (λ j l. ap (λ (y : ℕ). digit y j) e ∙ digit_of_zero j))
    go (inr p) =
        let top = leading_top n x p h in
        let at = above_at n (digit x) top.0 (omega (arith, top.1)) (top_digit top.0 x top.2 top.3)
        (λ j a b. digit_above (suc top.0) x j top.3 a) in
        omega (arith, top.1, at)
