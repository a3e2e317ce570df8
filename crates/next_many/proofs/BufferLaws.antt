-- What the steps to come will store in the buffer. Assumes nothing.
use mathlib.Core.Path.{◌≡◌, sym, ap, ap₂, ◌∙◌}
use mathlib.Core.Bool.{Bool, true, false}
use mathlib.Core.List.{List, [], ◌++◌, append-nil}
use Prim.Native.Nat.{ℕ, suc, ◌+◌, ◌-◌, ◌≤◌, ◌<◌}
use native.Mathlib.Nat.{add-zero}
use native.Mathlib.Omega.{arith}
use lib.ListN.{length, take, drop, set, length-set, take-append-drop}
use lib.Seq.{take-suc-set, drop-set-lt, append_snoc}
use Rattle.next_many.specs.Helpers.{stored, filled}
use Rattle.next_many.specs.Many.{front_steps}
use Rattle.next_many.proofs.ManyLaws.{steps_none, steps_at}

module _ (has : ℕ → Bool) (high n low : ℕ) (out : List ℕ) where
  nothing : stored n out (record { positions = []; part = record { low = low; high = high } }) ≡ record { count = n; low = low; out = out }
  nothing =
      ap₂ (λ (c : ℕ) (xs : List ℕ). record { count = c; low = low; out = xs }) (add-zero n)
      (ap₂ (λ (xs : List ℕ) (m : ℕ). xs ++ drop m out) (append-nil (take n out)) (add-zero n) ∙ take-append-drop n out)

  -- nothing, in a buffer that is full
  pub filled_full : length out ≤ n → filled has high n low out ≡ record { count = n; low = low; out = out }
  unfolding filled front_steps
  filled_full h =
      let e : length out - n ≡ 0 = omega arith in
      ap (λ (m : ℕ). stored n out (front_steps m has (record { low = low; high = high }))) e ∙ nothing

  -- nothing, of a part that is over
  pub filled_over : ((p : ℕ) → low ≤ p → p < high → has p ≡ false) → filled has high n low out ≡ record { count = n; low = low; out = out }
  unfolding filled
  filled_over zs = ap (stored n out) (steps_none has (record { low = low; high = high }) zs (length out - n)) ∙ nothing

  -- the next position, and what the steps after it will store
  pub filled_more : (p : ℕ) → low ≤ p → p < high → has p ≡ true → ((q : ℕ) → low ≤ q → q < p → has q ≡ false) → n < length out
      → filled has high n low out ≡ filled has high (n + 1) (p + 1) (set out n p)
  unfolding filled
  filled_more p a b y zs l =
      let m = length out - suc n in
      let later = front_steps m has (record { low = p + 1; high = high }) in
      let ps = later.positions in
      let len : length out - n ≡ suc m = omega arith in
      let left : length (set out n p) - (n + 1) ≡ m = omega (arith, length-set out n p) in
      let size : n + suc (length ps) ≡ n + 1 + length ps = omega arith in
      let one : n + 1 ≡ suc n = omega arith in
      ap (λ (i : ℕ). stored n out (front_steps i has (record { low = low; high = high }))) len
      ∙ ap (stored n out) (steps_at has (record { low = low; high = high }) p a b y zs m)
      ∙ ap₂ (λ (c : ℕ) (xs : List ℕ). record { count = c; low = later.part.low; out = xs }) size
      (ap₂ (λ (xs ys : List ℕ). xs ++ ys)
      (sym (ap (λ (i : ℕ). take i (set out n p) ++ ps) one ∙ ap (λ (xs : List ℕ). xs ++ ps) (take-suc-set out n p l) ∙ append_snoc (take n out) p ps))
      (ap (λ (i : ℕ). drop i out) size ∙ sym (drop-set-lt (n + 1 + length ps) out n p (omega arith))))
      ∙ sym (ap (λ (i : ℕ). stored (n + 1) (set out n p) (front_steps i has (record { low = p + 1; high = high }))) left)
