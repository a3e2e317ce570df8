-- The word that a search over words stops at. Assumes nothing.
use mathlib.Core.Path.{◌≡◌, sym, ap, ◌∙◌}
use mathlib.Core.Bool.{Bool, true, false, not}
use mathlib.Core.Logic.{◌⊎◌, inl, inr}
use Prim.Native.Nat.{ℕ, suc, ◌+◌, ◌-◌, ◌≤◌, ◌<◌, min}
use native.Mathlib.Nat.{add-sub_of_le}
use native.Mathlib.Omega.{arith}
use borrow.Author.Tests.{eq-eqb, ne_eqb, eqb-true, eqb-false, not-true, not-false}
use lib.Dec.{eqb}
use Rattle.word_bits.specs.Counts.{zeros_below, zeros_above}
use Rattle.word_bits.proofs.Ends.{below_at, below_none, below_no, below_yes, above_at, above_none, above_no, above_yes, above_le}
use Rattle.word_bits.proofs.Order.{lt-or-le}

-- word i is not `skip`
abbrev pub other : (ℕ → ℕ) → ℕ → ℕ → Bool
other g skip i = not (eqb (g i) skip)

is_other : (g : ℕ → ℕ) (skip i : ℕ) → (g i ≡ skip → ⊥) → other g skip i ≡ true
is_other g skip i h = ap not (ne_eqb (g i) skip h)

not-other : (g : ℕ → ℕ) (skip i : ℕ) → g i ≡ skip → other g skip i ≡ false
not-other g skip i h = ap not (eq-eqb (g i) skip h)

same_of : (g : ℕ → ℕ) (skip i : ℕ) → other g skip i ≡ false → g i ≡ skip
same_of g skip i h = eqb-true (g i) skip (not-false (eqb (g i) skip) h)

differ_of : (g : ℕ → ℕ) (skip i : ℕ) → other g skip i ≡ true → g i ≡ skip → ⊥
differ_of g skip i h = eqb-false (g i) skip (not-true (eqb (g i) skip) h)

-- ---- from below

-- the first of first..end that is not `skip`: the end where there is none
abbrev pub first_other : (ℕ → ℕ) → ℕ → ℕ → ℕ → ℕ
first_other g first end skip = first + zeros_below (end - first) (λ i. other g skip (first + i))

-- one word more
pub more : (g : ℕ → ℕ) (first k skip : ℕ) → ((i : ℕ) → first ≤ i → i < k → g i ≡ skip) → g k ≡ skip → (i : ℕ) → first ≤ i → i < k + 1 → g i ≡ skip
more g first k skip zs e i a b = go (lt-or-le i k)
  where
    go : (i < k) ⊎ (k ≤ i) → g i ≡ skip
    go (inl l) = zs i a l
    go (inr h) = let same : i ≡ k = omega arith in ap g same ∙ e

module _ (g : ℕ → ℕ) (first end skip : ℕ) where
  -- an end below `first` too
  pub scan_none : ((i : ℕ) → first ≤ i → i < end → g i ≡ skip) → first_other g first end skip ≡ first + (end - first)
  scan_none zs =
      ap (λ (x : ℕ). first + x)
      (below_none (end - first) (λ i. other g skip (first + i)) (λ j l. not-other g skip (first + j) (zs (first + j) (omega arith) (omega arith))))

  pub scan_all : first ≤ end → ((i : ℕ) → first ≤ i → i < end → g i ≡ skip) → first_other g first end skip ≡ end
  scan_all h zs = scan_none zs ∙ add-sub_of_le h

  pub scan_at : (k : ℕ) → first ≤ k → k < end → (g k ≡ skip → ⊥) → ((i : ℕ) → first ≤ i → i < k → g i ≡ skip) → first_other g first end skip ≡ k
  scan_at k a b n zs =
      ap (λ (x : ℕ). first + x)
      (below_at (end - first) (λ i. other g skip (first + i)) (k - first) (omega arith)
      (rw (add-sub_of_le a) (is_other g skip k n))
      (λ j l. not-other g skip (first + j) (zs (first + j) (omega arith) (omega arith))))
      ∙ add-sub_of_le a

  -- a row of n words holds the words below `end`
  pub scan_whole : {n r : ℕ} → end ≤ n → r ≡ first_other g first (min end n) skip → r ≡ first_other g first end skip
  scan_whole {n} h e = let m : min end n ≡ end = omega arith in e ∙ ap (λ (x : ℕ). first_other g first x skip) m

  module _ (r : ℕ) (e : r ≡ first_other g first end skip) where
    pub scan_before : (i : ℕ) → first ≤ i → i < r → g i ≡ skip
    scan_before i a b =
        let z = below_no (end - first) (λ i. other g skip (first + i)) (i - first) (omega arith) in
        same_of g skip i (ap (other g skip) (sym (add-sub_of_le a)) ∙ z)

    pub scan_stop : r < end → g r ≡ skip → ⊥
    scan_stop h = differ_of g skip r (ap (other g skip) e ∙ below_yes (end - first) (λ i. other g skip (first + i)) (omega arith))

-- ---- from above

-- one above the last of 0..end that is not `skip`: 0 where there is none
abbrev pub above_last : (ℕ → ℕ) → ℕ → ℕ → ℕ
above_last g end skip = end - zeros_above end (other g skip)

-- one word more
pub less : (g : ℕ → ℕ) (k end skip : ℕ) → ((i : ℕ) → k ≤ i → i < end → g i ≡ skip) → (k ≡ 0 → ⊥) → g (k - 1) ≡ skip → (i : ℕ) → k - 1 ≤ i → i < end → g i ≡ skip
less g k end skip zs n e i a b = go (lt-or-le i k)
  where
    go : (i < k) ⊎ (k ≤ i) → g i ≡ skip
    go (inl l) = let same : i ≡ k - 1 = omega arith in ap g same ∙ e
    go (inr h) = zs i h b

module _ (g : ℕ → ℕ) (end skip : ℕ) where
  pub descend_all : ((i : ℕ) → i < end → g i ≡ skip) → above_last g end skip ≡ 0
  descend_all zs =
      let z = above_none end (other g skip) (λ j l. not-other g skip j (zs j l)) in
      omega (arith, z)

  pub descend_at : (k : ℕ) → k < end → (g k ≡ skip → ⊥) → ((i : ℕ) → k < i → i < end → g i ≡ skip) → above_last g end skip ≡ k + 1
  descend_at k h n zs =
      let z = above_at end (other g skip) k h (is_other g skip k n) (λ j a b. not-other g skip j (zs j a b)) in
      omega (arith, z)

  module _ (r : ℕ) (e : r ≡ above_last g end skip) where
    pub descend_after : (i : ℕ) → r ≤ i → i < end → g i ≡ skip
    descend_after i a b = same_of g skip i (above_no end (other g skip) i b (omega (arith, above_le end (other g skip))))

    pub descend_stop : (r ≡ 0 → ⊥) → g (r - 1) ≡ skip → ⊥
    descend_stop n =
        let z = above_yes end (other g skip) (omega (arith, above_le end (other g skip))) in
        let s : r - 1 ≡ end - suc (zeros_above end (other g skip)) = omega (arith, above_le end (other g skip)) in
        differ_of g skip (r - 1) (ap (other g skip) s ∙ z)
