-- What the words of two slices tell of their bits. Assumes nothing.
use mathlib.Core.Path.{◌≡◌, sym, ap, ap₂, ◌∙◌}
use mathlib.Core.Bool.{Bool, true, false, not, ◌&&◌, and-false}
use mathlib.Core.List.{List}
use mathlib.Core.Logic.{◌⊎◌, inl, inr}
use Prim.Native.Nat.{ℕ, ◌+◌, ◌*◌, ◌/◌, ◌%◌, ◌≤◌, ◌<◌, min}
use native.Mathlib.Nat.{div-add-mod'}
use native.Mathlib.Omega.{arith}
use borrow.Author.Tests.{le-leb, lt-leb}
use lib.Dec.{leb, lit<}
use lib.ListN.{length, get_or, get_or-eq_default}
use Rattle.word_bits.specs.Counts.{some, zeros_below}
use Rattle.word_bits.specs.Digits.{digit}
use Rattle.word_bits.proofs.Digits.{digit_of_zero}
use Rattle.word_bits.proofs.Ends.{below_lt, below_yes}
use Rattle.word_bits.proofs.Order.{lt-or-le}
use Rattle.word_bits.proofs.Quantifiers.{some-yes, some_no}
use Rattle.sets.specs.Members.{bit_of}
use Rattle.sets.proofs.WordLaws.{bit_at}
use Rattle.tests.proofs.ScanLaws.{first_other, scan_before, scan_stop}
use Rattle.operations.specs.Operations.{joined, joined_word}
use Rattle.operations.specs.declared.operation.Operation.{Operation}
use Rattle.operations.specs.declared.operation.Operation.TheVariants.{Intersection, Difference}
use Rattle.operations.proofs.BlockJoins.{Words}
use Rattle.operations.proofs.WordJoins.{joined-digit, joined-lt, joined_is, first_alone}
use Rattle.comparisons.specs.Helpers.{FirstAt}

-- the bits of the join of two rows of words
abbrev pub joined_row : Operation → List ℕ → List ℕ → ℕ → Bool
joined_row op ws vs p = joined op (bit_of ws p) (bit_of vs p)

-- word k of the join
abbrev pub word_at : Operation → List ℕ → List ℕ → ℕ → ℕ
word_at op ws vs k = joined_word op (get_or ws k 0) (get_or vs k 0)

-- where one has no word
second_gone : (a : ℕ) → 0 ≡ joined_word Intersection a 0
second_gone a = joined_is Intersection a 0 0 (lit< tt) (λ j l. digit_of_zero j ∙ sym (ap (λ (t : Bool). digit a j && t) (digit_of_zero j) ∙ and-false (digit a j)))

first_gone : (b : ℕ) → 0 ≡ joined_word Difference 0 b
first_gone b = joined_is Difference 0 b 0 (lit< tt) (λ j l. digit_of_zero j ∙ sym (ap (λ (t : Bool). t && not (digit b j)) (digit_of_zero j)))

module _ (op : Operation) (ws vs : List ℕ) where
  digit_at : (k j : ℕ) → j < 64 → digit (word_at op ws vs k) j ≡ joined_row op ws vs (k * 64 + j)
  digit_at k j l = joined-digit op (get_or ws k 0) (get_or vs k 0) j l ∙ ap₂ (joined op) (sym (bit_at ws k j l)) (sym (bit_at vs k j l))

  some_word : (end k : ℕ) → k < end → (word_at op ws vs k ≡ 0 → ⊥) → some (end * 64) (joined_row op ws vs) ≡ true
  some_word end k h n =
      let w : ℕ = word_at op ws vs k in
      let low = below_lt 64 w (omega (arith, n)) (joined-lt op (get_or ws k 0) (get_or vs k 0)) in
      let place : ℕ = k * 64 + zeros_below 64 (digit w) in
      some-yes (end * 64) (joined_row op ws vs) place (omega (arith, h, low)) (sym (digit_at k (zeros_below 64 (digit w)) low) ∙ below_yes 64 (digit w) low)

  no_word : (end : ℕ) → ((k : ℕ) → k < end → word_at op ws vs k ≡ 0) → some (end * 64) (joined_row op ws vs) ≡ false
  no_word end zs =
      some_no (end * 64) (joined_row op ws vs)
      (λ p l. ap (joined_row op ws vs) (sym (div-add-mod' p 64)) ∙ sym (digit_at (p / 64) (p % 64) (omega arith))
      ∙ ap (λ (x : ℕ). digit x (p % 64)) (zs (p / 64) (omega arith)) ∙ digit_of_zero (p % 64))

module _ (ws vs : List ℕ) (r : ℕ) where
  pub search_stops : (op : Operation) → FirstAt (word_at op ws vs) (min (length ws) (length vs)) r → r < min (length ws) (length vs) → some (length ws * 64) (joined_row op ws vs) ≡ true
  search_stops op f l = some_word op ws vs (length ws) r (omega arith) (f.stop l)

  pub disjoint_words : FirstAt (word_at Intersection ws vs) (min (length ws) (length vs)) r
      → leb (min (length ws) (length vs)) r ≡ not (some (length ws * 64) (joined_row Intersection ws vs))
  disjoint_words f = go (lt-or-le r (min (length ws) (length vs)))
    where
      zero : (k : ℕ) → k < length ws → min (length ws) (length vs) ≤ r → (k < r) ⊎ (r ≤ k) → word_at Intersection ws vs k ≡ 0
      zero k l h (inl m) = f.before k m
      zero k l h (inr m) = ap (joined_word Intersection (get_or ws k 0)) (get_or-eq_default vs 0 (omega arith)) ∙ sym (second_gone (get_or ws k 0))

      go : (r < min (length ws) (length vs)) ⊎ (min (length ws) (length vs) ≤ r) → leb (min (length ws) (length vs)) r ≡ not (some (length ws * 64) (joined_row Intersection ws vs))
      go (inl l) = lt-leb (min (length ws) (length vs)) r l ∙ ap not (sym (search_stops Intersection f l))
      go (inr h) = le-leb (min (length ws) (length vs)) r h ∙ ap not (sym (no_word Intersection ws vs (length ws) (λ k l. zero k l h (lt-or-le k r))))

  -- past the words of both, t is the first word of the first that is not 0
  pub subset_words : Words ws → FirstAt (word_at Difference ws vs) (min (length ws) (length vs)) r
      → (t : ℕ) → min (length ws) (length vs) ≤ r → t ≡ first_other (λ k. get_or ws k 0) (min (length ws) (length vs)) (length ws) 0
      → leb (length ws) t ≡ not (some (length ws * 64) (joined_row Difference ws vs))
  subset_words fw f t h e = go (lt-or-le t (length ws))
    where
      zero : (k : ℕ) → k < length ws → length ws ≤ t → (k < min (length ws) (length vs)) ⊎ (min (length ws) (length vs) ≤ k) → word_at Difference ws vs k ≡ 0
      zero k l u (inl m) = f.before k (omega arith)
      zero k l u (inr m) =
          ap (λ (x : ℕ). joined_word Difference x (get_or vs k 0)) (scan_before (λ i. get_or ws i 0) (min (length ws) (length vs)) (length ws) 0 t e k m (omega arith))
          ∙ sym (first_gone (get_or vs k 0))

      go : (t < length ws) ⊎ (length ws ≤ t) → leb (length ws) t ≡ not (some (length ws * 64) (joined_row Difference ws vs))
      go (inl l) =
          let past : get_or vs t 0 ≡ 0 = get_or-eq_default vs 0 (omega (arith, e)) in
          lt-leb (length ws) t l
          ∙ ap not (sym (some_word Difference ws vs (length ws) t l
          (λ z. scan_stop (λ i. get_or ws i 0) (min (length ws) (length vs)) (length ws) 0 t e l
          (first_alone Difference (get_or ws t 0) (fw.fits t) ∙ ap (joined_word Difference (get_or ws t 0)) (sym past) ∙ z))))
      go (inr u) =
          le-leb (length ws) t u
          ∙ ap not (sym (no_word Difference ws vs (length ws) (λ k l. zero k l u (lt-or-le k (min (length ws) (length vs))))))
