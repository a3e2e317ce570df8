-- The three parts of a join in place, and a join into a third buffer. Assumes nothing.
use mathlib.Core.Path.{◌≡◌, sym, ap, ap₂, ◌∙◌}
use mathlib.Core.Bool.{Bool, cond}
use mathlib.Core.List.{List}
use mathlib.Core.Logic.{◌⊎◌, inl, inr}
use Prim.Native.Nat.{ℕ, ◌≤◌, ◌<◌, min, max}
use native.Mathlib.Omega.{arith}
use lib.ListN.{length, get_or}
use Rattle.word_bits.proofs.Order.{lt-or-le}
use Rattle.masks.specs.Ranges.{covers}
use Rattle.masks.proofs.RangeLaws.{covers-yes, covers_above}
use Rattle.blocks.specs.Sweeps.{swept}
use Rattle.blocks.proofs.BlockLaws.{length-swept, swept_in, swept_out, swept_is}
use Rattle.operations.specs.Operations.{joined_word, padded}
use Rattle.operations.specs.declared.operation.Operation.{Operation}
use Rattle.operations.proofs.BlockJoins.{padded_in, padded_out, three_sweeps}

module _ (op : Operation) (blocks others total : ℕ) (ws vs : List ℕ) where
  -- word k of the result
  abbrev pub target : ℕ → ℕ
  target k = joined_word op (padded blocks ws k) (padded others vs k)

  both_have : (k : ℕ) → k < blocks → k < others → joined_word op (get_or ws k 0) (get_or vs k 0) ≡ target k
  both_have k a b = ap₂ (joined_word op) (sym (padded_in blocks ws k a)) (sym (padded_in others vs k b))

  first_has : (k : ℕ) → k < blocks → others ≤ k → joined_word op (get_or ws k 0) 0 ≡ target k
  first_has k a b = ap₂ (joined_word op) (sym (padded_in blocks ws k a)) (sym (padded_out others vs k b))

  second_has : (k : ℕ) → blocks ≤ k → k < others → joined_word op 0 (get_or vs k 0) ≡ target k
  second_has k a b = ap₂ (joined_word op) (sym (padded_out blocks ws k a)) (sym (padded_in others vs k b))

  module _ (below : total ≤ max blocks others) (hb : others ≤ length vs) where
    pub joined_in_place : blocks ≤ total → total ≤ length ws
        → swept blocks (min total (length vs)) (λ k w. joined_word op 0 (get_or vs k 0))
        (swept (min blocks others) blocks (λ k w. joined_word op w 0)
        (swept 0 (min (min blocks others) (length vs)) (λ k w. joined_word op w (get_or vs k 0)) ws))
        ≡ swept 0 total (λ k w. target k) ws
    joined_in_place le room =
        let same : min (min blocks others) (length vs) ≡ min blocks others = omega arith in
        rw same
        (three_sweeps (min blocks others) blocks blocks (min total (length vs)) total
        (λ k w. joined_word op w (get_or vs k 0)) (λ k w. joined_word op w 0) (λ k w. joined_word op 0 (get_or vs k 0)) target ws
        room (omega arith) (omega arith) (omega arith) le (omega arith) (λ i a b d. (omega arith, omega arith))
        (λ i a. both_have i (omega arith) (omega arith)) (λ i a b. first_has i b (omega arith)) (λ i a b. second_has i a (omega arith)))

  -- the first words copied, then joined in place
  pub joined_into : (out : List ℕ) → total ≤ length out → blocks ≤ length ws
      → swept 0 total (λ k w. joined_word op (padded (min blocks total) (swept 0 (min (min blocks total) (length ws)) (λ k w. get_or ws k 0) out) k) (padded others vs k))
      (swept 0 (min (min blocks total) (length ws)) (λ k w. get_or ws k 0) out)
      ≡ swept 0 total (λ k w. target k) out
  joined_into out room ha =
      swept_is 0 total (λ k w. target k) (swept 0 total f one) out
      (length-swept 0 total f one ∙ len) (λ i h. go i h (lt-or-le i total) (lt-or-le i (min blocks total)))
    where
      copied : ℕ
      copied = min (min blocks total) (length ws)

      one : List ℕ
      one = swept 0 copied (λ k w. get_or ws k 0) out

      f : ℕ → ℕ → ℕ
      f k w = joined_word op (padded (min blocks total) one k) (padded others vs k)

      len : length one ≡ length out
      len = length-swept 0 copied (λ k w. get_or ws k 0) out

      first : (i : ℕ) → i < total → (i < min blocks total) ⊎ (min blocks total ≤ i) → padded (min blocks total) one i ≡ padded blocks ws i
      first i h (inl l) =
          padded_in (min blocks total) one i l ∙ swept_in 0 copied (λ k w. get_or ws k 0) out i (omega arith) (omega arith) (omega arith)
          ∙ sym (padded_in blocks ws i (omega arith))
      first i h (inr g) = padded_out (min blocks total) one i g ∙ sym (padded_out blocks ws i (omega arith))

      go : (i : ℕ) → i < length out → (i < total) ⊎ (total ≤ i) → (i < min blocks total) ⊎ (min blocks total ≤ i)
          → get_or (swept 0 total f one) i 0 ≡ cond (covers 0 total i) (target i) (get_or out i 0)
      go i h (inl l) s =
          swept_in 0 total f one i (rw len h) (omega arith) l ∙ ap (λ (x : ℕ). joined_word op x (padded others vs i)) (first i l s)
          ∙ sym (ap (λ (b : Bool). cond b (target i) (get_or out i 0)) (covers-yes 0 total i (omega arith) l))
      go i h (inr g) s =
          swept_out 0 total f one i (covers_above 0 total i g) ∙ swept_out 0 copied (λ k w. get_or ws k 0) out i (covers_above 0 copied i (omega arith))
          ∙ sym (ap (λ (b : Bool). cond b (target i) (get_or out i 0)) (covers_above 0 total i g))
