-- A loop that stores word k, then goes on to k + 1, from `first` up. Assumes nothing.
use mathlib.Core.Path.{◌≡◌, refl, sym, ap, ◌∙◌}
use mathlib.Core.Bool.{Bool, false, cond}
use mathlib.Core.List.{List}
use mathlib.Core.Logic.{◌⊎◌, inl, inr}
use Prim.Native.Nat.{ℕ, ◌+◌, ◌≤◌, ◌<◌, min, max}
use native.Mathlib.Omega.{arith}
use lib.ListN.{length, get_or, set, length-set}
use lib.Seq.{get_or-set_same, get_or-set_other}
use Rattle.word_bits.proofs.Order.{lt-or-le}
use Rattle.masks.specs.Ranges.{covers}
use Rattle.blocks.specs.Sweeps.{swept}
use Rattle.blocks.proofs.BlockLaws.{swept_is}
use Rattle.masks.proofs.RangeLaws.{covers-yes, covers_below, covers_above, covers_agree}

-- ws₀ with g i stored at each i of first..k
pub record Stored (first k : ℕ) (g : ℕ → ℕ) (ws₀ ws : List ℕ) : Type 0 where
  pub same : length ws ≡ length ws₀
  pub at : (i : ℕ) → get_or ws i 0 ≡ cond (covers first k i) (g i) (get_or ws₀ i 0)

pub stored-none : (k : ℕ) (g : ℕ → ℕ) (ws : List ℕ) → Stored k k g ws ws
stored-none k g ws = record { same = refl; at = λ i. sym (ap (λ (t : Bool). cond t (g i) (get_or ws i 0)) (go i (lt-or-le i k))) }
  where
    go : (i : ℕ) → (i < k) ⊎ (k ≤ i) → covers k k i ≡ false
    go i (inl l) = covers_below k k i l
    go i (inr h) = covers_above k k i h

module _ (first k : ℕ) (g : ℕ → ℕ) (ws₀ ws : List ℕ) (st : Stored first k g ws₀ ws) where
  -- what stands from k up, and below first, is as it was
  pub stored_rest : (i : ℕ) → k ≤ i → get_or ws i 0 ≡ get_or ws₀ i 0
  stored_rest i h = st.at i ∙ ap (λ (t : Bool). cond t (g i) (get_or ws₀ i 0)) (covers_above first k i h)

  pub stored_more : (v : ℕ) → first ≤ k → k < length ws₀ → v ≡ g k → Stored first (k + 1) g ws₀ (set ws k v)
  stored_more v f h e = record { same = length-set ws k v ∙ st.same; at = λ i. go i (lt-or-le i k) (lt-or-le k i) }
    where
      here : (i : ℕ) → covers first k i ≡ covers first (k + 1) i → (i ≡ k → ⊥)
          → get_or (set ws k v) i 0 ≡ cond (covers first (k + 1) i) (g i) (get_or ws₀ i 0)
      here i c n = get_or-set_other ws k i v 0 n ∙ st.at i ∙ ap (λ (t : Bool). cond t (g i) (get_or ws₀ i 0)) c

      go : (i : ℕ) → (i < k) ⊎ (k ≤ i) → (k < i) ⊎ (i ≤ k) → get_or (set ws k v) i 0 ≡ cond (covers first (k + 1) i) (g i) (get_or ws₀ i 0)
      go i (inl l) w = here i (covers_agree first k (k + 1) i (λ a b. omega arith) (λ a b. l)) (λ q. omega arith)
      go i (inr a) (inl b) = here i (covers_agree first k (k + 1) i (λ x y. omega arith) (λ x y. absurd (omega arith))) (λ q. omega arith)
      go i (inr a) (inr b) =
          let same : i ≡ k = omega arith in
          rw same
          (get_or-set_same ws k v 0 (rw st.same h) ∙ e
          ∙ sym (ap (λ (t : Bool). cond t (g k) (get_or ws₀ k 0)) (covers-yes first (k + 1) k f (omega arith))))

-- the loop ends at the last word that the range and the list have
pub stored-swept : (first k end : ℕ) (f : ℕ → ℕ → ℕ) (ws₀ ws : List ℕ) → Stored first k (λ i. f i (get_or ws₀ i 0)) ws₀ ws
    → first ≤ k → min end (length ws₀) ≤ k → k ≤ max first (min end (length ws₀)) → ws ≡ swept first end f ws₀
stored-swept first k end f ws₀ ws st a b c =
    swept_is first end f ws ws₀ st.same
    (λ i h. st.at i
    ∙ ap (λ (t : Bool). cond t (f i (get_or ws₀ i 0)) (get_or ws₀ i 0)) (covers_agree first k end i (λ x y. omega arith) (λ x y. omega arith)))
