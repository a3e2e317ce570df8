-- Words joined in three parts: where both sets have words, where the first alone has, where the second alone has. Assumes nothing.
use mathlib.Core.Path.{◌≡◌, sym, ap, ◌∙◌}
use mathlib.Core.Bool.{Bool, true, false, cond}
use mathlib.Core.List.{List}
use mathlib.Core.Logic.{◌⊎◌, inl, inr}
use Prim.Native.Nat.{ℕ, ◌^◌, ◌≤◌, ◌<◌}
use native.Mathlib.Omega.{arith}
use borrow.Author.Tests.{lt-ltb, le-ltb}
use lib.ListN.{length, get_or}
use Rattle.word_bits.proofs.Order.{lt-or-le}
use Rattle.masks.specs.Ranges.{covers}
use Rattle.masks.proofs.RangeLaws.{covers-yes, covers_below, covers_above}
use Rattle.blocks.specs.Sweeps.{swept}
use Rattle.blocks.proofs.BlockLaws.{length-swept, swept_in, swept_out, swept_is, swept_ext, swept_same, zeroed, zeroed_is}
use Rattle.operations.specs.Operations.{joined, joined_word, padded}
use Rattle.operations.specs.declared.operation.Operation.{Operation}
use Rattle.operations.proofs.WordJoins.{first_alone, second_alone}

pub padded_in : (n : ℕ) (ws : List ℕ) (k : ℕ) → k < n → padded n ws k ≡ get_or ws k 0
padded_in n ws k h = ap (λ (t : Bool). cond t (get_or ws k 0) 0) (lt-ltb k n h)

pub padded_out : (n : ℕ) (ws : List ℕ) (k : ℕ) → n ≤ k → padded n ws k ≡ 0
padded_out n ws k h = ap (λ (t : Bool). cond t (get_or ws k 0) 0) (le-ltb k n h)

-- ---- one part

pub record Words (ws : List ℕ) : Type 0 where
  pub fits : (k : ℕ) → get_or ws k 0 < 2 ^ 64

module _ (op : Operation) where
  -- the first alone has: they stay, or are cleared
  pub first_stays : joined op true false ≡ true → (first end : ℕ) {ws : List ℕ} → Words ws → ws ≡ swept first end (λ k w. joined_word op w 0) ws
  first_stays y first end {ws} fw = swept_same first end _ ws (λ k l. ap (λ (t : Bool). cond t (get_or ws k 0) 0) (sym y) ∙ first_alone op _ (fw.fits k))

  pub first_ends : joined op true false ≡ false → (first end : ℕ) {ws : List ℕ} → Words ws
      → swept first end zeroed ws ≡ swept first end (λ k w. joined_word op w 0) ws
  first_ends y first end {ws} fw =
      swept_ext first end _ _ ws (λ k l. zeroed_is k (get_or ws k 0) ∙ ap (λ (t : Bool). cond t (get_or ws k 0) 0) (sym y) ∙ first_alone op _ (fw.fits k))

  -- the second alone has: they are copied, or cleared
  pub second_comes : joined op false true ≡ true → (first end : ℕ) (ws : List ℕ) {vs : List ℕ} → Words vs
      → swept first end (λ k w. get_or vs k 0) ws ≡ swept first end (λ k w. joined_word op 0 (get_or vs k 0)) ws
  second_comes y first end ws {vs} fv =
      swept_ext first end _ _ ws (λ k l. ap (λ (t : Bool). cond t (get_or vs k 0) 0) (sym y) ∙ second_alone op _ (fv.fits k))

  pub second_ends : joined op false true ≡ false → (first end : ℕ) (ws : List ℕ) {vs : List ℕ} → Words vs
      → swept first end zeroed ws ≡ swept first end (λ k w. joined_word op 0 (get_or vs k 0)) ws
  second_ends y first end ws {vs} fv =
      swept_ext first end _ _ ws (λ k l. zeroed_is k (get_or ws k 0) ∙ ap (λ (t : Bool). cond t (get_or vs k 0) 0) (sym y) ∙ second_alone op _ (fv.fits k))

-- ---- the three parts

-- the words 0..c, c..d and e..t, which make up 0..total, each changed once
module _ (c d e t total : ℕ) (f₁ f₂ f₃ : ℕ → ℕ → ℕ) (g : ℕ → ℕ) (xs : List ℕ)
    (room : total ≤ length xs) (c≤e : c ≤ e) (d≤e : d ≤ e) (c≤total : c ≤ total) (d≤total : d ≤ total) (t≤total : t ≤ total)
    (rest : (i : ℕ) → i < total → c ≤ i → d ≤ i → (e ≤ i) × (i < t))
    (s₁ : (i : ℕ) → i < c → f₁ i (get_or xs i 0) ≡ g i)
    (s₂ : (i : ℕ) → c ≤ i → i < d → f₂ i (get_or xs i 0) ≡ g i)
    (s₃ : (i : ℕ) → e ≤ i → i < t → f₃ i (get_or xs i 0) ≡ g i) where
  pub three_sweeps : swept e t f₃ (swept c d f₂ (swept 0 c f₁ xs)) ≡ swept 0 total (λ k w. g k) xs
  three_sweeps =
      swept_is 0 total (λ k w. g k) (swept e t f₃ (swept c d f₂ (swept 0 c f₁ xs))) xs
      (length-swept e t f₃ (swept c d f₂ (swept 0 c f₁ xs)) ∙ len₂) (λ i h. go i h (lt-or-le i total) (lt-or-le i c) (lt-or-le i d))
    where
      one : List ℕ
      one = swept 0 c f₁ xs

      two : List ℕ
      two = swept c d f₂ one

      len₂ : length two ≡ length xs
      len₂ = length-swept c d f₂ one ∙ length-swept 0 c f₁ xs

      inside : (i : ℕ) → i < total → get_or (swept e t f₃ two) i 0 ≡ g i → get_or (swept e t f₃ two) i 0 ≡ cond (covers 0 total i) (g i) (get_or xs i 0)
      inside i h q = q ∙ sym (ap (λ (b : Bool). cond b (g i) (get_or xs i 0)) (covers-yes 0 total i (omega arith) h))

      go : (i : ℕ) → i < length xs → (i < total) ⊎ (total ≤ i) → (i < c) ⊎ (c ≤ i) → (i < d) ⊎ (d ≤ i)
          → get_or (swept e t f₃ two) i 0 ≡ cond (covers 0 total i) (g i) (get_or xs i 0)
      go i h (inr out) u v =
          swept_out e t f₃ two i (covers_above e t i (omega arith)) ∙ swept_out c d f₂ one i (covers_above c d i (omega arith))
          ∙ swept_out 0 c f₁ xs i (covers_above 0 c i (omega arith))
          ∙ sym (ap (λ (b : Bool). cond b (g i) (get_or xs i 0)) (covers_above 0 total i out))
      go i h (inl l) (inl a) v =
          inside i l
          (swept_out e t f₃ two i (covers_below e t i (omega arith)) ∙ swept_out c d f₂ one i (covers_below c d i a)
          ∙ swept_in 0 c f₁ xs i h (omega arith) a ∙ s₁ i a)
      go i h (inl l) (inr a) (inl b) =
          inside i l
          (swept_out e t f₃ two i (covers_below e t i (omega arith))
          ∙ swept_in c d f₂ one i (rw (length-swept 0 c f₁ xs) h) a b
          ∙ ap (f₂ i) (swept_out 0 c f₁ xs i (covers_above 0 c i a)) ∙ s₂ i a b)
      go i h (inl l) (inr a) (inr b) =
          let r = rest i l a b in
          inside i l
          (swept_in e t f₃ two i (rw len₂ h) r.0 r.1
          ∙ ap (f₃ i) (swept_out c d f₂ one i (covers_above c d i b) ∙ swept_out 0 c f₁ xs i (covers_above 0 c i a)) ∙ s₃ i r.0 r.1)
