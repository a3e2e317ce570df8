-- A change of the words first..end, word by word. Assumes nothing.
use mathlib.Core.Path.{◌≡◌, refl, sym, ap, ◌∙◌}
use mathlib.Core.Bool.{Bool, true, false, cond}
use mathlib.Core.List.{List, [], ◌∷◌}
use mathlib.Core.Logic.{◌⊎◌, inl, inr}
use Prim.Native.Nat.{ℕ, zero, suc, ◌+◌, ◌≤◌, ◌<◌}
use native.Mathlib.Nat.{add-zero, zero-add, add-suc, suc-add, le_of_suc-le-suc, not-suc-le-zero}
use native.Mathlib.Omega.{arith}
use lib.Bits.{bit_and, bit_xor, and_zero_r}
use lib.ListN.{length, get_or, get_or-eq_default}
use lib.Seq.{ext_get_or}
use Rattle.word_bits.proofs.Order.{lt-or-le}
use Rattle.masks.specs.Ranges.{covers}
use Rattle.masks.proofs.RangeLaws.{covers-yes}
use Rattle.blocks.specs.Sweeps.{swept, swept_from}

module _ (first end : ℕ) (f : ℕ → ℕ → ℕ) where
  length_from : (k : ℕ) (ws : List ℕ) → length (swept_from k first end f ws) ≡ length ws
  unfolding swept_from
  length_from k [] = refl
  length_from k (w ∷ ws) = ap suc (length_from (suc k) ws)

  pub length-swept : (ws : List ℕ) → length (swept first end f ws) ≡ length ws
  length-swept ws = length_from 0 ws

  at_from : (k : ℕ) (ws : List ℕ) (i : ℕ) → i < length ws
      → get_or (swept_from k first end f ws) i 0 ≡ cond (covers first end (k + i)) (f (k + i) (get_or ws i 0)) (get_or ws i 0)
  unfolding swept_from
  at_from k [] i h = absurd (not-suc-le-zero h)
  at_from k (w ∷ ws) zero h = ap (λ (j : ℕ). cond (covers first end j) (f j w) w) (sym (add-zero k))
  at_from k (w ∷ ws) (suc i) h =
      at_from (suc k) ws i (le_of_suc-le-suc h)
      ∙ ap (λ (j : ℕ). cond (covers first end j) (f j (get_or ws i 0)) (get_or ws i 0)) (suc-add k i ∙ sym (add-suc k i))

  pub swept_at : (ws : List ℕ) (i : ℕ) → i < length ws
      → get_or (swept first end f ws) i 0 ≡ cond (covers first end i) (f i (get_or ws i 0)) (get_or ws i 0)
  swept_at ws i h = at_from 0 ws i h ∙ ap (λ (j : ℕ). cond (covers first end j) (f j (get_or ws i 0)) (get_or ws i 0)) (zero-add i)

  pub swept_in : (ws : List ℕ) (i : ℕ) → i < length ws → first ≤ i → i < end → get_or (swept first end f ws) i 0 ≡ f i (get_or ws i 0)
  swept_in ws i h a b =
      swept_at ws i h ∙ ap (λ (t : Bool). cond t (f i (get_or ws i 0)) (get_or ws i 0)) (covers-yes first end i a b)

  pub swept_out : (ws : List ℕ) (i : ℕ) → covers first end i ≡ false → get_or (swept first end f ws) i 0 ≡ get_or ws i 0
  swept_out ws i e = go (lt-or-le i (length ws))
    where
      go : (i < length ws) ⊎ (length ws ≤ i) → get_or (swept first end f ws) i 0 ≡ get_or ws i 0
      go (inl h) = swept_at ws i h ∙ ap (λ (t : Bool). cond t (f i (get_or ws i 0)) (get_or ws i 0)) e
      go (inr g) =
          get_or-eq_default (swept first end f ws) 0 (rw (length-swept ws) g) ∙ sym (get_or-eq_default ws 0 g)

  pub swept_is : (vs ws : List ℕ) → length vs ≡ length ws
      → ((i : ℕ) → i < length ws → get_or vs i 0 ≡ cond (covers first end i) (f i (get_or ws i 0)) (get_or ws i 0)) → vs ≡ swept first end f ws
  swept_is vs ws e same =
      ext_get_or 0 vs (swept first end f ws) (e ∙ sym (length-swept ws))
      (λ i h. let l : i < length ws = rw e at h in same i l ∙ sym (swept_at ws i l))

-- another change that does the same to each word of the list
pub swept_ext : (first end : ℕ) (f g : ℕ → ℕ → ℕ) (ws : List ℕ) → ((i : ℕ) → i < length ws → f i (get_or ws i 0) ≡ g i (get_or ws i 0))
    → swept first end f ws ≡ swept first end g ws
swept_ext first end f g ws same =
    swept_is first end g (swept first end f ws) ws (length-swept first end f ws)
    (λ i h. swept_at first end f ws i h ∙ ap (λ (x : ℕ). cond (covers first end i) x (get_or ws i 0)) (same i h))

-- a change of every word
pub swept_all : (f : ℕ → ℕ → ℕ) (vs ws : List ℕ) → length vs ≡ length ws → ((i : ℕ) → i < length ws → get_or vs i 0 ≡ f i (get_or ws i 0))
    → vs ≡ swept 0 (length ws) f ws
swept_all f vs ws e same =
    swept_is 0 (length ws) f vs ws e
    (λ i h. same i h ∙ sym (ap (λ (t : Bool). cond t (f i (get_or ws i 0)) (get_or ws i 0)) (covers-yes 0 (length ws) i (omega arith) h)))

-- a change that changes nothing
pub swept_same : (first end : ℕ) (f : ℕ → ℕ → ℕ) (ws : List ℕ) → ((i : ℕ) → i < length ws → get_or ws i 0 ≡ f i (get_or ws i 0))
    → ws ≡ swept first end f ws
swept_same first end f ws same =
    swept_is first end f ws ws refl (λ i h. sym (either (covers first end i)) ∙ ap (λ (x : ℕ). cond (covers first end i) x (get_or ws i 0)) (same i h))
  where
    either : (t : Bool) {x : ℕ} → cond t x x ≡ x
    either true = refl
    either false = refl

-- keep nothing and flip nothing
abbrev pub zeroed : ℕ → ℕ → ℕ
zeroed k w = bit_xor (bit_and w 0) 0

pub zeroed_is : (k w : ℕ) → zeroed k w ≡ 0
zeroed_is k w = ap (λ (x : ℕ). bit_xor x 0) (and_zero_r w)
