-- Question 4 of a list of positions. Assumes nothing.
use mathlib.Core.Path.{◌≡◌, refl, sym, ap, ◌∙◌}
use mathlib.Core.Bool.{Bool, cond}
use mathlib.Core.Logic.{◌⊎◌, inl, inr}
use mathlib.Core.List.{List, [], ◌∷◌}
use Prim.Native.Nat.{ℕ, ◌+◌, ◌≤◌, ◌<◌}
use native.Mathlib.Omega.{arith}
use borrow.Author.Tests.{le-leb, lt-leb}
use lib.Dec.{leb}
use Rattle.std.specs.Prelude.{count_by}
use Rattle.std.proofs.lemmas.List.Sums.{sum_by-cons}
use Rattle.word_bits.proofs.Order.{lt-or-le}
use Rattle.sets.specs.Questions.{position_question, positions_question}
use Rattle.sets.specs.declared.fixed_bit_set.FixedBitSet.{FixedBitSet}
use Rattle.sets.proofs.QuestionLaws.{first_no, first-yes, first-both, position_yes, position_no, position_below}

module _ (set : FixedBitSet) where
  pub positions-both : (p : ℕ) (ps : List ℕ) → positions_question set (p ∷ ps) ≡ 0 → (p < set.length) × (positions_question set ps ≡ 0)
  unfolding positions_question
  positions-both p ps e =
      let q = first-both (position_question set p) (positions_question set ps) e in
      (position_below set p q.0, q.1)

  first_in : (p : ℕ) (ps : List ℕ) → p < set.length → positions_question set (p ∷ ps) ≡ positions_question set ps
  unfolding positions_question
  first_in p ps h = sym (first-yes (position_yes set p h) refl)

  first_out : (p : ℕ) (ps : List ℕ) → set.length ≤ p → positions_question set (p ∷ ps) ≡ 4
  unfolding positions_question
  first_out p ps h = sym (first_no (positions_question set ps) (sym (position_no set p h)) (λ z. omega arith))

-- as many as are out are counted
module _ (set : FixedBitSet) where
  out : ℕ → Bool
  out p = leb set.length p

  more : (p : ℕ) (ps : List ℕ) → count_by out (p ∷ ps) ≡ cond (out p) 1 0 + count_by out ps
  more p ps = sum_by-cons (λ q. cond (out q) 1 0) p ps

  inside : (p : ℕ) (ps : List ℕ) → p < set.length → count_by out (p ∷ ps) ≡ count_by out ps
  unfolding out
  inside p ps h = more p ps ∙ ap (λ (b : Bool). cond b 1 0 + count_by out ps) (lt-leb set.length p h) ∙ omega arith

  beyond : (p : ℕ) (ps : List ℕ) → set.length ≤ p → count_by out (p ∷ ps) ≡ 1 + count_by out ps
  unfolding out
  beyond p ps h = more p ps ∙ ap (λ (b : Bool). cond b 1 0 + count_by out ps) (le-leb set.length p h)

  pub none_out : (ps : List ℕ) → count_by (λ p. leb set.length p) ps ≡ 0 → 0 ≡ positions_question set ps
  unfolding positions_question out
  none_out [] e = refl
  none_out (p ∷ ps) e = go (lt-or-le p set.length) (none_out ps)
    where
      go : (p < set.length) ⊎ (set.length ≤ p) → (count_by out ps ≡ 0 → 0 ≡ positions_question set ps) → 0 ≡ positions_question set (p ∷ ps)
      go (inl h) rest = rest (sym (inside p ps h) ∙ e) ∙ sym (first_in set p ps h)
      go (inr h) rest = let b = beyond p ps h in absurd (omega (arith, e, b))

  pub some_out : (ps : List ℕ) → (count_by (λ p. leb set.length p) ps ≡ 0 → ⊥) → 4 ≡ positions_question set ps
  unfolding positions_question out
  some_out [] h = absurd (h refl)
  some_out (p ∷ ps) h = go (lt-or-le p set.length) (some_out ps)
    where
      go : (p < set.length) ⊎ (set.length ≤ p) → ((count_by out ps ≡ 0 → ⊥) → 4 ≡ positions_question set ps) → 4 ≡ positions_question set (p ∷ ps)
      go (inl l) rest = rest (λ e. h (inside p ps l ∙ e)) ∙ sym (first_in set p ps l)
      go (inr l) rest = sym (first_out set p ps l)
