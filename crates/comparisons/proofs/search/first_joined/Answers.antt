use mathlib.Core.Path.{◌≡◌, sym, ap, ◌∙◌}
use mathlib.Core.Logic.{◌⊎◌, inl, inr}
use Prim.Native.Nat.{ℕ, ◌+◌, ◌≤◌, ◌<◌}
use lib.ListN.{get_or}
use native.Mathlib.Omega.{arith}
use Rattle.word_bits.proofs.Order.{lt-or-le}
use Rattle.comparisons.proofs.search.first_joined.Goals as goal

-- one word more
more : (f : ℕ → ℕ) (k : ℕ) → ((i : ℕ) → i < k → f i ≡ 0) → f k ≡ 0 → (i : ℕ) → i < k + 1 → f i ≡ 0
more f k zs e i h = go (lt-or-le i k)
  where
    go : (i < k) ⊎ (k ≤ i) → f i ≡ 0
    go (inl l) = zs i l
    go (inr g) = let same : i ≡ k = omega arith in ap f same ∙ e

pub returns-then-word-ne0 : goal.returns-then-word-ne0
returns-then-word-ne0 g c = λ op makes. record {
  inside = omega arith;
  before = c.loop-k.invariant op makes;
  stop = λ l z. c.if-word-ne0.true (makes _ _ _ (omega arith) (omega arith) c.word.ensures ∙ z);
}

pub loop-k-preserved : goal.loop-k-preserved
loop-k-preserved g c = λ op makes.
    let a = c.args in
    more (λ i. op (get_or a.words.now i 0) (get_or a.other.now i 0)) c.loop-k.k (c.loop-k.invariant op makes) (sym (makes _ _ _ (omega arith) (omega arith) c.word.ensures) ∙ c.if-word-ne0.false)

pub returns : goal.returns
returns g c = λ op makes. record {
  inside = omega arith;
  before = λ i l. c.loop-k.invariant op makes i (omega arith);
  stop = λ l z. absurd (omega arith);
}
