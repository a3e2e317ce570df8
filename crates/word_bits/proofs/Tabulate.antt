-- A table written out is one that antt computes from a function; one law gives each of its entries. Assumes nothing.
use Rattle.std.proofs.Common.{◌≡◌, ℕ, zero, suc, ◌<◌, List, [], ◌∷◌, get_or, refl, le_of_suc-le-suc, not-suc-le-zero}

-- f 0, f 1, .. up to f (n - 1)
abbrev pub tabulate : (ℕ → ℕ) → ℕ → List ℕ
tabulate f zero = []
tabulate f (suc n) = f 0 ∷ tabulate (λ k. f (suc k)) n

pub entry : (f : ℕ → ℕ) (n k : ℕ) → k < n → get_or (tabulate f n) k 0 ≡ f k
entry f zero k h = absurd (not-suc-le-zero h)
entry f (suc n) zero h = refl
entry f (suc n) (suc k) h = entry (λ i. f (suc i)) n k (le_of_suc-le-suc h)
