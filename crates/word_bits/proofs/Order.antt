-- Two numbers are in order one way or the other. Assumes nothing.
use Rattle.std.proofs.Common.{◌≡◌, ℕ, ◌-◌, ◌<◌, ◌≤◌, ◌⊎◌, inl, inr, eq-zero-or-pos, arith}

pub lt-or-le : (a b : ℕ) → (a < b) ⊎ (b ≤ a)
lt-or-le a b = go (eq-zero-or-pos (b - a))
  where
    go : (b - a ≡ 0) ⊎ (0 < b - a) → (a < b) ⊎ (b ≤ a)
    go (inl z) = inr (omega arith)
    go (inr p) = inl (omega arith)
