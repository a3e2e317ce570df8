-- What the search over the words of two sets gives: only the helpers' contracts use it.
use Rattle.std.specs.Prelude.{◌≡◌, ℕ, ◌≤◌, ◌<◌}

-- r is the first place below end where g is not 0: the end where there is none
pub record FirstAt (g : ℕ → ℕ) (end r : ℕ) : Type 0 where
  pub inside : r ≤ end
  pub before : (i : ℕ) → i < r → g i ≡ 0
  pub stop : r < end → g r ≡ 0 → ⊥
