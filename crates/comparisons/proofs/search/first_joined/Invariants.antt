-- Each join of two words below k is 0.
use mathlib.Core.Path.{◌≡◌}
use Prim.Native.Nat.{ℕ, ◌<◌}
use lib.ListN.{get_or}
use Rattle.operations.specs.Operations.{Makes}
use Rattle.comparisons.proofs.search.first_joined.Given as goal

abbrev pub invariant-loop-k : goal.invariant-loop-k
invariant-loop-k g l = (op : ℕ → ℕ → ℕ) → Makes (goal.F-post g l.word) op → (i : ℕ) → i < l.k → op (get_or l.words i 0) (get_or l.other i 0) ≡ 0
