-- Each word k..end is 0.
use mathlib.Core.Path.{◌≡◌}
use Prim.Native.Nat.{ℕ, ◌≤◌, ◌<◌}
use lib.ListN.{get_or}
use Rattle.extremes.proofs.by_words.above_last.Given as goal

abbrev pub invariant-loop-k : goal.invariant-loop-k
invariant-loop-k l = (l.k ≤ l.end) × ((i : ℕ) → l.k ≤ i → i < l.end → get_or l.words i 0 ≡ 0)

abbrev pub decreases-loop-k : goal.decreases-loop-k
decreases-loop-k l = l.k
