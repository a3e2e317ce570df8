-- Each word first..k is `skip`.
use mathlib.Core.Path.{◌≡◌}
use Prim.Native.Nat.{ℕ, ◌≤◌, ◌<◌, ◌-◌, max}
use lib.ListN.{get_or}
use Rattle.tests.proofs.scans.first_other.Given as goal

abbrev pub invariant-loop-k : goal.invariant-loop-k
invariant-loop-k l = (l.first ≤ l.k) × (l.k ≤ max l.first l.stop) × ((i : ℕ) → l.first ≤ i → i < l.k → get_or l.words i 0 ≡ l.skip)

abbrev pub decreases-loop-k : goal.decreases-loop-k
decreases-loop-k l = l.stop - l.k
