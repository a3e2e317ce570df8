use mathlib.Core.Path.{◌≡◌}
use mathlib.Core.List.{List}
use Prim.Native.Nat.{ℕ, ◌≤◌}
use lib.ListN.{length}
use Rattle.sets.specs.Members.{words_of, write, empty}
use Rattle.listing_lines.specs.Offsets.{offsets_of}
use Rattle.pair_listings.specs.Tables.{entry_of, moved_below}
use Rattle.pair_listings.proofs.moves.move_each.Given as goal

abbrev pub invariant-loop-p : goal.invariant-loop-p
invariant-loop-p l = (vs : List ℕ) → words_of 65536 ≤ length vs → l.initial.out ≡ write vs (empty 65536) → l.out ≡ write vs (moved_below l.p (entry_of l.to) (offsets_of l.words))
