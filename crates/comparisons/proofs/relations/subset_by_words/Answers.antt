use mathlib.Core.Path.{sym, ap}
use mathlib.Core.Bool.{not}
use Prim.Native.Nat.{ℕ}
use lib.ListN.{length, get_or}
use native.Mathlib.Nat.{le_refl}
use Rattle.std.proofs.Common.{rules}
use Rattle.operations.specs.Operations.{joined_word}
use Rattle.operations.specs.declared.operation.Operation.TheVariants.{Difference}
use Rattle.operations.proofs.WordJoins.{joins}
use Rattle.tests.proofs.ScanLaws.{scan_whole}
use Rattle.comparisons.proofs.SearchLaws.{search_stops, subset_words}
use Rattle.comparisons.proofs.relations.subset_by_words.Goals as goal

pub returns-then-first_joined-shared : goal.returns-then-first_joined-shared
returns-then-first_joined-shared c =
    ap not (sym (search_stops _ _ _ Difference (c.first_joined.ensures (joined_word Difference) (joins Difference (λ a b r p. search rules)))
    (rw c.min-shared.ensures at c.if-first_joined-shared.true)))

pub returns : goal.returns
returns c =
    let ws = c.args.words.now in
    subset_words _ _ _ (record { fits = λ k. (c.type_inv.words k).fits }) (c.first_joined.ensures (joined_word Difference) (joins Difference (λ a b r p. search rules))) _
    (rw c.min-shared.ensures at c.if-first_joined-shared.false)
    (scan_whole (λ (k : ℕ). get_or ws k 0) _ (length ws) 0 (le_refl (length ws)) (rw c.min-shared.ensures at c.first_other.ensures))
