-- A row of words joined by an operation. Assumes nothing.
use mathlib.Core.Path.{◌≡◌, ◌∙◌}
use mathlib.Core.List.{List}
use Prim.Native.Nat.{ℕ, ◌/◌, ◌%◌}
use native.Mathlib.Omega.{arith}
use lib.ListN.{get_or}
use Rattle.word_bits.specs.Counts.{count}
use Rattle.word_bits.specs.Digits.{row}
use Rattle.word_bits.proofs.Ones.{count_ext}
use Rattle.sets.specs.Members.{bit_of}
use Rattle.operations.specs.Operations.{joined, joined_word}
use Rattle.operations.specs.declared.operation.Operation.{Operation}
use Rattle.operations.proofs.WordJoins.{joined-digit}

-- it has the joined bits
pub row_joined : (op : Operation) (ws vs : List ℕ) (n : ℕ) {r : ℕ}
    → r ≡ count n (row (λ k. joined_word op (get_or ws k 0) (get_or vs k 0))) → r ≡ count n (λ p. joined op (bit_of ws p) (bit_of vs p))
unfolding row bit_of
row_joined op ws vs n e =
    e
    ∙ count_ext n (row (λ k. joined_word op (get_or ws k 0) (get_or vs k 0))) (λ p. joined op (bit_of ws p) (bit_of vs p))
    (λ p l. joined-digit op (get_or ws (p / 64) 0) (get_or vs (p / 64) 0) (p % 64) (omega arith))
