-- The reason of a wrong last line has at most 64 bytes. Assumes nothing.
use Prim.Native.Nat.{ℕ, ◌≤◌}
use native.Mathlib.Omega.{arith}
use lib.ListN.{length, length-append}
use Rattle.byte_texts.specs.Ascii.{ascii}
use Rattle.text_lines.proofs.MessageLaws.{decimal_short}
use Rattle.pair_files.specs.Messages.{wrong_count}

pub count_short : (says names : ℕ) → length (wrong_count says names) ≤ 64
unfolding wrong_count ascii
count_short says names = simp length-append (omega (arith, decimal_short 20 says, decimal_short 20 names))
