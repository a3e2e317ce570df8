-- What is shown of a bad line, and how many digits a number has. Assumes nothing.
use mathlib.Core.Path.{◌≡◌, ap}
use mathlib.Core.Bool.{Bool, true, false, cond}
use mathlib.Core.List.{List, [], ◌∷◌, ◌++◌}
use Prim.Native.Nat.{ℕ, zero, suc, ◌+◌, ◌/◌, ◌%◌, ◌≤◌}
use native.Mathlib.Omega.{arith}
use lib.Dec.{ltb}
use lib.ListN.{length, length-append}
use Rattle.byte_texts.specs.Ascii.{ascii}
use Rattle.byte_texts.specs.Texts.{decimal_of, decimal, shown_text}
use Rattle.text_lines.specs.Messages.{bad_text}

-- a bad line is said by what is shown of it
pub bad_shown : (name : List ℕ) (k : ℕ) (reason body full : List ℕ) → shown_text body ≡ shown_text full → bad_text name k reason body ≡ bad_text name k reason full
unfolding bad_text
bad_shown name k reason body full e = ap (λ (xs : List ℕ). ascii "ERROR: " ++ name ++ ascii ", line " ++ decimal k ++ ascii ": " ++ reason ++ ascii ": " ++ xs ++ ascii "\n") e

-- a number has at most so many digits
pub decimal_short : (places n : ℕ) → length (decimal_of places n) ≤ places
unfolding decimal_of
decimal_short zero n = omega arith
decimal_short (suc places) n = go (ltb n 10) (decimal_short places (n / 10))
  where
    go : (t : Bool) → length (decimal_of places (n / 10)) ≤ places
        → length (cond t ((48 + n) ∷ []) (decimal_of places (n / 10) ++ ((48 + n % 10) ∷ []))) ≤ suc places
    go true h = omega arith
    go false h = rw length-append (omega arith)
