-- Texts that are written one after the other into a lent buffer: bytes are numbers.
use Rattle.std.specs.Prelude.{cond, ◌||◌, List, [], ◌∷◌, ◌++◌, map, ℕ, zero, suc, ◌+◌, ◌-◌, ◌/◌, ◌%◌, min, eqb, leb, ltb, length, take, drop}
use Rattle.std.proofs.lemmas.List.Edits.{sets}

-- where a text ends, and the buffer with it
pub record Written : Type 0 where
  pub end : ℕ
  pub out : List ℕ

-- the text written byte by byte from `at` on: what the buffer has no room for is left out, and its other bytes are as they were
unfoldable pub written : List ℕ → ℕ → List ℕ → Written
written out at text = record { end = min (length out) (at + length text); out = sets out at text }

-- a number in decimal, of up to so many digits, with no zeros in front
unfoldable pub decimal_of : ℕ → ℕ → List ℕ
decimal_of zero n = []
decimal_of (suc places) n = cond (ltb n 10) ((48 + n) ∷ []) (decimal_of places (n / 10) ++ ((48 + n % 10) ∷ []))

-- a number below 2 ^ 64 has at most 20 digits
abbrev pub decimal : ℕ → List ℕ
decimal n = decimal_of 20 n

-- a byte as it is shown: a control byte is a question mark
unfoldable pub visible : ℕ → ℕ
visible b = cond (ltb b 32 || eqb b 127) 63 b

unfoldable pub dots : List ℕ
dots = 46 ∷ 46 ∷ 46 ∷ []

-- a text as it is shown: up to 40 bytes whole, a longer one by its first 40
unfoldable pub shown_text : List ℕ → List ℕ
shown_text text = cond (leb (length text) 40) (map visible text) (map visible (take 40 text) ++ dots)

-- a name as it is shown: a longer one by its last 40, since names of one folder differ in their ends
unfoldable pub shown_name : List ℕ → List ℕ
shown_name name = cond (leb (length name) 40) (map visible name) (dots ++ map visible (drop (length name - 40) name))
