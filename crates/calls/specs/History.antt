-- 01's history rule: the state after a list of calls. It speaks of members and of the sizes of the buffers, and never of words.
use Rattle.std.specs.Prelude.{List, [], ◌∷◌, ℕ}
use Rattle.sets.specs.Members.{Members, empty}
use Rattle.calls.specs.Calls.{Call, leaves}

-- both sets: their lengths, and a yes or no for every position of each
pub record State : Type 0 where
  pub a : Members
  pub b : Members

-- two fresh sets
abbrev pub fresh_sets : ℕ → ℕ → State
fresh_sets m n = record { a = empty m; b = empty n }

-- a call on A, or on B, with the other read
pub data Called : Type 0 where
  OnA : Call → Called
  OnB : Call → Called

-- m and n are the numbers of words of the two buffers
abbrev pub after : ℕ → ℕ → Called → State → State
after m n (OnA call) s = record { a = leaves call m s.a s.b; b = s.b }
after m n (OnB call) s = record { a = s.a; b = leaves call n s.b s.a }

-- each call gets what the calls before it left
unfoldable pub history : ℕ → ℕ → List Called → State → State
history m n [] s = s
history m n (call ∷ calls) s = history m n calls (after m n call s)
