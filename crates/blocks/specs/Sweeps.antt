-- A change of whole words.
use Rattle.std.specs.Prelude.{cond, List, [], ◌∷◌, ℕ, suc}
use Rattle.masks.specs.Ranges.{covers}

-- f of each word and its number, counted from k, where that is in first..end; any other word as it was
unfoldable pub swept_from : ℕ → ℕ → ℕ → (ℕ → ℕ → ℕ) → List ℕ → List ℕ
swept_from k first end f [] = []
swept_from k first end f (w ∷ ws) = cond (covers first end k) (f k w) w ∷ swept_from (suc k) first end f ws

abbrev pub swept : ℕ → ℕ → (ℕ → ℕ → ℕ) → List ℕ → List ℕ
swept first end f ws = swept_from 0 first end f ws
