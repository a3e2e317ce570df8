-- A range of positions: start and end as numbers, end not included.
use Rattle.std.specs.Prelude.{Bool, cond, ◌&&◌, ℕ, ◌+◌, ◌-◌, ◌/◌, leb, ltb}

-- it covers every p with start <= p < end
unfoldable pub covers : ℕ → ℕ → ℕ → Bool
covers start end p = leb start p && ltb p end

-- the words it meets are from start / 64 up to this one, which it does not meet: none where it covers no position
unfoldable pub end_block : ℕ → ℕ → ℕ
end_block start end = cond (ltb start end) ((end - 1) / 64 + 1) (start / 64)
