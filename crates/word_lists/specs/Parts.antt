-- A part of a lent list.
use Rattle.std.specs.Prelude.{cond, ◌&&◌, List, [], ℕ, ◌+◌, ◌-◌, ◌*◌, leb, length, take, drop}
use Rattle.std.specs.Borrow.{Bor}

-- the place where it starts, and its numbers
pub record ListPart : Type 0 where
  pub place : ℕ × ℕ
  pub numbers : List ℕ

abbrev pub list_part : Bor (List ℕ) → ListPart
list_part r = record { place = r.ref_ptr; numbers = r.now }

-- the numbers start..end, 8 bytes to a number; none, at the list's own start, where the list does not have them
abbrev pub part_of : Bor (List ℕ) → ℕ → ℕ → ListPart
part_of list start end = cond (leb start end && leb end (length list.now))
    (record { place = (list.ref_ptr.0, start * 8 + list.ref_ptr.1); numbers = take (end - start) (drop start list.now) })
    (record { place = list.ref_ptr; numbers = [] })
