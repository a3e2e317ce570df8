-- A piece of a text that is written piece by piece.
use Rattle.std.specs.Prelude.{Bool, true, false, cond, ℕ, Option, None, Some, ltb, length}
use Rattle.byte_texts.specs.declared.texts.Text.{Text}
use Rattle.listing_lines.specs.declared.pages.Page.{Page}
use Rattle.listing_lines.specs.declared.pages.Written.{Written}

-- how many bytes of the buffer are the next piece, what is left then, and whether it could be written
pub record Piece (S R : Type 0) : Type 0 where
  pub length : ℕ
  pub page : Page S R
  pub whole : Bool

-- what a call gives, as such a record: nothing is none
abbrev pub piece_of : {S R : Type 0} → Page S R → Option (Written S R) → Piece S R
piece_of page None = record { length = 0; page = page; whole = false }
piece_of page (Some w) = record { length = w.length; page = w.page; whole = true }

-- a text as a piece, where its buffer has room for more
unfoldable pub piece_in : {S R : Type 0} → Text → Page S R → Option (Written S R)
piece_in text page = cond (ltb text.end (length text.out.now)) (Some (record { length = text.end; page = page })) None
