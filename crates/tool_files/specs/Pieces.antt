-- What is written piece by piece.
use Rattle.std.specs.Prelude.{◌≡◌, Bool, true, Option, Some, List, [], ◌++◌, ℕ, take}
use Rattle.std.specs.Borrow.{MutBor}
use Rattle.std.specs.Fn.{Shared}
use Rattle.std.specs.Io.KnownBytes.{Appends}
use Rattle.listing_lines.specs.declared.pages.Page.{Page}
use Rattle.listing_lines.specs.declared.pages.Written.{Written}

module _ {F S R : Type 0} (calls : Shared F (Page S R × (MutBor (List ℕ) × Unit {0})) (Option (Written S R) × (MutBor (List ℕ) × Unit {0}))) (next_piece : F) (over : S → Bool) where
  -- what is left to write of a page: each piece of `next_piece`, and what is left after it, are what was left before it; and nothing is left where the writing is over
  pub record Leaves (rest : Page S R → List ℕ) : Type 0 where
    pub piece : (page : Page S R) (lent back : MutBor (List ℕ)) (w : Written S R) → calls.post next_piece (page, (lent, tt)) (Some w, (back, tt))
        → take w.length back.now ++ rest w.page ≡ rest page
    pub last : (page : Page S R) → over page.stage ≡ true → rest page ≡ []

  -- what is written, and what is left of a page, are what was left of the first
  pub record Upto (rest : Page S R → List ℕ) (first page : Page S R) (old new : Option (List ℕ)) : Type 0 where
    pub text : List ℕ
    pub written : Appends old new text
    pub left : text ++ rest page ≡ rest first
