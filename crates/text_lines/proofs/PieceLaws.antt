-- A text in pieces. Assumes nothing.
use mathlib.Core.Path.{◌≡◌, refl, sym, ap, ◌∙◌}
use mathlib.Core.List.{List, [], ◌∷◌, ◌++◌, flatten}
use Prim.Native.Nat.{ℕ, ◌+◌, ◌<◌}
use native.Mathlib.Numerals.{add-one}
use borrow.Author.Tests.{eq-eqb, ne_eqb}
use lib.ListN.{length, take, get_or}
use lib.Seq.{take-suc}
use Rattle.text_lines.specs.Texts.{Text, take_byte, take_bytes, at_end}

-- a text in two pieces is the text of the pieces joined
pub pieces : {F : Type 0} (step : List ℕ → F → F) (t : Text F) (xs ys : List ℕ) → take_bytes step t (xs ++ ys) ≡ take_bytes step (take_bytes step t xs) ys
unfolding take_bytes
pieces step t [] ys = refl
pieces step t (b ∷ bs) ys = pieces step (take_byte step t b) bs ys

module _ {F : Type 0} (step : List ℕ → F → F) where
  -- the first k + 1 bytes
  pub bytes_next : (t : Text F) (bytes : List ℕ) (k : ℕ) → k < length bytes
      → take_bytes step t (take (k + 1) bytes) ≡ take_byte step (take_bytes step t (take k bytes)) (get_or bytes k 0)
  unfolding take_bytes
  bytes_next t bytes k h =
      ap (take_bytes step t) (ap (λ (n : ℕ). take n bytes) (add-one k) ∙ take-suc bytes k 0 h) ∙ pieces step t (take k bytes) (get_or bytes k 0 ∷ [])

  -- a line feed ends the line, another byte is one more of it
  pub byte_ends : (t : Text F) (b : ℕ) → b ≡ 10 → take_byte step t b ≡ record { file = step t.rest t.file; rest = [] }
  unfolding take_byte
  byte_ends t b e = rw (eq-eqb b 10 e) refl

  pub byte_joins : (t : Text F) (b : ℕ) → (b ≡ 10 → ⊥) → take_byte step t b ≡ record { file = t.file; rest = t.rest ++ (b ∷ []) }
  unfolding take_byte
  byte_joins t b n = rw (ne_eqb b 10 n) refl

  -- at the end, with no byte behind the last line feed and with some
  pub end_none : (t : Text F) → length t.rest ≡ 0 → at_end step t ≡ t.file
  unfolding at_end
  end_none t z = rw (eq-eqb (length t.rest) 0 z) refl

  pub end_some : (t : Text F) → (length t.rest ≡ 0 → ⊥) → at_end step t ≡ step t.rest t.file
  unfolding at_end
  end_some t n = rw (ne_eqb (length t.rest) 0 n) refl

-- a text piece by piece
unfoldable pub take_pieces : {F : Type 0} → (List ℕ → F → F) → Text F → List (List ℕ) → Text F
take_pieces step t [] = t
take_pieces step t (piece ∷ more) = take_pieces step (take_bytes step t piece) more

-- read in any pieces it is that of the pieces joined
pub pieces_joined : {F : Type 0} (step : List ℕ → F → F) (more : List (List ℕ)) (t : Text F) → take_pieces step t more ≡ take_bytes step t (flatten more)
unfolding take_pieces take_bytes flatten
pieces_joined step [] t = refl
pieces_joined step (piece ∷ more) t = pieces_joined step more (take_bytes step t piece) ∙ sym (pieces step t piece (flatten more))
