-- Lines in a row. Assumes nothing.
use mathlib.Core.Path.{◌≡◌, refl, sym, ap, ap₂, ◌∙◌}
use mathlib.Core.Bool.{Bool, false}
use mathlib.Core.List.{List, [], ◌∷◌, ◌++◌, append_assoc, append-nil}
use Prim.Native.Nat.{ℕ, suc, ◌+◌, ◌<◌}
use native.Mathlib.Nat.{add-zero}
use native.Mathlib.Numerals.{add-one}
use native.Mathlib.Omega.{arith}
use lib.ListN.{length, get_or, take}
use lib.Seq.{take-suc, length-take-le}
use Rattle.byte_texts.specs.Growth.{Appended}
use Rattle.byte_texts.specs.declared.texts.Text.{Text}
use Rattle.byte_texts.proofs.GrowthLaws.{appended_then, appended_as}
use Rattle.listing_lines.specs.Lines.{offset_text, line_text, lines_text}
use Rattle.listing_lines.specs.Listings.{is_missing, has_of, lacks_of, line_of, listed}
use Rattle.listing_lines.specs.declared.lines.Listing.{Listing}

module _ (sheet missing : Bool) (has lacks : List ℕ) (total : ℕ) where
  -- the lines of two lists, the second from the place behind the first
  pub lines-append : (xs ys : List ℕ) (place : ℕ) → lines_text sheet missing has lacks total place (xs ++ ys)
      ≡ lines_text sheet missing has lacks total place xs ++ lines_text sheet missing has lacks total (place + length xs) ys
  unfolding lines_text
  lines-append [] ys place = ap (λ (k : ℕ). lines_text sheet missing has lacks total k ys) (sym (add-zero place))
  lines-append (x ∷ xs) ys place =
      let e : place + 1 + length xs ≡ place + suc (length xs) = omega arith in
      ap (λ (t : List ℕ). line_text sheet missing has lacks total place x ++ t)
      (lines-append xs ys (place + 1) ∙ ap (λ (k : ℕ). lines_text sheet missing has lacks total (place + 1) xs ++ lines_text sheet missing has lacks total k ys) e)
      ∙ sym (append_assoc (line_text sheet missing has lacks total place x) (lines_text sheet missing has lacks total (place + 1) xs) (lines_text sheet missing has lacks total (place + suc (length xs)) ys))

  module _ (offsets : List ℕ) (place : ℕ) where
    pub lines_more : (k : ℕ) → k < length offsets → lines_text sheet missing has lacks total place (take k offsets) ++ line_text sheet missing has lacks total (place + k) (get_or offsets k 0)
        ≡ lines_text sheet missing has lacks total place (take (k + 1) offsets)
    unfolding lines_text
    lines_more k l =
        let n : length (take k offsets) ≡ k = length-take-le k offsets (omega arith) in
        ap₂ (λ (i : ℕ) (t : List ℕ). lines_text sheet missing has lacks total place (take k offsets) ++ t) n
        (sym (append-nil (line_text sheet missing has lacks total (place + k) (get_or offsets k 0))))
        ∙ ap (λ (i : ℕ). lines_text sheet missing has lacks total place (take k offsets) ++ lines_text sheet missing has lacks total (place + i) (get_or offsets k 0 ∷ [])) (sym n)
        ∙ sym (lines-append (take k offsets) (get_or offsets k 0 ∷ []) place)
        ∙ ap (lines_text sheet missing has lacks total place) (sym (take-suc offsets k 0 l) ∙ ap (λ (i : ℕ). take i offsets) (sym (add-one k)))

-- a line of a list has no names
pub lines_plain : (sheet : Bool) (has lacks : List ℕ) (total : ℕ) (ps : List ℕ) (place : ℕ)
    → lines_text sheet false has lacks total place ps ≡ lines_text sheet false [] [] total place ps
unfolding lines_text line_text offset_text
lines_plain sheet has lacks total [] place = refl
lines_plain sheet has lacks total (p ∷ ps) place = ap (λ (t : List ℕ). line_text sheet false [] [] total place p ++ t) (lines_plain sheet has lacks total ps (place + 1))

-- ---- the loop that writes them: k of them are written

pub listed_more : (l : Listing) (offsets : List ℕ) (place : ℕ) {start now next : Text} {k : ℕ} → Appended start now (listed l place (take k offsets)) → k < length offsets
    → Appended now next (line_of l (place + k) (get_or offsets k 0)) → Appended start next (listed l place (take (k + 1) offsets))
listed_more l offsets place {k = k} h i e =
    appended_as (appended_then h e) (lines_more l.places.sheet (is_missing l.missing) (has_of l.missing) (lacks_of l.missing) l.places.total offsets place k i)
