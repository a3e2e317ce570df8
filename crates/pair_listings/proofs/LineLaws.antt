-- Lines of pairs in a row. Assumes nothing.
use mathlib.Core.Path.{◌≡◌, sym, ap, ◌∙◌}
use mathlib.Core.Bool.{Bool}
use mathlib.Core.List.{List, [], ◌∷◌, ◌++◌, append_assoc, append-nil}
use Prim.Native.Nat.{ℕ, suc, ◌+◌, ◌<◌}
use native.Mathlib.Nat.{add-zero}
use native.Mathlib.Numerals.{add-one}
use native.Mathlib.Omega.{arith}
use lib.ListN.{length, get_or, take}
use lib.Seq.{take-suc, length-take-le}
use Rattle.byte_texts.specs.Growth.{Appended}
use Rattle.byte_texts.specs.declared.texts.Text.{Text}
use Rattle.byte_texts.proofs.GrowthLaws.{appended_then, appended_as}
use Rattle.pair_listings.specs.Tables.{partner}
use Rattle.pair_listings.specs.Lines.{pair_text, pair_lines_text}

module _ (sheet : Bool) (total : ℕ) (table : ℕ → ℕ) where
  abbrev line : ℕ → ℕ → List ℕ
  line place p = pair_text sheet total place p (partner table p)

  abbrev lines : ℕ → List ℕ → List ℕ
  lines place ps = pair_lines_text sheet total place table ps

  -- the lines of two lists, the second from the place behind the first
  pub lines-append : (xs ys : List ℕ) (place : ℕ) → lines place (xs ++ ys) ≡ lines place xs ++ lines (place + length xs) ys
  unfolding pair_lines_text
  lines-append [] ys place = ap (λ (k : ℕ). lines k ys) (sym (add-zero place))
  lines-append (x ∷ xs) ys place =
      let e : place + 1 + length xs ≡ place + suc (length xs) = omega arith in
      ap (λ (t : List ℕ). line place x ++ t) (lines-append xs ys (place + 1) ∙ ap (λ (k : ℕ). lines (place + 1) xs ++ lines k ys) e)
      ∙ sym (append_assoc (line place x) (lines (place + 1) xs) (lines (place + suc (length xs)) ys))

  module _ (offsets : List ℕ) (place : ℕ) where
    lines_more : (k : ℕ) → k < length offsets → lines place (take k offsets) ++ line (place + k) (get_or offsets k 0) ≡ lines place (take (k + 1) offsets)
    unfolding pair_lines_text
    lines_more k l =
        let n : length (take k offsets) ≡ k = length-take-le k offsets (omega arith) in
        ap (λ (t : List ℕ). lines place (take k offsets) ++ t) (sym (append-nil (line (place + k) (get_or offsets k 0))))
        ∙ ap (λ (i : ℕ). lines place (take k offsets) ++ lines (place + i) (get_or offsets k 0 ∷ [])) (sym n)
        ∙ sym (lines-append (take k offsets) (get_or offsets k 0 ∷ []) place)
        ∙ ap (lines place) (sym (take-suc offsets k 0 l) ∙ ap (λ (i : ℕ). take i offsets) (sym (add-one k)))

    -- ---- the loop that writes them: k of them are written

    pub lined_more : {start now next : Text} {k other : ℕ} → Appended start now (lines place (take k offsets)) → k < length offsets → other ≡ partner table (get_or offsets k 0)
        → Appended now next (pair_text sheet total (place + k) (get_or offsets k 0) other) → Appended start next (lines place (take (k + 1) offsets))
    lined_more {k = k} h l q e =
        appended_as (appended_then h (appended_as e (ap (pair_text sheet total (place + k) (get_or offsets k 0)) q))) (lines_more k l)
