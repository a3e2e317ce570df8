-- Pieces of a text that is written into a lent buffer from its start on. Assumes nothing.
use mathlib.Core.Path.{◌≡◌, sym, ap, subst⁻¹, ◌∙◌}
use mathlib.Core.Bool.{Bool, true, cond}
use mathlib.Core.List.{List, ◌++◌}
use mathlib.Core.Logic.{◌⊎◌, inl, inr}
use Prim.Native.Nat.{ℕ, ◌+◌, ◌-◌, ◌≤◌, ◌<◌}
use native.Mathlib.Omega.{arith}
use borrow.Author.Tests.{lt-ltb, le-ltb}
use lib.Dec.{ltb}
use lib.ListN.{length, take, length-append}
use lib.Seq.{length-take-le}
use Rattle.std.specs.Prelude.{Option, None, Some}
use Rattle.word_bits.proofs.Order.{lt-or-le}
use Rattle.byte_texts.specs.Growth.{Appended}
use Rattle.byte_texts.specs.declared.texts.Text.{Text}
use Rattle.byte_texts.proofs.GrowthLaws.{appended_same, appended_room, appended_end, appended_whole}
use Rattle.listing_lines.specs.Pieces.{Piece, piece_of, piece_in}
use Rattle.listing_lines.specs.declared.pages.Page.{Page}
use Rattle.listing_lines.specs.declared.pages.Written.{Written}

-- what holds of a piece where the buffer has room for more, and of no piece where it has not, holds of what is given
pub piece_by : {S R : Type 0} (text : Text) {page next : Page S R} {result : Option (Written S R)} → result ≡ piece_in text next → (P : Piece S R → Type 0)
    → (text.end < length text.out.now → P (record { length = text.end; page = next; whole = true })) → (length text.out.now ≤ text.end → P (piece_of page None)) → P (piece_of page result)
unfolding piece_in
piece_by text {page} {next} e P is none = subst⁻¹ (λ o. P (piece_of page o)) e (go (lt-or-le text.end (length text.out.now)))
  where
    at : Bool → Type 0
    at t = P (piece_of page (cond t (Some (record { length = text.end; page = next })) None))

    go : (text.end < length text.out.now) ⊎ (length text.out.now ≤ text.end) → P (piece_of page (cond (ltb text.end (length text.out.now)) (Some (record { length = text.end; page = next })) None))
    go (inl l) = subst⁻¹ at (lt-ltb text.end (length text.out.now) l) (is l)
    go (inr g) = subst⁻¹ at (le-ltb text.end (length text.out.now) g) (none g)

-- a text that was empty
module _ {before after : Text} {t : List ℕ} (h : Appended before after t) (empty : before.end ≡ 0) {out : List ℕ} (now : out ≡ after.out.now) where
  -- in a buffer of 16,384 bytes a shorter one has room
  pub short_room : length t < 16384 → 16384 ≤ length out → length after.out.now ≤ after.end → ⊥
  short_room s m n =
      let e = ap length now in
      omega (arith, n, e, s, m, appended_end h empty (omega (arith, e, s, m, appended_same h empty)))

  -- it is there whole where the buffer has room for more
  module _ (room : after.end < length after.out.now) where
    pub text_end : after.end ≡ length t
    text_end = appended_end h empty (appended_room h empty room)

    pub text_fits : after.end ≤ length out
    text_fits = omega (arith, room, ap length now)

    pub text_whole : take after.end out ≡ t
    text_whole = ap (take after.end) now ∙ appended_whole h empty (appended_room h empty room)

-- a piece and what is left after it are what was left before it: so, where no stage comes again and one goes on, it leaves less to do
pub left_less : (out after : List ℕ) {now : List ℕ} {n i j : ℕ} (top : ℕ) → n ≤ length out → take n out ++ after ≡ now → i < top → i ≤ j → (0 < n) ⊎ (i < j)
    → length after + (top - j) < length now + (top - i)
left_less out after {now} {n} {i} {j} top fits text before later = go
  where
    sizes : n + length after ≡ length now
    sizes = ap (λ (k : ℕ). k + length after) (sym (length-take-le n out fits)) ∙ sym (length-append (take n out) after) ∙ ap length text

    go : (0 < n) ⊎ (i < j) → length after + (top - j) < length now + (top - i)
    go (inl l) = omega (arith, sizes, later)
    go (inr l) = omega (arith, sizes)
