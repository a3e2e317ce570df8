-- What users of a line need: a long line may be cut, and its offsets are in range. Assumes nothing.
use mathlib.Core.Path.{◌≡◌, refl}
use mathlib.Core.Bool.{Bool, true, false, cond, ◌||◌}
use mathlib.Core.List.{List}
use Prim.Native.Nat.{ℕ, ◌≤◌, ◌<◌}
use borrow.Author.Tests.{leb-false}
use lib.Dec.{eqb, leb}
use lib.ListN.{take}
use Rattle.std.specs.Prelude.{Ok, Err}
use Rattle.byte_texts.specs.Ascii.{ascii}
use Rattle.offset_lines.specs.Lines.{drop_blanks, is_void}
use Rattle.offset_lines.specs.declared.entry.Entry.TheVariants.{Item}
use Rattle.offset_lines.specs.declared.entry.Fault.TheVariants.{TooLarge}
use Rattle.offset_lines.proofs.LineLaws.{cut_line, ItemFair, fair, unfair, either_item, item_is}
use Rattle.offset_lines.specs.Numbers.{size_of, number_of, after_number}
use Rattle.pair_lines.specs.Lines.{pair_of, second_of, pair_text, pair_line_of}
use Rattle.pair_lines.specs.declared.pair.Pair.{Pair}

pub line_cut : (n : ℕ) (line : List ℕ) → 2049 ≤ n → pair_line_of (take n line) ≡ pair_line_of line
unfolding pair_line_of
line_cut n line l = cut_line (ascii " pair") (ascii " pairs") pair_text n line l

-- ---- both offsets of a pair are below 65,536

abbrev below : Pair → Type 0
below x = (x.old < 65536) × (x.new < 65536)

small_fair : (old new : ℕ) (s t : Bool) → (s ≡ false → old < 65536) → (t ≡ false → new < 65536)
    → ItemFair below (cond (s || t) (Err TooLarge) (Ok (record { old = old; new = new })))
small_fair old new true t l m = unfair
small_fair old new false true l m = unfair
small_fair old new false false l m = fair (l refl, m refl)

pair_fair : (olds old news new : ℕ) → ItemFair below (pair_of olds old news new)
unfolding pair_of
pair_fair olds old news new =
    either_item below (eqb olds 0 || eqb news 0) (λ e. unfair)
    (small_fair old new (leb 65536 old) (leb 65536 new) (λ e. leb-false 65536 old e) (λ e. leb-false 65536 new e))

text_fair : (text : List ℕ) → ItemFair below (pair_text text)
unfolding pair_text
text_fair text =
    either_item below (is_void (drop_blanks (after_number (second_of text))))
    (λ e. pair_fair (size_of text) (number_of text) (size_of (second_of text)) (number_of (second_of text))) unfair

pub pair_below : (line : List ℕ) (x : Pair) → pair_line_of line ≡ Ok (Item x) → (x.old < 65536) × (x.new < 65536)
unfolding pair_line_of
pair_below line x e = item_is below (ascii " pair") (ascii " pairs") pair_text text_fair line x e
