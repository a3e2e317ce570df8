-- A number at the start of a text. Assumes nothing.
use mathlib.Core.Path.{◌≡◌, refl, sym, ap}
use mathlib.Core.Bool.{true, false, cond}
use mathlib.Core.List.{List}
use mathlib.Core.Logic.{◌⊎◌, inl, inr}
use Prim.Native.Nat.{ℕ}
use lib.Dec.{eqb}
use lib.ListN.{drop}
use Rattle.std.specs.Prelude.{Option, Err}
use Rattle.byte_texts.specs.Ascii.{ascii}
use Rattle.offset_lines.specs.Lines.{drop_blanks, starts_with, is_void, held_value, number_of as told_of, number_text, offset_text}
use Rattle.offset_lines.specs.Numbers.{base_of, bare_of, size_of, number_of, after_number}
use Rattle.offset_lines.specs.Held.{held_number}
use Rattle.offset_lines.specs.declared.entry.Fault.TheVariants.{NotANumber}
use Rattle.offset_lines.specs.declared.scans.Digits.{Digits}
use Rattle.offset_lines.proofs.DigitLaws.{all_read}
use Rattle.offset_lines.proofs.Parts.{from, rest_is, held_is}
use Rattle.offset_lines.proofs.Texts.{yes_no}

-- its base, and the text without `0x`
abbrev pub IsBare : List ℕ → ℕ → List ℕ → Type 0
IsBare text base bare = (base_of text ≡ base) × (bare_of text ≡ bare)

pub hex_bare : (text : List ℕ) {bare : List ℕ} → starts_with (ascii "0x") text ≡ true → bare ≡ drop 2 text → IsBare text 16 bare
unfolding base_of bare_of
hex_bare text s e = (rw s, rw s (sym e))

pub decimal-bare : (text : List ℕ) → starts_with (ascii "0x") text ≡ false → IsBare text 10 text
unfolding base_of bare_of
decimal-bare text s = (rw s, rw s)

-- its digits, and what stands behind them
abbrev pub IsNumber : List ℕ → ℕ → Option ℕ → List ℕ → Type 0
IsNumber text count value rest = (count ≡ size_of text) × (value ≡ held_value (number_of text)) × (rest ≡ after_number text)

pub number_is : (base : ℕ) (text bare : List ℕ) (d : Digits) → d ≡ all_read base bare → IsBare text base bare → IsNumber text d.count d.value (from d.count bare)
unfolding size_of number_of after_number
number_is base text bare d r b = rw (b.0, b.1) (ap (λ (x : Digits). x.count) r, ap (λ (x : Digits). x.value) r, rest_is base bare d r)

-- what is told of the held value is told of the number
pub number_told : (text : List ℕ) (d : Digits) {rest : List ℕ} → IsNumber text d.count d.value rest → held_number d.count d.value ≡ told_of (size_of text) (number_of text)
unfolding held_number told_of
number_told text d n = rw (n.0, n.1) (ap (cond (eqb (size_of text) 0) (Err NotANumber)) (held_is (number_of text)))

-- the offset that a text names is that number, where nothing or a comment stands behind it
pub offset_number : (text : List ℕ) → offset_text text ≡ cond (is_void (drop_blanks (after_number text))) (told_of (size_of text) (number_of text)) (Err NotANumber)
unfolding offset_text number_text size_of number_of after_number base_of bare_of
offset_number text = go (yes_no (starts_with (ascii "0x") text))
  where
    go : (starts_with (ascii "0x") text ≡ true) ⊎ (starts_with (ascii "0x") text ≡ false)
        → offset_text text ≡ cond (is_void (drop_blanks (after_number text))) (told_of (size_of text) (number_of text)) (Err NotANumber)
    go (inl h) = rw h refl
    go (inr h) = rw h refl
