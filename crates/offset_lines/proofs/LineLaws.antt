-- What users of a line need: a long line may be cut, and its numbers are in range. Assumes nothing.
use mathlib.Core.Path.{◌≡◌, refl, ap, subst}
use mathlib.Core.Bool.{Bool, true, false, cond, ◌&&◌, ◌||◌}
use mathlib.Core.Logic.{◌⊎◌, inl, inr}
use mathlib.Core.List.{List}
use Prim.Native.Nat.{ℕ, ◌≤◌, ◌<◌}
use native.Mathlib.Omega.{arith}
use borrow.Author.Tests.{ltb-true, ltb-false, lt-ltb, leb-true}
use lib.Dec.{eqb, leb, ltb}
use lib.ListN.{length, take, drop, length-take}
use lib.Seq.{take_all}
use Rattle.std.specs.Prelude.{Option, Some, None, Result, Ok, Err}
use Rattle.byte_texts.specs.Ascii.{ascii}
use Rattle.offset_lines.specs.Lines.{fault_text, drop_blanks, digits_of, after_digits, value_of, starts_with, is_text, is_void, held_value, offset_of, number_of, number_text, offset_text, said_of, said_number, says_of, complete_text, item_line, text_of, without_return, has_return, line_by, line_of}
use Rattle.offset_lines.specs.declared.entry.Entry.{Entry}
use Rattle.offset_lines.specs.declared.entry.Entry.TheVariants.{Blank, Item, Says}
use Rattle.offset_lines.specs.declared.entry.Fault.{Fault}
use Rattle.offset_lines.specs.declared.entry.Fault.TheVariants.{NotANumber, NotTwoNumbers, TooLarge, CarriageReturn, TooLong, Damaged}
use Rattle.offset_lines.proofs.Texts.{yes_no}

module _ {T : Type 0} (one many : List ℕ) (item : List ℕ → Result T Fault) where
  -- ---- a line cut behind its 2,048th byte is still too long, and a shorter one is not cut

  pub cut_line : (n : ℕ) (line : List ℕ) → 2049 ≤ n → line_by one many item (take n line) ≡ line_by one many item line
  unfolding line_by
  cut_line n line l = go (yes_no (ltb 2048 (length line)))
    where
      go : (ltb 2048 (length line) ≡ true) ⊎ (ltb 2048 (length line) ≡ false) → line_by one many item (take n line) ≡ line_by one many item line
      go (inl e) =
          let m = ltb-true 2048 (length line) e in
          let h = length-take n line in
          simp (e, lt-ltb 2048 (length (take n line)) (omega arith))
      go (inr e) = let m = ltb-false 2048 (length line) e in ap (line_by one many item) (take_all n line (omega arith))

-- ---- what holds of each item holds of the item of a line, and a list says at most 65,536

module _ {T : Type 0} (P : T → Type 0) where
  pub data ItemFair : Result T Fault → Type 0 where
    fair : {x : T} → P x → ItemFair (Ok x)
    unfair : {e : Fault} → ItemFair (Err e)

  pub either_item : (b : Bool) {x y : Result T Fault} → (b ≡ true → ItemFair x) → ItemFair y → ItemFair (cond b x y)
  either_item true f g = f refl
  either_item false f g = g

  data InRange : Result (Entry T) Fault → Type 0 where
    blank : InRange (Ok Blank)
    item_in : {x : T} → P x → InRange (Ok (Item x))
    says : {n : ℕ} → n ≤ 65536 → InRange (Ok (Says n))
    bad : {e : Fault} → InRange (Err e)

  either : (b : Bool) {x y : Result (Entry T) Fault} → (b ≡ true → InRange x) → InRange y → InRange (cond b x y)
  either true f g = f refl
  either false f g = g

  -- what a last line says, where it says something
  held_says : (v : ℕ) → InRange (says_of (held_value v))
  unfolding held_value
  held_says v = go (leb v 65536) (λ e. leb-true v 65536 e)
    where
      go : (b : Bool) → (b ≡ true → v ≤ 65536) → InRange (says_of (cond b (Some v) None))
      go true l = says (l refl)
      go false l = bad

  some_says : (b : Bool) (s : Option ℕ) → InRange (says_of s) → InRange (says_of (cond b s None))
  some_says true s h = h
  some_says false s h = bad

  complete_range : (one many rest : List ℕ) → InRange (complete_text one many rest)
  unfolding complete_text said_number said_of
  complete_range one many rest =
      let text = drop 1 rest in
      let value = value_of 10 (digits_of 10 text) in
      let word = after_digits 10 text in
      let b = ltb 0 (length (digits_of 10 text)) && (is_text one word || is_text many word) in
      some_says (starts_with (ascii " ") rest) (cond b (held_value value) None) (some_says b (held_value value) (held_says value))

  module _ (one many : List ℕ) (item : List ℕ → Result T Fault) (each : (text : List ℕ) → ItemFair (item text)) where
    item_range : {r : Result T Fault} → ItemFair r → InRange (item_line r)
    item_range (fair h) = item_in h
    item_range unfair = bad

    text_range : (text : List ℕ) → InRange (text_of one many item text)
    unfolding text_of
    text_range text =
        either (is_void text) (λ e. either (starts_with (ascii "# complete:") text) (λ e. complete_range one many (drop 11 text)) blank) (item_range (each text))

    range_line : (line : List ℕ) → InRange (line_by one many item line)
    unfolding line_by
    range_line line =
        either (ltb 2048 (length line)) (λ e. bad) (either (has_return (without_return line)) (λ e. bad) (text_range (drop_blanks (without_return line))))

    pub item_is : (line : List ℕ) (x : T) → line_by one many item line ≡ Ok (Item x) → P x
    item_is line x e = go (subst InRange e (range_line line))
      where
        go : InRange (Ok (Item x)) → P x
        go (item_in h) = h

    pub says_is : (line : List ℕ) (n : ℕ) → line_by one many item line ≡ Ok (Says n) → n ≤ 65536
    says_is line n e = go (subst InRange e (range_line line))
      where
        go : InRange (Ok (Says n)) → n ≤ 65536
        go (says l) = l

-- ---- what is said of a line that may not stand there is short

pub fault_short : (fault : Fault) → length (fault_text fault) ≤ 64
unfolding fault_text ascii
fault_short NotANumber = omega arith
fault_short NotTwoNumbers = omega arith
fault_short TooLarge = omega arith
fault_short CarriageReturn = omega arith
fault_short TooLong = omega arith
fault_short Damaged = omega arith

-- ---- a line of offsets

pub line_cut : (n : ℕ) (line : List ℕ) → 2049 ≤ n → line_of (take n line) ≡ line_of line
unfolding line_of
line_cut n line l = cut_line (ascii " offset") (ascii " offsets") offset_text n line l

-- an offset is below 65,536, and a list says at most 65,536

abbrev below : ℕ → Type 0
below p = p < 65536

number_fair : (base : ℕ) (text : List ℕ) → ItemFair below (number_text base text)
unfolding number_text number_of offset_of
number_fair base text =
    let v = value_of base (digits_of base text) in
    either_item below (is_void (drop_blanks (after_digits base text)))
    (λ e. either_item below (eqb (length (digits_of base text)) 0) (λ e. unfair) (either_item below (ltb v 65536) (λ e. fair (ltb-true v 65536 e)) unfair)) unfair

offset_fair : (text : List ℕ) → ItemFair below (offset_text text)
unfolding offset_text
offset_fair text = either_item below (starts_with (ascii "0x") text) (λ e. number_fair 16 (drop 2 text)) (number_fair 10 text)

pub offset_below : (line : List ℕ) (p : ℕ) → line_of line ≡ Ok (Item p) → p < 65536
unfolding line_of
offset_below line p e = item_is below (ascii " offset") (ascii " offsets") offset_text offset_fair line p e

pub says_below : (line : List ℕ) (n : ℕ) → line_of line ≡ Ok (Says n) → n ≤ 65536
unfolding line_of
says_below line n e = says_is below (ascii " offset") (ascii " offsets") offset_text offset_fair line n e
