-- Two numbers in a text. Assumes nothing.
use mathlib.Core.Path.{◌≡◌, refl, ap, ap₂, ◌∙◌}
use mathlib.Core.Bool.{true, false, cond, ◌||◌}
use mathlib.Core.List.{List}
use mathlib.Core.Logic.{◌⊎◌, inl, inr}
use Prim.Native.Nat.{ℕ, ◌<◌}
use borrow.Author.Tests.{ltb-true, leb-true, leb-false, le-ltb, lt-ltb}
use lib.Dec.{eqb, leb, ltb}
use Rattle.std.specs.Prelude.{Option, Some, None, Result, Ok, Err, IfOk}
use Rattle.std.proofs.lemmas.Result.{IfOk-at_ok}
use Rattle.offset_lines.specs.Lines.{drop_blanks, held_value, offset_of}
use Rattle.offset_lines.specs.Held.{held_offset}
use Rattle.offset_lines.specs.declared.entry.Fault.{Fault}
use Rattle.offset_lines.specs.declared.entry.Fault.TheVariants.{NotTwoNumbers, TooLarge}
use Rattle.pair_lines.specs.declared.pair.Pair.{Pair}
use Rattle.offset_lines.proofs.Parts.{held_is}
use Rattle.offset_lines.proofs.Texts.{yes_no}
use Rattle.offset_lines.specs.Numbers.{size_of, number_of, after_number}
use Rattle.pair_lines.specs.Lines.{second_of, pair_of}
use Rattle.pair_lines.specs.Held.{both, held_pair}

-- what is told of the held values is told of the values
both_is : (v w : ℕ) → both (offset_of v) (offset_of w) ≡ cond (leb 65536 v || leb 65536 w) (Err TooLarge) (Ok (record { old = v; new = w }))
unfolding offset_of
both_is v w = go (yes_no (leb 65536 v)) (yes_no (leb 65536 w))
  where
    go : (leb 65536 v ≡ true) ⊎ (leb 65536 v ≡ false) → (leb 65536 w ≡ true) ⊎ (leb 65536 w ≡ false)
        → both (cond (ltb v 65536) (Ok v) (Err TooLarge)) (cond (ltb w 65536) (Ok w) (Err TooLarge))
        ≡ cond (leb 65536 v || leb 65536 w) (Err TooLarge) (Ok (record { old = v; new = w }))
    go (inl h) k = rw (h, le-ltb v 65536 (leb-true 65536 v h)) refl
    go (inr h) (inl k) = rw (h, k, lt-ltb v 65536 (leb-false 65536 v h), le-ltb w 65536 (leb-true 65536 w k)) refl
    go (inr h) (inr k) = rw (h, k, lt-ltb v 65536 (leb-false 65536 v h), lt-ltb w 65536 (leb-false 65536 w k)) refl

pub pair_held : (olds news v w : ℕ) {old new : Option ℕ} {p : Result Pair Fault} → p ≡ held_pair olds old news new → old ≡ held_value v → new ≡ held_value w
    → p ≡ pair_of olds v news w
unfolding held_pair pair_of
pair_held olds news v w e a b =
    e ∙ ap (cond (eqb olds 0 || eqb news 0) (Err NotTwoNumbers)) (ap₂ (λ (x y : Option ℕ). both (held_offset x) (held_offset y)) a b ∙ ap₂ both (held_is v) (held_is w) ∙ both_is v w)

module _ (text : List ℕ) where
  pub second_is : {behind more : List ℕ} → behind ≡ after_number text → more ≡ drop_blanks behind → more ≡ second_of text
  unfolding second_of
  second_is b m = m ∙ ap drop_blanks b

  pub rest_is : {more behind rest : List ℕ} → more ≡ second_of text → behind ≡ after_number more → rest ≡ drop_blanks behind → rest ≡ drop_blanks (after_number (second_of text))
  rest_is s b r = r ∙ ap drop_blanks (b ∙ ap after_number s)

  pub pair_is : {m n : ℕ} {more : List ℕ} {p : Result Pair Fault} → m ≡ size_of text → more ≡ second_of text → n ≡ size_of more
      → p ≡ pair_of m (number_of text) n (number_of (second_of text)) → p ≡ pair_of (size_of text) (number_of text) (size_of (second_of text)) (number_of (second_of text))
  pair_is a s b e = e ∙ ap₂ (λ (x y : ℕ). pair_of x (number_of text) y (number_of (second_of text))) a (b ∙ ap size_of s)

-- ---- an offset fits in 16 bits

offset_if : (value : Option ℕ) → IfOk (held_offset value) (λ o. o < 65536)
unfolding held_offset offset_of
offset_if (Some v) = go (yes_no (ltb v 65536))
  where
    go : (ltb v 65536 ≡ true) ⊎ (ltb v 65536 ≡ false) → IfOk (cond (ltb v 65536) (Ok v) (Err TooLarge)) (λ o. o < 65536)
    go (inl h) = rw h (ltb-true v 65536 h)
    go (inr h) = rw h tt
offset_if None = tt

pub offset_small : (value : Option ℕ) (offset : ℕ) → held_offset value ≡ Ok offset → offset < 65536
offset_small value offset e = IfOk-at_ok (λ o. o < 65536) e (offset_if value)
