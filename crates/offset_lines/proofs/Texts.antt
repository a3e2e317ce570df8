-- One turn of the loops over the bytes of a text, and the end of a line. Assumes nothing.
use mathlib.Core.Path.{◌≡◌, refl, sym, ap}
use mathlib.Core.Bool.{Bool, true, false, ◌&&◌, ◌||◌, and_assoc}
use mathlib.Core.Logic.{◌⊎◌, inl, inr}
use mathlib.Core.List.{List, [], ◌∷◌}
use Prim.Native.Nat.{ℕ, zero, suc, ◌+◌, ◌<◌}
use native.Mathlib.Numerals.{add-one, one-add}
use native.Mathlib.Omega.{arith}
use borrow.Author.Tests.{eq-eqb, ne_eqb, eqb-true, eqb-false}
use lib.Dec.{eqb, eqb-suc-suc}
use lib.ListN.{length, get_or, take, drop}
use lib.Seq.{drop-cons}
use lib.Pointwise.{pointwise}
use Rattle.std.specs.Prelude.{Result, Ok, Err}
use Rattle.std.specs.Result.{IsErrAnd}
use Rattle.std.specs.List.{list_any, take_while}
use Rattle.offset_lines.specs.Lines.{is_blank, drop_blanks, starts_with, is_text, is_void, without_return, has_return}

pub yes_no : (b : Bool) → (b ≡ true) ⊎ (b ≡ false)
yes_no true = inl refl
yes_no false = inr refl

-- the byte at k and those behind it
pub at_next : (text : List ℕ) (k : ℕ) → k < length text → drop k text ≡ get_or text k 0 ∷ drop (k + 1) text
at_next text k l = rw add-one (drop-cons text k 0 l)

-- a fault that `?` hands on
pub refused_as : {A E : Type 0} (r : Result A E) (e : E) → IsErrAnd r (λ x. x ≡ e) → r ≡ Err e
refused_as (Ok x) e h = absurd h
refused_as (Err x) e h = ap Err h

-- ---- what the library's methods give

pub return_any : (text : List ℕ) → list_any (λ b. eqb b 13) text ≡ has_return text
unfolding has_return
return_any [] = refl
return_any (b ∷ text) = ap (λ (t : Bool). eqb b 13 || t) (return_any text)

pub blanks_skipped : (text : List ℕ) → drop (length (take_while is_blank text)) text ≡ drop_blanks text
unfolding drop_blanks
blanks_skipped [] = refl
blanks_skipped (b ∷ text) = go (yes_no (is_blank b)) (blanks_skipped text)
  where
    go : (is_blank b ≡ true) ⊎ (is_blank b ≡ false) → drop (length (take_while is_blank text)) text ≡ drop_blanks text
        → drop (length (take_while is_blank (b ∷ text))) (b ∷ text) ≡ drop_blanks (b ∷ text)
    go (inl h) same = simp (h, one-add) same
    go (inr h) same = simp h

pub starts_as : (these text : List ℕ) → pointwise eqb these (take (length these) text) ≡ starts_with these text
unfolding starts_with
starts_as [] text = refl
starts_as (p ∷ these) [] = refl
starts_as (p ∷ these) (b ∷ text) = ap (λ (t : Bool). eqb p b && t) (starts_as these text)

eqb_comm : (a b : ℕ) → eqb a b ≡ eqb b a
eqb_comm a b = go (yes_no (eqb a b))
  where
    go : (eqb a b ≡ true) ⊎ (eqb a b ≡ false) → eqb a b ≡ eqb b a
    go (inl e) = let f = eqb-true a b e in rw f
    go (inr e) = rw (e, ne_eqb b a (λ f. eqb-false a b e (sym f)))

-- what `strip_prefix` tests
pub strips_as : (these text : List ℕ) → pointwise eqb (take (length these) text) these ≡ starts_with these text
unfolding starts_with
strips_as [] text = refl
strips_as (p ∷ these) [] = refl
strips_as (p ∷ these) (b ∷ text) = simp (eqb_comm b p, strips_as these text)

-- a text is these bytes where it starts with them and is as long
pub text_as : (these text : List ℕ) → pointwise eqb text these ≡ is_text these text
unfolding is_text starts_with
text_as [] [] = refl
text_as [] (b ∷ text) = rw (ne_eqb 0 (length (b ∷ text)) (λ e. absurd (omega (arith, e))))
text_as (p ∷ these) [] = refl
text_as (p ∷ these) (b ∷ text) = simp (eqb_comm b p, text_as these text, eqb-suc-suc, and_assoc)

-- ---- nothing, or a comment

pub void_empty : (text : List ℕ) → length text ≡ 0 → true ≡ is_void text
unfolding is_void
void_empty [] e = refl
void_empty (b ∷ text) e = absurd (omega arith)

pub void_first : (text : List ℕ) → (length text ≡ 0 → ⊥) → eqb (get_or text 0 0) 35 ≡ is_void text
unfolding is_void
void_first [] e = absurd (e refl)
void_first (b ∷ text) e = refl

-- ---- the end of a line

pub end_empty : (line : List ℕ) → length line ≡ 0 → line ≡ without_return line
unfolding without_return
end_empty [] e = refl
end_empty (b ∷ line) e = absurd (omega arith)

pub end_return : (line : List ℕ) (n : ℕ) → length line ≡ suc n → get_or line n 0 ≡ 13 → take n line ≡ without_return line
unfolding without_return
end_return [] n e h = absurd (omega arith)
end_return (b ∷ []) zero e h = simp (eq-eqb b 13 h)
end_return (b ∷ []) (suc n) e h = absurd (omega arith)
end_return (b ∷ c ∷ line) zero e h = absurd (omega arith)
end_return (b ∷ c ∷ line) (suc n) e h = ap (λ (l : List ℕ). b ∷ l) (end_return (c ∷ line) n (omega arith) h)

pub end_other : (line : List ℕ) (n : ℕ) → length line ≡ suc n → (get_or line n 0 ≡ 13 → ⊥) → line ≡ without_return line
unfolding without_return
end_other [] n e h = refl
end_other (b ∷ []) zero e h = simp (ne_eqb b 13 h)
end_other (b ∷ []) (suc n) e h = absurd (omega arith)
end_other (b ∷ c ∷ line) zero e h = absurd (omega arith)
end_other (b ∷ c ∷ line) (suc n) e h = ap (λ (l : List ℕ). b ∷ l) (end_other (c ∷ line) n (omega arith) h)
