-- The first 2,052 bytes of a line decide what it is, and are shown as it is. Assumes nothing.
use mathlib.Core.Path.{◌≡◌, refl, sym, ap, subst}
use mathlib.Core.Bool.{Bool, true, false, cond}
use mathlib.Core.List.{List, [], ◌∷◌}
use mathlib.Core.Logic.{◌⊎◌, inl, inr}
use Prim.Native.Nat.{ℕ, ◌≤◌, ◌<◌}
use native.Mathlib.Omega.{arith}
use borrow.Author.Tests.{lt-leb}
use lib.Dec.{eqb, lit≤}
use lib.ListN.{length, take, drop, length-take}
use lib.Seq.{take_all, take-take}
use Rattle.word_bits.proofs.Order.{lt-or-le}
use Rattle.byte_texts.specs.Texts.{shown_text}
use Rattle.offset_lines.specs.Lines.{starts_with}
use Rattle.text_lines.specs.Texts.{body_of}

pub shown_cut : (n : ℕ) (line : List ℕ) → 41 ≤ n → shown_text (take n line) ≡ shown_text line
unfolding shown_text
shown_cut n line h = go (lt-or-le 40 (length line))
  where
    go : (40 < length line) ⊎ (length line ≤ 40) → shown_text (take n line) ≡ shown_text line
    go (inl l) =
        rw (lt-leb (length (take n line)) 40 (rw length-take (omega arith)), lt-leb (length line) 40 l, take-take 40 n line (omega arith)) refl
    go (inr g) = ap shown_text (take_all n line (omega arith))

-- ---- a byte order mark

abbrev pub mark : List ℕ
mark = 239 ∷ 187 ∷ 191 ∷ []

mark_cut : (line : List ℕ) → starts_with mark (take 2052 line) ≡ starts_with mark line
unfolding starts_with
mark_cut [] = refl
mark_cut (a ∷ []) = refl
mark_cut (a ∷ b ∷ []) = refl
mark_cut (a ∷ b ∷ c ∷ rest) = refl

-- a line behind it
body_cut : (line : List ℕ) → drop 3 (take 2052 line) ≡ take 2049 (drop 3 line)
body_cut [] = refl
body_cut (a ∷ []) = refl
body_cut (a ∷ b ∷ []) = refl
body_cut (a ∷ b ∷ c ∷ rest) = refl

-- ---- what a line is

-- what is held of a line, and shown, is that of the whole line
pub record Decides {E : Type 0} (entry_of : List ℕ → E) (held full : List ℕ) : Type 0 where
  pub is : entry_of held ≡ entry_of full
  pub shown : shown_text held ≡ shown_text full

module _ {E : Type 0} (entry_of : List ℕ → E) (cut : (n : ℕ) (line : List ℕ) → 2049 ≤ n → entry_of (take n line) ≡ entry_of line) where
  cut_decides : (n : ℕ) (line : List ℕ) → 2049 ≤ n → Decides entry_of (take n line) line
  cut_decides n line h = record { is = cut n line h; shown = shown_cut n line (omega arith) }

  -- and so is what is held without a mark
  held_body : (t u : Bool) (full : List ℕ)
      → Decides entry_of (cond t (cond u (drop 3 (take 2052 full)) (take 2052 full)) (take 2052 full)) (cond t (cond u (drop 3 full) full) full)
  held_body true true full = subst (λ (xs : List ℕ). Decides entry_of xs (drop 3 full)) (sym (body_cut full)) (cut_decides 2049 (drop 3 full) (lit≤ tt))
  held_body true false full = cut_decides 2052 full (lit≤ tt)
  held_body false u full = cut_decides 2052 full (lit≤ tt)

  pub body_held : (lines : ℕ) (full : List ℕ) {n : ℕ} {held body : List ℕ} → n ≡ lines → held ≡ take 2052 full → body ≡ body_of n held
      → Decides entry_of body (body_of lines full)
  unfolding body_of
  body_held lines full e c b = rw (b, e, c, mark_cut full) (held_body (eqb lines 0) (starts_with mark full) full)
