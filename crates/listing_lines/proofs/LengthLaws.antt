-- How long lines are at most. Assumes nothing.
use mathlib.Core.Bool.{Bool, true, false, cond, ◌&&◌}
use mathlib.Core.List.{List, [], ◌∷◌}
use Prim.Native.Nat.{ℕ, zero, suc, ◌+◌, ◌*◌, ◌/◌, ◌%◌, ◌≤◌}
use native.Mathlib.Omega.{arith}
use lib.Dec.{ltb, eqb}
use lib.ListN.{length, length-append}
use Rattle.byte_texts.specs.Ascii.{ascii}
use Rattle.byte_texts.specs.Texts.{decimal, decimal_of}
use Rattle.listing_lines.specs.Lines.{place_text, offset_text, line_text, lines_text, offsets_text, complete_text, count_text, same_text, in_text, different_text, table_text, result_text, verdict_text}

-- one of two texts
either : {m : ℕ} (t : Bool) (x y : List ℕ) → length x ≤ m → length y ≤ m → length (cond t x y) ≤ m
either true x y h k = h
either false x y h k = k

digits_most : (places n : ℕ) → length (decimal_of places n) ≤ places
unfolding decimal_of
digits_most zero n = omega arith
digits_most (suc places) n =
    let ih = digits_most places (n / 10) in
    either (ltb n 10) _ _ (omega arith) (omega (arith, length-append (decimal_of places (n / 10)) ((48 + n % 10) ∷ [])))

pub most : (n : ℕ) → length (decimal n) ≤ 20
most n = digits_most 20 n

-- ---- a line, with names of up to 64 bytes

module _ (sheet missing : Bool) (has lacks : List ℕ) (h : length has ≤ 64) (k : length lacks ≤ 64) (total : ℕ) where
  pub place_most : (place : ℕ) → length (place_text sheet total place) ≤ 42
  unfolding place_text ascii
  place_most place = either sheet _ _ (simp length-append (omega (arith, most place, most total))) (omega arith)

  offset_most : (p : ℕ) → length (offset_text missing has lacks p) ≤ 169
  unfolding offset_text ascii
  offset_most p = either missing _ _ (simp length-append (omega (arith, most p))) (omega (arith, most p))

  line_most : (place p : ℕ) → length (line_text sheet missing has lacks total place p) ≤ 212
  unfolding line_text ascii
  line_most place p = simp length-append (omega (arith, place_most place, offset_most p))

  pub lines_most : (ps : List ℕ) (place : ℕ) → length (lines_text sheet missing has lacks total place ps) ≤ 212 * length ps
  unfolding lines_text
  lines_most [] place = omega arith
  lines_most (p ∷ ps) place = simp length-append (omega (arith, line_most place p, lines_most ps (place + 1)))

-- ---- the last lines

offsets_most : (n : ℕ) → length (offsets_text n) ≤ 28
unfolding offsets_text ascii
offsets_most n = simp length-append (omega (arith, most n, either {m = 8} (eqb n 1) (ascii " offset") (ascii " offsets") (omega arith) (omega arith)))

pub complete_most : (n : ℕ) → length (complete_text n) ≤ 41
unfolding complete_text ascii
complete_most n = simp length-append (omega (arith, offsets_most n))

pub count_most : (n : ℕ) → length (count_text n) ≤ 21
unfolding count_text ascii
count_most n = simp length-append (omega (arith, most n))

same_most : (n : ℕ) → length (same_text n) ≤ 43
unfolding same_text ascii
same_most n = simp length-append (omega (arith, offsets_most n))

module _ (name other : List ℕ) (h : length name ≤ 64) (k : length other ≤ 64) where
  different_most : (a b c d : ℕ) → length (different_text name other a b c d) ≤ 380
  unfolding different_text in_text ascii
  different_most a b c d = simp length-append (omega (arith, most a, most b, most c, most d))

  table_most : (several : Bool) → length (table_text several other) ≤ 66
  unfolding table_text ascii
  table_most several = either several _ _ (simp length-append (omega arith)) (omega arith)

  result_most : (a b c d : ℕ) → length (result_text name other a b c d) ≤ 380
  unfolding result_text
  result_most a b c d = let s = same_most a in either (eqb c 0 && eqb d 0) _ _ (omega arith) (different_most a b c d)

  pub verdict_most : (several : Bool) (a b c d : ℕ) → length (verdict_text several name other a b c d) ≤ 446
  unfolding verdict_text
  verdict_most several a b c d = simp length-append (omega (arith, table_most several, result_most a b c d))
