-- The bytes that are held of a line. Assumes nothing.
use mathlib.Core.Path.{◌≡◌, sym, ap, ◌∙◌}
use mathlib.Core.List.{List, [], ◌∷◌, ◌++◌}
use Prim.Native.Nat.{ℕ, ◌+◌, ◌≤◌, ◌<◌}
use native.Mathlib.Numerals.{add-one}
use native.Mathlib.Omega.{arith}
use lib.ListN.{take, set as set_at, length-append, length-set}
use lib.Seq.{take_all, take-suc-set, take-append-le}
use Rattle.text_lines.specs.Rests.{HoldsRest}
use Rattle.text_lines.specs.declared.open_line.OpenLine.{OpenLine}

module _ (rest : List ℕ) {line : OpenLine} (h : HoldsRest rest line) (b : ℕ) where
  pub byte_stored : line.length < 2052 → {line' : OpenLine} → line'.length ≡ line.length + 1 → line'.bytes ≡ set_at line.bytes line.length b
      → HoldsRest (rest ++ (b ∷ [])) line'
  byte_stored l e f = record {
    line_long = rw (f, length-set) h.line_long;
    rest_length = rw length-append (omega (arith, e, l, h.rest_length));
    rest_bytes =
        rw (e, f) (ap (λ (n : ℕ). take n (set_at line.bytes line.length b)) (add-one line.length) ∙ take-suc-set line.bytes line.length b (omega (arith, l, h.line_long))
        ∙ ap (λ (xs : List ℕ). xs ++ (b ∷ [])) (h.rest_bytes ∙ take_all 2052 rest (omega (arith, l, h.rest_length)))
        ∙ sym (take_all 2052 (rest ++ (b ∷ [])) (rw length-append (omega (arith, l, h.rest_length)))));
  }

  -- or the line has enough bytes already
  pub byte_passed : 2052 ≤ line.length → HoldsRest (rest ++ (b ∷ [])) line
  byte_passed g = record {
    line_long = h.line_long;
    rest_length = rw length-append (omega (arith, g, h.rest_length));
    rest_bytes = h.rest_bytes ∙ sym (take-append-le 2052 rest (b ∷ []) (omega (arith, g, h.rest_length)));
  }
