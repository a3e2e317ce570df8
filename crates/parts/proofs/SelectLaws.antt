-- Selected words, by their digits. Assumes nothing.
use mathlib.Core.Path.{◌≡◌, refl, ap, ◌∙◌}
use mathlib.Core.Bool.{Bool, ◌&&◌}
use mathlib.Core.List.{List}
use Prim.Native.Nat.{ℕ, ◌-◌, ◌/◌, ◌%◌, ◌^◌, ◌<◌}
use native.Mathlib.Omega.{arith}
use lib.Bits.{and_lt}
use lib.ListN.{get_or}
use lib.Pow.{ones_sub-lt}
use Rattle.word_bits.specs.Digits.{digit, row}
use Rattle.word_bits.proofs.Operations.{digit_and, digit_not}
use Rattle.sets.specs.Members.{bit_of}
use Rattle.parts.specs.Helpers.{select_word, selected_word}
use Rattle.parts.specs.Selections.{Selection, Ones, Zeroes, Intersection, Difference, selected}

module _ (x y : ℕ) (hx : x < 2 ^ 64) (hy : y < 2 ^ 64) where
  pub select_lt : (s : Selection) → select_word s x y < 2 ^ 64
  select_lt Ones = hx
  select_lt Zeroes = ones_sub-lt 64 x
  select_lt Intersection = and_lt 64 x y hx hy
  select_lt Difference = and_lt 64 x ((2 ^ 64 - 1) - y) hx (ones_sub-lt 64 y)

  select_digit : (s : Selection) (j : ℕ) → j < 64 → digit (select_word s x y) j ≡ selected s (digit x j) (digit y j)
  select_digit Ones j h = refl
  select_digit Zeroes j h = digit_not 64 x j hx h
  select_digit Intersection j h = digit_and x y j
  select_digit Difference j h = digit_and x ((2 ^ 64 - 1) - y) j ∙ ap (λ (b : Bool). digit x j && b) (digit_not 64 y j hy h)

-- the bits of selected words are selected bits
pub select_row : (s : Selection) (ws vs : List ℕ) → ((k : ℕ) → get_or ws k 0 < 2 ^ 64) → ((k : ℕ) → get_or vs k 0 < 2 ^ 64) → (p : ℕ)
    → row (selected_word s ws vs) p ≡ selected s (bit_of ws p) (bit_of vs p)
unfolding row bit_of
select_row s ws vs hw hv p = select_digit (get_or ws (p / 64) 0) (get_or vs (p / 64) 0) (hw (p / 64)) (hv (p / 64)) s (p % 64) (omega arith)
