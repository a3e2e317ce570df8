-- W, and the bit of a position in lent words. Assumes nothing.
use mathlib.Core.Path.{◌≡◌, sym, ap, ap₂, ◌∙◌}
use mathlib.Core.Bool.{Bool}
use mathlib.Core.List.{List}
use Prim.Native.Nat.{ℕ, ◌+◌, ◌*◌, ◌/◌, ◌%◌, ◌≤◌, ◌<◌}
use native.Mathlib.Nat.{div-add-mod'}
use native.Mathlib.Omega.{arith}
use lib.ListN.{get_or}
use Rattle.word_bits.specs.Digits.{digit}
use Rattle.sets.specs.Members.{words_of, bit_of}

-- p stands in word k, which is one of the W
pub word_of_lem : (n p : ℕ) → p < n → p / 64 < words_of n
unfolding words_of
word_of_lem n p h = omega arith

pub within_words : (n k j : ℕ) → k < words_of n → j < 64 → k * 64 + j < words_of n * 64
within_words n k j h l = omega arith

pub words_mono : {m n : ℕ} → m ≤ n → words_of m ≤ words_of n
unfolding words_of
words_mono h = omega arith

-- W words hold the length, and no W - 1 do
pub words_hold : (n : ℕ) → (n ≤ words_of n * 64) × (words_of n * 64 < n + 64)
unfolding words_of
words_hold n = omega arith

pub bit_at : (ws : List ℕ) (k j : ℕ) → j < 64 → bit_of ws (k * 64 + j) ≡ digit (get_or ws k 0) j
unfolding bit_of
bit_at ws k j h =
    let q : (k * 64 + j) / 64 ≡ k = omega arith in
    let r : (k * 64 + j) % 64 ≡ j = omega arith in
    ap₂ (λ (a b : ℕ). digit (get_or ws a 0) b) q r

-- a statement about every position below W * 64 is one about every bit of every word
pub by_words : (n : ℕ) (f g : ℕ → Bool) → ((k j : ℕ) → k < words_of n → j < 64 → f (k * 64 + j) ≡ g (k * 64 + j))
    → (p : ℕ) → p < words_of n * 64 → f p ≡ g p
by_words n f g h p l =
    ap f (sym (div-add-mod' p 64)) ∙ h (p / 64) (p % 64) (omega arith) (omega arith) ∙ ap g (div-add-mod' p 64)
