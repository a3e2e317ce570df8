-- Counts over a row from a place on, in words of 64 places. Assumes nothing.
use mathlib.Core.Path.{◌≡◌, refl, sym, ap, ap₂, ◌∙◌}
use mathlib.Core.Bool.{Bool, false}
use mathlib.Core.List.{List, [], ◌∷◌}
use Prim.Native.Nat.{ℕ, suc, ◌+◌, ◌-◌, ◌*◌, ◌/◌, ◌%◌, ◌≤◌, ◌<◌, min}
use native.Mathlib.Nat.{zero-add}
use native.Mathlib.Omega.{arith}
use lib.ListN.{length, get_or, take, drop, length-drop}
use lib.Seq.{get_or-take, get_or-drop, length-take-le}
use Rattle.std.specs.List.{sum_by}
use Rattle.std.proofs.lemmas.List.Sums.{sum_by-cons}
use Rattle.word_bits.specs.Digits.{digit, row}
use Rattle.word_bits.specs.Counts.{count}
use Rattle.word_bits.proofs.Ones.{count_add, count_ext, count_none}
use Rattle.sets.specs.Members.{bit_of}
use Rattle.tests.proofs.RowLaws.{count_clip}

-- the n places from `base` on
abbrev pub run : (ℕ → Bool) → ℕ → ℕ → ℕ
run m base n = count n (λ j. m (base + j))

run_add : (m : ℕ → Bool) (base a b : ℕ) → run m base (a + b) ≡ run m base a + run m (base + a) b
run_add m base a b =
    count_add a b (λ j. m (base + j))
    ∙ ap (λ (x : ℕ). run m base a + x) (count_ext b (λ j. m (base + (a + j))) (λ j. m (base + a + j)) (λ j l. ap m (omega arith)))

module _ (m : ℕ → Bool) (first end : ℕ) (below : (p : ℕ) → p < first * 64 → m p ≡ false) (off : (p : ℕ) → end ≤ p → m p ≡ false) where
  from_first : (n : ℕ) → end ≤ first * 64 + n → count end m ≡ run m (first * 64) n
  from_first n h =
      sym (count_clip m end off (first * 64 + n) h) ∙ count_add (first * 64) n m
      ∙ ap (λ (x : ℕ). x + run m (first * 64) n) (count_none (first * 64) m below) ∙ zero-add (run m (first * 64) n)

  pub one_word : end ≤ (first + 1) * 64 → count end m ≡ run m (first * 64) 64
  one_word h = from_first 64 (omega arith)

  -- the first word, those between, the last word
  pub three_parts : (last : ℕ) → first < last → end ≤ (last + 1) * 64
      → count end m ≡ run m (first * 64) 64 + run m ((first + 1) * 64) ((last - (first + 1)) * 64) + run m (last * 64) 64
  three_parts last l h =
      let b : first * 64 + 64 ≡ (first + 1) * 64 = omega arith in
      let e : first * 64 + (64 + (last - (first + 1)) * 64) ≡ last * 64 = omega arith in
      from_first (64 + (last - (first + 1)) * 64 + 64) (omega arith) ∙ run_add m (first * 64) (64 + (last - (first + 1)) * 64) 64
      ∙ ap₂ ◌+◌
      (run_add m (first * 64) 64 ((last - (first + 1)) * 64)
      ∙ ap (λ (x : ℕ). run m (first * 64) 64 + run m x ((last - (first + 1)) * 64)) b)
      (ap (λ (x : ℕ). run m x 64) e)

-- the ones of the words that a list makes, word by word, are the bits of their row
pub words_count : {X : Type 0} (f : X → ℕ) (d : X) (xs : List X)
    → sum_by (λ x. count 64 (digit (f x))) xs ≡ count (length xs * 64) (row (λ k. f (get_or xs k d)))
unfolding count row
words_count f d [] = refl
words_count f d (x ∷ xs) =
    let n : suc (length xs) * 64 ≡ 64 + length xs * 64 = omega arith in
    sum_by-cons (λ y. count 64 (digit (f y))) x xs ∙ ap (λ (y : ℕ). count 64 (digit (f x)) + y) (words_count f d xs)
    ∙ sym (ap (λ (m : ℕ). count m (row (λ k. f (get_or (x ∷ xs) k d)))) n ∙ count_add 64 (length xs * 64) (row (λ k. f (get_or (x ∷ xs) k d)))
    ∙ ap₂ ◌+◌ (count_ext 64 (row (λ k. f (get_or (x ∷ xs) k d))) (digit (f x)) first)
    (count_ext (length xs * 64) (λ j. row (λ k. f (get_or (x ∷ xs) k d)) (64 + j)) (row (λ k. f (get_or xs k d))) rest))
  where
    first : (j : ℕ) → j < 64 → row (λ k. f (get_or (x ∷ xs) k d)) j ≡ digit (f x) j
    first j l =
        let q : j / 64 ≡ 0 = omega arith in
        let r : j % 64 ≡ j = omega arith in
        ap₂ (λ (k i : ℕ). digit (f (get_or (x ∷ xs) k d)) i) q r

    rest : (j : ℕ) → j < length xs * 64 → row (λ k. f (get_or (x ∷ xs) k d)) (64 + j) ≡ row (λ k. f (get_or xs k d)) j
    rest j l =
        let q : (64 + j) / 64 ≡ suc (j / 64) = omega arith in
        let r : (64 + j) % 64 ≡ j % 64 = omega arith in
        ap₂ (λ (k i : ℕ). digit (f (get_or (x ∷ xs) k d)) i) q r

-- those of the words a..b
pub words_between : (ws : List ℕ) (a b : ℕ) → a ≤ b → b ≤ length ws
    → count (length (take (b - a) (drop a ws)) * 64) (bit_of (take (b - a) (drop a ws))) ≡ run (bit_of ws) (a * 64) ((b - a) * 64)
unfolding bit_of
words_between ws a b h e =
    ap (λ (n : ℕ). count (n * 64) (bit_of (take (b - a) (drop a ws)))) size
    ∙ count_ext ((b - a) * 64) (bit_of (take (b - a) (drop a ws))) (λ j. bit_of ws (a * 64 + j)) at
  where
    size : length (take (b - a) (drop a ws)) ≡ b - a
    size = length-take-le (b - a) (drop a ws) (rw (length-drop a ws) (omega (arith, e)))

    at : (j : ℕ) → j < (b - a) * 64 → bit_of (take (b - a) (drop a ws)) j ≡ bit_of ws (a * 64 + j)
    at j l =
        let q : a + j / 64 ≡ (a * 64 + j) / 64 = omega arith in
        let r : j % 64 ≡ (a * 64 + j) % 64 = omega arith in
        ap (λ (x : ℕ). digit x (j % 64)) (get_or-take (b - a) (drop a ws) (j / 64) 0 (omega arith) ∙ get_or-drop a ws (j / 64) 0)
        ∙ ap₂ (λ (k i : ℕ). digit (get_or ws k 0) i) q r

-- those of the first words
pub first_words : (ws : List ℕ) (n : ℕ) → n ≤ length ws → count (length (take n ws) * 64) (bit_of (take n ws)) ≡ count (n * 64) (bit_of ws)
unfolding bit_of
first_words ws n e =
    ap (λ (m : ℕ). count (m * 64) (bit_of (take n ws))) (length-take-le n ws e)
    ∙ count_ext (n * 64) (bit_of (take n ws)) (bit_of ws) (λ j l. ap (λ (x : ℕ). digit x (j % 64)) (get_or-take n ws (j / 64) 0 (omega arith)))

-- where there are no more, all of them are counted
pub all_words : {r : ℕ} (ws : List ℕ) → length ws ≤ 1024 → r ≡ count (min (length ws) 1024 * 64) (bit_of ws) → r ≡ count (length ws * 64) (bit_of ws)
all_words ws few e =
    let n : min (length ws) 1024 ≡ length ws = omega arith in
    e ∙ ap (λ (m : ℕ). count (m * 64) (bit_of ws)) n
