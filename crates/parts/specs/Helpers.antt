-- What the search is made of: selected words, and the words that it stops at.
use Rattle.std.specs.Prelude.{◌≡◌, Bool, ◌&&◌, List, ℕ, suc, ◌+◌, ◌-◌, ◌*◌, ◌/◌, ◌^◌, ◌≤◌, ◌<◌, max, ltb, get_or, Option, Some, None}
use Rattle.std.specs.Int.Bits.{bit_and}
use Rattle.word_bits.specs.Counts.{zeros_below, zeros_above}
use Rattle.sets.specs.Outcomes.{place}
use Rattle.parts.specs.Selections.{Selection, Ones, Zeroes, Intersection, Difference}

-- `selected` on words
abbrev pub select_word : Selection → ℕ → ℕ → ℕ
select_word Ones x y = x
select_word Zeroes x y = (2 ^ 64 - 1) - x
select_word Intersection x y = bit_and x y
select_word Difference x y = bit_and x ((2 ^ 64 - 1) - y)

-- word k of the selected positions
abbrev pub selected_word : Selection → List ℕ → List ℕ → ℕ → ℕ
selected_word s ws vs k = select_word s (get_or ws k 0) (get_or vs k 0)

-- the first of the words first..end that is not 0
abbrev pub FirstWord : (ℕ → ℕ) → ℕ → ℕ → Option ℕ → Type 0
FirstWord f first end (Some k) = (first ≤ k) × (k < end) × ((i : ℕ) → first ≤ i → i < k → f i ≡ 0) × (f k ≡ 0 → ⊥)
FirstWord f first end None = (i : ℕ) → first ≤ i → i < end → f i ≡ 0

-- the last of them
abbrev pub LastWord : (ℕ → ℕ) → ℕ → ℕ → Option ℕ → Type 0
LastWord f first end (Some k) = (first ≤ k) × (k < end) × ((i : ℕ) → k < i → i < end → f i ≡ 0) × (f k ≡ 0 → ⊥)
LastWord f first end None = (i : ℕ) → first ≤ i → i < end → f i ≡ 0

-- the next position from low up, looked for to the end of the word that the last position of the part lies in: high is asked of what is found
abbrev pub top_of : ℕ → ℕ → ℕ
top_of low high = (max low (high - 1) / 64 + 1) * 64

unfoldable pub next_from : (ℕ → Bool) → ℕ → ℕ → Option ℕ
next_from has low high =
    place (ltb (zeros_below (top_of low high - low) (λ j. has (low + j))) (top_of low high - low)) (low + zeros_below (top_of low high - low) (λ j. has (low + j)))

-- the next position from high down, looked for to the start of low's word: low is asked of what is found
abbrev pub bottom_of : ℕ → ℕ
bottom_of low = low / 64 * 64

unfoldable pub prev_from : (ℕ → Bool) → ℕ → ℕ → Option ℕ
prev_from has low high =
    place (ltb low high && ltb (zeros_above (high - bottom_of low) (λ j. has (bottom_of low + j))) (high - bottom_of low)) (high - suc (zeros_above (high - bottom_of low) (λ j. has (bottom_of low + j))))
