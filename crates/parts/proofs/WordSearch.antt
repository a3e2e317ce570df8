-- The next position of a part, by the first or the last word that has one. The word at the end that the search starts from is cut by a mask; the other words are taken whole. Assumes nothing.
use mathlib.Core.Path.{◌≡◌, sym, ap, ap₂, ◌∙◌}
use mathlib.Core.Bool.{Bool, true, false, not, ◌&&◌}
use mathlib.Core.Logic.{◌⊎◌, inl, inr}
use Prim.Native.Nat.{ℕ, suc, ◌+◌, ◌-◌, ◌*◌, ◌/◌, ◌%◌, ◌^◌, ◌≤◌, ◌<◌}
use native.Mathlib.Nat.{add-sub_of_le}
use native.Mathlib.Omega.{arith}
use borrow.Author.Tests.{lt-ltb, le-ltb, ltb-true, ltb-false, not-true}
use lib.Bits.{bit_and, and_lt}
use lib.Dec.{ltb}
use lib.Pow.{ones_sub-lt}
use Rattle.word_bits.specs.Digits.{digit, row}
use Rattle.word_bits.specs.Counts.{zeros_below, zeros_above}
use Rattle.word_bits.proofs.Digits.{digit_of_zero, row_at}
use Rattle.word_bits.proofs.Ends.{below_at, below_none, below_lt, below_no, below_yes, above_at, above_none, above_lt, above_no, above_yes}
use Rattle.word_bits.specs.LowMask.{low_mask}
use Rattle.word_bits.proofs.LowMasks.{low_mask_lt}
use Rattle.word_bits.proofs.Order.{lt-or-le}
use Rattle.word_bits.proofs.ShiftMasks.{digit-from, digit_upto}
use Rattle.std.specs.Prelude.{Option, Some, None}
use Rattle.sets.specs.Outcomes.{place}
use Rattle.parts.specs.Helpers.{FirstWord, LastWord, top_of, next_from, bottom_of, prev_from}
use Rattle.parts.proofs.CutWords.{cut_none, lowest_yes, lowest_no, highest_yes, highest_no}

-- ---- positions: bit j of word k is position 64 k + j

module _ (f : ℕ → ℕ) where
  in_word : (k q : ℕ) → k * 64 ≤ q → q < k * 64 + 64 → row f q ≡ digit (f k) (q - k * 64)
  in_word k q a b = ap (row f) (sym (add-sub_of_le a)) ∙ row_at f k (q - k * 64) (omega arith)

  zero_word : (q : ℕ) → f (q / 64) ≡ 0 → row f q ≡ false
  unfolding row
  zero_word q z = ap (λ (x : ℕ). digit x (q % 64)) z ∙ digit_of_zero (q % 64)

  module _ (low high : ℕ) where
    abbrev top : ℕ
    top = top_of low high

    abbrev up : ℕ → Bool
    up j = row f (low + j)

    -- what a search up gives
    next_at : (p : ℕ) → low ≤ p → p < top → row f p ≡ true → ((q : ℕ) → low ≤ q → q < p → row f q ≡ false) → next_from (row f) low high ≡ Some p
    unfolding next_from
    next_at p a b y zs =
        let z = below_at (top - low) up (p - low) (omega arith) (ap (row f) (add-sub_of_le a) ∙ y) (λ j i. zs (low + j) (omega arith) (omega arith)) in
        ap (λ (n : ℕ). place (ltb n (top - low)) (low + n)) z
        ∙ ap₂ place (lt-ltb (p - low) (top - low) (omega arith)) (add-sub_of_le a)

    next_none : ((q : ℕ) → low ≤ q → q < top → row f q ≡ false) → next_from (row f) low high ≡ None
    unfolding next_from
    next_none zs =
        let z = below_none (top - low) up (λ j i. zs (low + j) (omega arith) (omega arith)) in
        ap (λ (n : ℕ). place (ltb n (top - low)) (low + n)) z ∙ ap (λ (t : Bool). place t (low + (top - low))) (le-ltb (top - low) (top - low) (omega arith))

    abbrev bottom : ℕ
    bottom = bottom_of low

    abbrev down : ℕ → Bool
    down j = row f (bottom + j)

    -- and a search down
    abbrev picked : Bool → ℕ → Option ℕ
    picked t n = place (t && ltb n (high - bottom)) (high - suc n)

    pub prev_empty : high ≤ low → prev_from (row f) low high ≡ None
    unfolding prev_from
    prev_empty g = ap (λ (t : Bool). picked t (zeros_above (high - bottom) down)) (le-ltb low high g)

    prev_at : low < high → (p : ℕ) → bottom ≤ p → p < high → row f p ≡ true → ((q : ℕ) → p < q → q < high → row f q ≡ false) → prev_from (row f) low high ≡ Some p
    unfolding prev_from
    prev_at h p a b y zs =
        let z = above_at (high - bottom) down (p - bottom) (omega arith) (ap (row f) (add-sub_of_le a) ∙ y) (λ j i k. zs (bottom + j) (omega arith) (omega arith)) in
        let n : zeros_above (high - bottom) down ≡ high - suc p = omega (arith, z) in
        let e : high - suc (high - suc p) ≡ p = omega arith in
        ap₂ picked (lt-ltb low high h) n ∙ ap₂ place (lt-ltb (high - suc p) (high - bottom) (omega arith)) e

    prev_none : low < high → ((q : ℕ) → bottom ≤ q → q < high → row f q ≡ false) → prev_from (row f) low high ≡ None
    unfolding prev_from
    prev_none h zs =
        let z = above_none (high - bottom) down (λ j i. zs (bottom + j) (omega arith) (omega arith)) in
        ap₂ picked (lt-ltb low high h) z ∙ ap (λ (t : Bool). place t (high - suc (high - bottom))) (le-ltb (high - bottom) (high - bottom) (omega arith))

    module _ (fit : (k : ℕ) → f k < 2 ^ 64) where
      -- the first word, cut at low, and the words after it
      abbrev pub first_cut : ℕ
      first_cut = bit_and (f (low / 64)) ((2 ^ 64 - 1) - low_mask (low % 64))

      from_low : (j : ℕ) → low % 64 ≤ j → not (ltb j (low % 64)) ≡ true
      from_low j l = ap not (le-ltb j (low % 64) l)

      cut_first : (j : ℕ) → j < 64 → digit first_cut j ≡ (digit (f (low / 64)) j && not (ltb j (low % 64)))
      cut_first j l = digit-from (f (low / 64)) (low % 64) j l

      first-lt : first_cut < 2 ^ 64
      first-lt = and_lt 64 (f (low / 64)) ((2 ^ 64 - 1) - low_mask (low % 64)) (fit (low / 64)) (ones_sub-lt 64 (low_mask (low % 64)))

      pub here_lt : (first_cut ≡ 0 → ⊥) → zeros_below 64 (digit first_cut) < 64
      here_lt n = below_lt 64 first_cut (omega arith) first-lt

      pub front_here : (first_cut ≡ 0 → ⊥) → next_from (row f) low high ≡ Some (low / 64 * 64 + zeros_below 64 (digit first_cut))
      front_here n =
          let k = low / 64 in
          let keep : ℕ → Bool = λ j. not (ltb j (low % 64)) in
          let t = zeros_below 64 (digit first_cut) in
          let t-lt = here_lt n in
          let yes = lowest_yes (f k) first_cut keep first-lt cut_first n in
          let from = ltb-false t (low % 64) (not-true (ltb t (low % 64)) yes.1) in
          next_at (k * 64 + t) (omega (arith, from)) (omega (arith, t-lt)) (row_at f k t t-lt ∙ yes.0)
          (λ q a b. in_word k q (omega arith) (omega (arith, t-lt)) ∙ lowest_no (f k) first_cut keep first-lt cut_first n (q - k * 64) (omega arith) (from_low (q - k * 64) (omega arith)))

      module _ (z : first_cut ≡ 0) where
        none_here : (q : ℕ) → low ≤ q → q < low / 64 * 64 + 64 → row f q ≡ false
        none_here q a l =
            in_word (low / 64) q (omega arith) l
            ∙ cut_none (f (low / 64)) first_cut (λ j. not (ltb j (low % 64))) first-lt cut_first z (q - low / 64 * 64) (omega arith) (from_low (q - low / 64 * 64) (omega arith))

        pub front-empty : high ≤ low → next_from (row f) low high ≡ None
        front-empty g = next_none (λ q a b. none_here q a (omega arith))

        none_before : (k : ℕ) → ((i : ℕ) → low / 64 + 1 ≤ i → i < k → f i ≡ 0) → (q : ℕ) → low ≤ q → q < k * 64 → row f q ≡ false
        none_before k zs q a b = go (lt-or-le q (low / 64 * 64 + 64))
          where
            go : (q < low / 64 * 64 + 64) ⊎ (low / 64 * 64 + 64 ≤ q) → row f q ≡ false
            go (inl l) = none_here q a l
            go (inr g) = zero_word q (zs (q / 64) (omega arith) (omega arith))

        module _ (h : low < high) where
          pub front_over : FirstWord f (low / 64 + 1) ((high - 1) / 64 + 1) None → next_from (row f) low high ≡ None
          front_over zs = next_none (λ q a b. none_before ((high - 1) / 64 + 1) zs q a (omega arith))

          pub front_later : (k : ℕ) → FirstWord f (low / 64 + 1) ((high - 1) / 64 + 1) (Some k) → next_from (row f) low high ≡ Some (k * 64 + zeros_below 64 (digit (f k)))
          front_later k (from, l, zs, n) =
              let t = zeros_below 64 (digit (f k)) in
              let t-lt = below_lt 64 (f k) (omega arith) (fit k) in
              next_at (k * 64 + t) (omega (arith, from)) (omega (arith, t-lt)) (row_at f k t t-lt ∙ below_yes 64 (digit (f k)) t-lt)
              (λ q a b. go q a b (lt-or-le q (k * 64)))
            where
              go : (q : ℕ) → low ≤ q → q < k * 64 + zeros_below 64 (digit (f k)) → (q < k * 64) ⊎ (k * 64 ≤ q) → row f q ≡ false
              go q a b (inl i) = none_before k zs q a i
              go q a b (inr g) =
                  let t-lt = below_lt 64 (f k) (omega (arith, n)) (fit k) in
                  in_word k q g (omega (arith, t-lt)) ∙ below_no 64 (digit (f k)) (q - k * 64) (omega arith)

      -- the last word, cut at high, and the words before it
      module _ (h : low < high) where
        abbrev pub last_cut : ℕ
        last_cut = bit_and (f ((high - 1) / 64)) (low_mask ((high - 1) % 64 + 1))

        below_high : (j : ℕ) → j < (high - 1) % 64 + 1 → ltb j ((high - 1) % 64 + 1) ≡ true
        below_high j l = lt-ltb j ((high - 1) % 64 + 1) l

        cut_last : (j : ℕ) → j < 64 → digit last_cut j ≡ (digit (f ((high - 1) / 64)) j && ltb j ((high - 1) % 64 + 1))
        cut_last j l = digit_upto (f ((high - 1) / 64)) ((high - 1) % 64 + 1) j l

        last_lt : last_cut < 2 ^ 64
        last_lt = and_lt 64 (f ((high - 1) / 64)) (low_mask ((high - 1) % 64 + 1)) (fit ((high - 1) / 64)) (low_mask_lt ((high - 1) % 64 + 1))

        module _ (n : last_cut ≡ 0 → ⊥) where
          last_yes : (digit (f ((high - 1) / 64)) (63 - zeros_above 64 (digit last_cut)) ≡ true) × (ltb (63 - zeros_above 64 (digit last_cut)) ((high - 1) % 64 + 1) ≡ true)
          last_yes = highest_yes (f ((high - 1) / 64)) last_cut (λ j. ltb j ((high - 1) % 64 + 1)) last_lt cut_last n

          pub above_here : (zeros_above 64 (digit last_cut) < 64) × ((high - 1) / 64 * 64 + (63 - zeros_above 64 (digit last_cut)) < high)
          above_here =
              let t-lt = above_lt 64 last_cut (omega arith) last_lt in
              let upto = ltb-true (63 - zeros_above 64 (digit last_cut)) ((high - 1) % 64 + 1) last_yes.1 in
              (t-lt, omega (arith, upto, t-lt))

          pub back_here : prev_from (row f) low high ≡ Some ((high - 1) / 64 * 64 + (63 - zeros_above 64 (digit last_cut)))
          back_here =
              let k = (high - 1) / 64 in
              let keep : ℕ → Bool = λ j. ltb j ((high - 1) % 64 + 1) in
              let t = zeros_above 64 (digit last_cut) in
              prev_at h (k * 64 + (63 - t)) (omega arith) (omega (arith, above_here)) (row_at f k (63 - t) (omega arith) ∙ last_yes.0)
              (λ q a b. in_word k q (omega arith) (omega arith) ∙ highest_no (f k) last_cut keep last_lt cut_last n (q - k * 64) (omega arith) (omega arith) (below_high (q - k * 64) (omega arith)))

        module _ (z : last_cut ≡ 0) where
          none_after : (k : ℕ) → ((i : ℕ) → k ≤ i → i < (high - 1) / 64 → f i ≡ 0) → (q : ℕ) → k * 64 ≤ q → q < high → row f q ≡ false
          none_after k zs q a b = go (lt-or-le q ((high - 1) / 64 * 64))
            where
              go : (q < (high - 1) / 64 * 64) ⊎ ((high - 1) / 64 * 64 ≤ q) → row f q ≡ false
              go (inl l) = zero_word q (zs (q / 64) (omega arith) (omega arith))
              go (inr g) =
                  in_word ((high - 1) / 64) q g (omega arith)
                  ∙ cut_none (f ((high - 1) / 64)) last_cut (λ j. ltb j ((high - 1) % 64 + 1)) last_lt cut_last z (q - (high - 1) / 64 * 64) (omega arith) (below_high (q - (high - 1) / 64 * 64) (omega arith))

          pub back_over : LastWord f (low / 64) ((high - 1) / 64) None → prev_from (row f) low high ≡ None
          back_over zs = prev_none h (λ q a b. none_after (low / 64) zs q (omega arith) b)

          pub back_later : (k : ℕ) → LastWord f (low / 64) ((high - 1) / 64) (Some k) → prev_from (row f) low high ≡ Some (k * 64 + (63 - zeros_above 64 (digit (f k))))
          back_later k (from, l, zs, n) =
              let t = zeros_above 64 (digit (f k)) in
              let t-lt = above_lt 64 (f k) (omega arith) (fit k) in
              let e : k * 64 + (64 - suc t) ≡ k * 64 + (63 - t) = omega arith in
              prev_at h (k * 64 + (64 - suc t)) (omega (arith, from)) (omega (arith, l)) (row_at f k (64 - suc t) (omega arith) ∙ above_yes 64 (digit (f k)) t-lt)
              (λ q a b. go q a b (lt-or-le q (k * 64 + 64))) ∙ ap Some e
            where
              go : (q : ℕ) → k * 64 + (64 - suc (zeros_above 64 (digit (f k)))) < q → q < high → (q < k * 64 + 64) ⊎ (k * 64 + 64 ≤ q) → row f q ≡ false
              go q a b (inl i) =
                  in_word k q (omega arith) i ∙ above_no 64 (digit (f k)) (q - k * 64) (omega arith) (omega arith)
              go q a b (inr g) = none_after (k + 1) (λ i c d. zs i (omega arith) d) q (omega arith) b
