-- The least and the greatest member, by the first and the last word that is not 0. Assumes nothing.
use mathlib.Core.Path.{◌≡◌, sym, ap, ◌∙◌}
use mathlib.Core.Bool.{Bool, true, false, cond, false≢true}
use mathlib.Core.List.{List}
use mathlib.Core.Logic.{◌⊎◌, inl, inr}
use Prim.Native.Nat.{ℕ, suc, ◌+◌, ◌-◌, ◌*◌, ◌/◌, ◌%◌, ◌^◌, ◌≤◌, ◌<◌}
use native.Mathlib.Nat.{div-add-mod', le_refl}
use native.Mathlib.Omega.{arith}
use borrow.Author.Tests.{lt-ltb, le-ltb}
use lib.Dec.{ltb}
use lib.ListN.{get_or}
use Rattle.word_bits.specs.Digits.{digit}
use Rattle.word_bits.specs.Counts.{zeros_below, zeros_above}
use Rattle.word_bits.proofs.Digits.{digit_of_zero}
use Rattle.word_bits.proofs.Ends.{below_at, below_none, below_lt, below_no, below_yes, above_at, above_none, above_lt, above_no, above_yes}
use Rattle.word_bits.proofs.Order.{lt-or-le}
use Rattle.sets.specs.Members.{Members, words_of, read}
use Rattle.sets.specs.declared.fixed_bit_set.FixedBitSet.{FixedBitSet}
use Rattle.sets.proofs.QuestionLaws.{Valid}
use Rattle.sets.proofs.ReadLaws.{read_above, read-digit}
use Rattle.sets.proofs.WordLaws.{word_of_lem}
use Rattle.std.specs.Prelude.{Some, None}
use Rattle.tests.specs.Tests.{least, greatest}

-- ---- of any set

module _ (s : Members) where
  none-least : ((p : ℕ) → p < s.len → s.has p ≡ false) → least s ≡ None
  none-least zs =
      let z = below_none s.len s.has zs in
      ap (λ (x : ℕ). cond (ltb x s.len) (Some x) None) z
      ∙ ap (λ (t : Bool). cond t (Some s.len) None) (le-ltb s.len s.len (le_refl s.len))

  none-greatest : ((p : ℕ) → p < s.len → s.has p ≡ false) → greatest s ≡ None
  none-greatest zs =
      let z = above_none s.len s.has zs in
      ap (λ (x : ℕ). cond (ltb x s.len) (Some (s.len - suc x)) None) z
      ∙ ap (λ (t : Bool). cond t (Some (s.len - suc s.len)) None) (le-ltb s.len s.len (le_refl s.len))

  module _ (p : ℕ) (h : p < s.len) (y : s.has p ≡ true) where
    least_is : ((j : ℕ) → j < p → s.has j ≡ false) → least s ≡ Some p
    least_is zs =
        ap (λ (x : ℕ). cond (ltb x s.len) (Some x) None) (below_at s.len s.has p h y zs)
        ∙ ap (λ (t : Bool). cond t (Some p) None) (lt-ltb p s.len h)

    greatest_is : ((j : ℕ) → p < j → j < s.len → s.has j ≡ false) → greatest s ≡ Some p
    greatest_is zs =
        let z = above_at s.len s.has p h y zs in
        let e : s.len - suc (zeros_above s.len s.has) ≡ p = omega (arith, z) in
        ap (λ (t : Bool). cond t (Some (s.len - suc (zeros_above s.len s.has))) None)
        (lt-ltb (zeros_above s.len s.has) s.len (omega (arith, z)))
        ∙ ap Some e

-- ---- of the words of a set

module _ (set : FixedBitSet) (ws : List ℕ) (v : Valid set ws) where
  none_in_word : (p : ℕ) → p < set.length → get_or ws (p / 64) 0 ≡ 0 → (read ws set).has p ≡ false
  none_in_word p h z =
      ap (read ws set).has (sym (div-add-mod' p 64)) ∙ read-digit set ws v (p / 64) (p % 64) (word_of_lem set.length p h) (omega arith)
      ∙ ap (λ (x : ℕ). digit x (p % 64)) z ∙ digit_of_zero (p % 64)

  member_below : (p : ℕ) → (read ws set).has p ≡ true → p < set.length
  member_below p y = go (lt-or-le p set.length)
    where
      go : (p < set.length) ⊎ (set.length ≤ p) → p < set.length
      go (inl l) = l
      go (inr g) = absurd (false≢true (sym (read_above ws set p g) ∙ y))

  pub least-none : ((k : ℕ) → k < words_of set.length → get_or ws k 0 ≡ 0) → least (read ws set) ≡ None
  unfolding read
  least-none zs = none-least (read ws set) (λ p h. none_in_word p h (zs (p / 64) (word_of_lem set.length p h)))

  pub greatest-none : ((k : ℕ) → k < words_of set.length → get_or ws k 0 ≡ 0) → greatest (read ws set) ≡ None
  unfolding read
  greatest-none zs = none-greatest (read ws set) (λ p h. none_in_word p h (zs (p / 64) (word_of_lem set.length p h)))

  module _ (k : ℕ) (h : k < words_of set.length) (fit : get_or ws k 0 < 2 ^ 64) (n : get_or ws k 0 ≡ 0 → ⊥) where
    pub least_at : ((i : ℕ) → i < k → get_or ws i 0 ≡ 0) → least (read ws set) ≡ Some (k * 64 + zeros_below 64 (digit (get_or ws k 0)))
    unfolding read
    least_at zs = least_is (read ws set) (k * 64 + t) (member_below (k * 64 + t) yes_here) yes_here (λ p l. go p l (lt-or-le (p / 64) k))
      where
        t : ℕ
        t = zeros_below 64 (digit (get_or ws k 0))

        low : t < 64
        low = below_lt 64 (get_or ws k 0) (omega arith) fit

        yes_here : (read ws set).has (k * 64 + t) ≡ true
        yes_here = read-digit set ws v k t h low ∙ below_yes 64 (digit (get_or ws k 0)) low

        go : (p : ℕ) → p < k * 64 + t → (p / 64 < k) ⊎ (k ≤ p / 64) → (read ws set).has p ≡ false
        go p l (inl a) = none_in_word p (omega (arith, member_below (k * 64 + t) yes_here)) (zs (p / 64) a)
        go p l (inr b) =
            let j : ℕ = p - k * 64 in
            let split : p ≡ k * 64 + j = omega arith in
            ap (read ws set).has split ∙ read-digit set ws v k j h (omega (arith, low))
            ∙ below_no 64 (digit (get_or ws k 0)) j (omega arith)

    pub greatest_at : ((i : ℕ) → k < i → i < words_of set.length → get_or ws i 0 ≡ 0)
        → greatest (read ws set) ≡ Some (k * 64 + (63 - zeros_above 64 (digit (get_or ws k 0))))
    unfolding read
    greatest_at zs = greatest_is (read ws set) (k * 64 + t) (member_below (k * 64 + t) yes_here) yes_here (λ p a b. go p a b (lt-or-le k (p / 64)))
      where
        t : ℕ
        t = 63 - zeros_above 64 (digit (get_or ws k 0))

        low : zeros_above 64 (digit (get_or ws k 0)) < 64
        low = above_lt 64 (get_or ws k 0) (omega arith) fit

        yes_here : (read ws set).has (k * 64 + t) ≡ true
        yes_here =
            let e : t ≡ 64 - suc (zeros_above 64 (digit (get_or ws k 0))) = omega arith in
            read-digit set ws v k t h (omega arith) ∙ ap (digit (get_or ws k 0)) e ∙ above_yes 64 (digit (get_or ws k 0)) low

        go : (p : ℕ) → k * 64 + t < p → p < set.length → (k < p / 64) ⊎ (p / 64 ≤ k) → (read ws set).has p ≡ false
        go p a b (inl c) = none_in_word p b (zs (p / 64) c (word_of_lem set.length p b))
        go p a b (inr d) =
            let j : ℕ = p - k * 64 in
            let split : p ≡ k * 64 + j = omega arith in
            ap (read ws set).has split ∙ read-digit set ws v k j h (omega arith)
            ∙ above_no 64 (digit (get_or ws k 0)) j (omega arith) (omega (arith, low))
