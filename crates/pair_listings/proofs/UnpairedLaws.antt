-- The first member with no pair, and how many there are. Assumes nothing.
use mathlib.Core.Path.{◌≡◌, refl, sym, ap, ap₂, ◌∙◌, fun_ext}
use mathlib.Core.Bool.{Bool, true, false, cond}
use mathlib.Core.List.{List}
use Prim.Native.Nat.{ℕ, zero, suc, ◌+◌, ◌≤◌, ◌<◌}
use native.Mathlib.Nat.{add-zero}
use native.Mathlib.Omega.{arith}
use Rattle.word_bits.specs.Counts.{count}
use Rattle.word_bits.specs.Digits.{one}
use Rattle.word_bits.proofs.Ones.{count_low}
use Rattle.sets.specs.Members.{read}
use Rattle.std.specs.Prelude.{Some, None, count_by}
use Rattle.std.specs.List.{range_with_len}
use Rattle.std.proofs.lemmas.List.Sums.{sum_by-cons}
use Rattle.parts.specs.declared.records.Step.{Step}
use Rattle.parts.proofs.PartLaws.{front_at, front-none}
use Rattle.listing_lines.specs.Offsets.{offsets_of}
use Rattle.pair_listings.specs.Tables.{is_unpaired, unpaired_from, unpaired_count}

module _ (to : ℕ → ℕ) (ws : List ℕ) where
  abbrev f : ℕ → Bool
  f = is_unpaired to (offsets_of ws)

  -- ---- the search: none stands before p

  module _ (from : ℕ) where
    abbrev pub Searching : ℕ → Type 0
    Searching p = (q : ℕ) → from ≤ q → q < p → f q ≡ false

    pub searching_found : {p : ℕ} → Searching p → from ≤ p → p < 65536 → f p ≡ true → Some p ≡ unpaired_from to (offsets_of ws) from
    unfolding read
    searching_found {p} h g l e = sym (ap (λ (s : Step). s.at) (front_at f (record { low = from; high = 65536 }) p g l e h))

    pub searching_over : {p : ℕ} → Searching p → 65536 ≤ p → None ≡ unpaired_from to (offsets_of ws) from
    unfolding read
    searching_over h g = sym (ap (λ (s : Step). s.at) (front-none f (record { low = from; high = 65536 }) (λ q a b. h q a (omega arith))))

  -- ---- the count

  count_range : (n a : ℕ) → count_by f (range_with_len a n) ≡ count n (λ j. f (a + j))
  unfolding count
  count_range zero a = refl
  count_range (suc n) a =
      sum_by-cons (λ q. cond (f q) 1 0) a (range_with_len (a + 1) n)
      ∙ ap₂ (λ (b : Bool) (k : ℕ). cond b 1 0 + k) (ap f (sym (add-zero a))) (count_range n (a + 1) ∙ ap (count n) (fun_ext (λ j. let e : a + 1 + j ≡ a + suc j = omega arith in ap f e)))
      ∙ as_one (f (a + 0)) (count n (λ j. f (a + suc j))) ∙ sym (count_low n (λ j. f (a + j)))
    where
      as_one : (b : Bool) (k : ℕ) → cond b 1 0 + k ≡ one b + k
      as_one true k = refl
      as_one false k = refl

  pub counted : count_by f (range_with_len 0 65536) ≡ unpaired_count to (offsets_of ws)
  unfolding read
  counted = count_range 65536 0 ∙ ap (count 65536) (fun_ext (λ j. let e : 0 + j ≡ j = omega arith in ap f e))
