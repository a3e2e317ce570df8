-- Counts and tests over a row of places: a row that ends early, a row split by a second one. Assumes nothing.
use mathlib.Core.Path.{◌≡◌, refl, sym, ap, ap₂, ◌∙◌}
use mathlib.Core.Bool.{Bool, true, false, not, ◌&&◌, ◌||◌, or-false}
use Prim.Native.Nat.{ℕ, zero, suc, ◌+◌, ◌-◌, ◌≤◌, ◌<◌}
use native.Mathlib.Nat.{add-zero, add-suc, zero-add, add-sub_of_le, le_refl}
use native.Mathlib.Omega.{arith}
use Rattle.word_bits.specs.Digits.{one}
use Rattle.word_bits.specs.Counts.{count, some, all}
use Rattle.word_bits.proofs.Ones.{count_add, count_none, count-all}
use Rattle.masks.specs.Ranges.{covers}
use Rattle.masks.proofs.RangeLaws.{covers-yes, covers_below, covers_above}

-- ---- a row with no yes from `end` up

module _ (m : ℕ → Bool) (end : ℕ) (off : (p : ℕ) → end ≤ p → m p ≡ false) where
  pub count_clip : (n : ℕ) → end ≤ n → count n m ≡ count end m
  count_clip n h =
      let z = count_none (n - end) (λ j. m (end + j)) (λ j l. off (end + j) (omega arith)) in
      ap (λ (k : ℕ). count k m) (sym (add-sub_of_le h)) ∙ count_add end (n - end) m ∙ ap (λ (x : ℕ). count end m + x) z ∙ add-zero (count end m)

  some_more : (d : ℕ) → some (end + d) m ≡ some end m
  unfolding some
  some_more zero = ap (λ (k : ℕ). some k m) (add-zero end)
  some_more (suc d) = rw (add-suc end d) (ap₂ ◌||◌ (some_more d) (off (end + d) (omega arith)) ∙ or-false (some end m))

  pub some_clip : (n : ℕ) → end ≤ n → some n m ≡ some end m
  some_clip n h = ap (λ (k : ℕ). some k m) (sym (add-sub_of_le h)) ∙ some_more (n - end)

-- ---- each place and some place

pub some_ext : (n : ℕ) (f g : ℕ → Bool) → ((p : ℕ) → p < n → f p ≡ g p) → some n f ≡ some n g
unfolding some
some_ext zero f g h = refl
some_ext (suc n) f g h = ap₂ ◌||◌ (some_ext n f g (λ p l. h p (omega arith))) (h n (le_refl (suc n)))

de_morgan : (a b : Bool) → (not a && not b) ≡ not (a || b)
de_morgan true b = refl
de_morgan false b = refl

-- each place says yes where no place of the opposite row does
pub all-not-some : (n : ℕ) (f g : ℕ → Bool) → ((p : ℕ) → p < n → f p ≡ not (g p)) → all n f ≡ not (some n g)
unfolding all some
all-not-some zero f g h = refl
all-not-some (suc n) f g h =
    ap₂ ◌&&◌ (all-not-some n f g (λ p l. h p (omega arith))) (h n (le_refl (suc n))) ∙ de_morgan (some n g) (g n)

-- ---- a row by a second one

two_parts : (a b : Bool) → one (a && b) + one (a && not b) ≡ one a
two_parts true true = refl
two_parts true false = refl
two_parts false b = refl

pub count_split : (n : ℕ) (c f : ℕ → Bool) → count n (λ p. c p && f p) + count n (λ p. c p && not (f p)) ≡ count n c
unfolding count
count_split zero c f = refl
count_split (suc n) c f = let ih = count_split n c f in omega (arith, ih, two_parts (c n) (f n))

pub count-covers : (start end n : ℕ) → start ≤ end → end ≤ n → count n (covers start end) ≡ end - start
count-covers start end n a b =
    let below = count_none start (covers start end) (λ p l. covers_below start end p l) in
    let inside = count-all (end - start) (λ j. covers start end (start + j)) (λ j l. covers-yes start end (start + j) (omega arith) (omega arith)) in
    count_clip (covers start end) end (λ p l. covers_above start end p l) n b
    ∙ ap (λ (k : ℕ). count k (covers start end)) (sym (add-sub_of_le a)) ∙ count_add start (end - start) (covers start end)
    ∙ ap₂ ◌+◌ below inside ∙ zero-add (end - start)
