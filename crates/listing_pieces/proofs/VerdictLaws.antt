-- The three ways to find whether two files are the same. Assumes nothing.
use mathlib.Core.Bool.{Bool, true, false, ◌&&◌}
use mathlib.Core.List.{List}
use mathlib.Core.Path.{◌≡◌, sym, ap, ◌∙◌}
use borrow.Author.Tests.{eq-eqb, ne_eqb}
use Prim.Native.Nat.{ℕ}
use lib.Dec.{eqb}
use lib.ListN.{length}
use Rattle.sets.specs.Questions.{both_questions}
use Rattle.two_set_counts.specs.Lists.{difference_list}
use Rattle.listing_lines.specs.Offsets.{all_offsets, offsets_of}
use Rattle.listing_pieces.specs.Verdicts.{are_same}

module _ (ws vs : List ℕ) where
  abbrev q : ℕ
  q = both_questions all_offsets ws all_offsets vs

  abbrev m : ℕ
  m = length (difference_list (offsets_of ws) (offsets_of vs))

  abbrev n : ℕ
  n = length (difference_list (offsets_of vs) (offsets_of ws))

  module _ {a : ℕ} (asked : a ≡ q) where
    pub no_set : (a ≡ 0 → ⊥) → false ≡ are_same ws vs
    unfolding are_same
    no_set h = sym (ap (λ (b : Bool). b && (eqb m 0 && eqb n 0)) (ne_eqb q 0 (λ e. h (asked ∙ e))))

    module _ (accepted : a ≡ 0) where
      zero : eqb q 0 ≡ true
      zero = eq-eqb q 0 (sym asked ∙ accepted)

      pub first_alone : {x : ℕ} → x ≡ m → (x ≡ 0 → ⊥) → false ≡ are_same ws vs
      unfolding are_same
      first_alone counted h = sym (ap (λ (b : Bool). b && (eqb m 0 && eqb n 0)) zero ∙ ap (λ (b : Bool). b && eqb n 0) (ne_eqb m 0 (λ e. h (counted ∙ e))))

      pub second_decides : {x y : ℕ} → x ≡ m → x ≡ 0 → y ≡ n → eqb y 0 ≡ are_same ws vs
      unfolding are_same
      second_decides counted none also =
          ap (λ (k : ℕ). eqb k 0) also ∙ sym (ap (λ (b : Bool). b && (eqb m 0 && eqb n 0)) zero ∙ ap (λ (b : Bool). b && eqb n 0) (eq-eqb m 0 (sym counted ∙ none)))
