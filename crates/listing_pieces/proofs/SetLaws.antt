-- The sets of two files: that the second may come first, their walks from the first records on, and how many offsets a walk has at most. Assumes nothing.
use mathlib.Core.Path.{◌≡◌, sym}
use mathlib.Core.Bool.{not, ◌&&◌}
use mathlib.Core.List.{List}
use Prim.Native.Nat.{ℕ, ◌≤◌}
use native.Mathlib.Omega.{arith}
use lib.ListN.{length, length-append}
use Rattle.sets.specs.Members.{Members, read}
use Rattle.sets.specs.Questions.{questions, both_questions}
use Rattle.sets.proofs.QuestionLaws.{first-both, first-yes}
use Rattle.sets.proofs.ReadLaws.{read_clipped}
use Rattle.two_set_counts.specs.Lists.{ones_list, difference_list}
use Rattle.whole_walks.specs.Walks.{walk_list}
use Rattle.whole_walks.specs.declared.walk.Walk.{Walk}
use Rattle.whole_walks.specs.declared.walk.Walk.TheVariants.{Ones, Intersection, Difference, Union, SymmetricDifference}
use Rattle.listing_lines.specs.Offsets.{all_offsets, offsets_of}
use Rattle.listing_lines.proofs.OffsetLaws.{few}
use Rattle.listings.specs.Pages.{first_records, walk_left}
use Rattle.listings.proofs.WalkLaws.{left_all}

module _ (ws vs : List ℕ) where
  pub both_swap : both_questions all_offsets ws all_offsets vs ≡ 0 → both_questions all_offsets vs all_offsets ws ≡ 0
  unfolding both_questions
  both_swap e =
      let q = first-both (questions all_offsets ws) (questions all_offsets vs) e in
      sym (first-yes q.1 (sym q.0))

  pub difference_small : length (difference_list (offsets_of ws) (offsets_of vs)) ≤ 65536
  unfolding read
  difference_small = few (λ p. (offsets_of ws).has p && not ((offsets_of vs).has p))

  pub all_left : (walk : Walk) → walk_left walk (offsets_of ws) (offsets_of vs) first_records ≡ walk_list walk (offsets_of ws) (offsets_of vs)
  unfolding read
  all_left walk = left_all walk (offsets_of ws) (offsets_of vs) (read_clipped ws all_offsets) (read_clipped vs all_offsets)

module _ (ws vs : List ℕ) where
  abbrev a : Members
  a = offsets_of ws

  abbrev b : Members
  b = offsets_of vs

  pub walk_small : (walk : Walk) → length (walk_list walk a b) ≤ 131072
  unfolding read
  walk_small Ones = let h = few a.has in omega arith
  walk_small Intersection = let h = few (λ p. a.has p && b.has p) in omega arith
  walk_small Difference = omega (arith, difference_small ws vs)
  walk_small Union = omega (arith, few a.has, difference_small vs ws, length-append (ones_list a) (difference_list b a))
  walk_small SymmetricDifference = omega (arith, difference_small ws vs, difference_small vs ws, length-append (difference_list a b) (difference_list b a))
