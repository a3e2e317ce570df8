use Rattle.listings.proofs.WalkLaws.{pair_given, alone_given, pair_accepted, alone_accepted, ones_asked, two-asked, pair_asked}
use Rattle.listings.proofs.walk_steps.FileWalk.next_many.Goals as goal

pub returns-in-Ones : goal.returns-in-Ones
returns-in-Ones c =
    rw c.in-Ones.is ((λ z. alone_given _ _ _ _ _ c.ones_next_many.ensures (c.alone.ensures _) z), (λ h. alone_accepted _ _ _ _ _ c.ones_next_many.ensures (c.alone.ensures _) (ones_asked h)))

pub returns-in-Intersection : goal.returns-in-Intersection
returns-in-Intersection c =
    rw c.in-Intersection.is ((λ z. alone_given _ _ _ _ _ c.intersection_next_many.ensures (c.alone-in-Intersection.ensures _) z), (λ h. alone_accepted _ _ _ _ _ c.intersection_next_many.ensures (c.alone-in-Intersection.ensures _) (two-asked h)))

pub returns-in-Difference : goal.returns-in-Difference
returns-in-Difference c =
    rw c.in-Difference.is ((λ z. alone_given _ _ _ _ _ c.difference_next_many.ensures (c.alone-in-Difference.ensures _) z), (λ h. alone_accepted _ _ _ _ _ c.difference_next_many.ensures (c.alone-in-Difference.ensures _) (two-asked h)))

pub returns-in-Union : goal.returns-in-Union
returns-in-Union c =
    rw c.in-Union.is ((λ z. pair_given _ _ _ _ _ _ c.union_next_many.ensures z), (λ h. pair_accepted _ _ _ _ _ _ c.union_next_many.ensures (pair_asked h)))

pub returns-in-SymmetricDifference : goal.returns-in-SymmetricDifference
returns-in-SymmetricDifference c =
    rw c.in-SymmetricDifference.is ((λ z. pair_given _ _ _ _ _ _ c.symmetric_difference_next_many.ensures z), (λ h. pair_accepted _ _ _ _ _ _ c.symmetric_difference_next_many.ensures (pair_asked h)))
