-- The lists of the walks over sets A and B.
use Rattle.std.specs.Prelude.{Bool, cond, not, ◌&&◌, List, [], ◌∷◌, ◌++◌, ℕ, zero, suc}
use Rattle.sets.specs.Members.{Members}

-- the positions below n that f names, rising
unfoldable pub positions : ℕ → (ℕ → Bool) → List ℕ
positions zero f = []
positions (suc n) f = positions n f ++ cond (f n) (n ∷ []) []

-- `ones`: members of A, rising; `zeroes`: non-members below L, rising
abbrev pub ones_list : Members → List ℕ
ones_list a = positions a.len a.has

abbrev pub zeroes_list : Members → List ℕ
zeroes_list a = positions a.len (λ p. not (a.has p))

-- `intersection`, `difference`: members of A that are, or are not, in B, rising
abbrev pub intersection_list : Members → Members → List ℕ
intersection_list a b = positions a.len (λ p. a.has p && b.has p)

abbrev pub difference_list : Members → Members → List ℕ
difference_list a b = positions a.len (λ p. a.has p && not (b.has p))

-- `union`: members of A rising, then members of B not in A rising
abbrev pub union_list : Members → Members → List ℕ
union_list a b = ones_list a ++ difference_list b a

-- `symmetric_difference`: A without B rising, then B without A rising
abbrev pub symmetric_difference_list : Members → Members → List ℕ
symmetric_difference_list a b = difference_list a b ++ difference_list b a
