-- What the operations on two sets leave, position by position.
use Rattle.std.specs.Prelude.{ℕ, min, max}
use Rattle.sets.specs.Members.{Members}
use Rattle.operations.specs.Operations.{joined}
use Rattle.operations.specs.declared.operation.Operation.{Operation}
use Rattle.operations.specs.declared.operation.Operation.TheVariants.{Union, Intersection, Difference, SymmetricDifference}

-- n bits, each joined from those of two sets
unfoldable pub combined : Operation → ℕ → Members → Members → Members
combined op n s o = record { len = n; has = λ p. joined op (s.has p) (o.has p) }

-- `union_with` and `symmetric_difference_with` make the length the larger of the two, `intersect_with` and `difference_with` keep it
abbrev pub growing : Operation → Members → Members → Members
growing op s o = combined op (max s.len o.len) s o

abbrev pub keeping : Operation → Members → Members → Members
keeping op s o = combined op s.len s o

abbrev pub unioned : Members → Members → Members
unioned s o = growing Union s o

abbrev pub symmetrically_differed : Members → Members → Members
symmetrically_differed s o = growing SymmetricDifference s o

abbrev pub intersected : Members → Members → Members
intersected s o = keeping Intersection s o

abbrev pub differed : Members → Members → Members
differed s o = keeping Difference s o

-- `&` has the smaller length
abbrev pub meet : Members → Members → Members
meet s o = combined Intersection (min s.len o.len) s o
