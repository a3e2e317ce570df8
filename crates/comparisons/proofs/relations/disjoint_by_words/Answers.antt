use mathlib.Core.Path.{◌∙◌}
use Rattle.std.proofs.Common.{rules}
use Rattle.operations.specs.Operations.{joined_word}
use Rattle.operations.specs.declared.operation.Operation.TheVariants.{Intersection}
use Rattle.operations.proofs.WordJoins.{joins}
use Rattle.comparisons.proofs.RelationLaws.{disjoint_is}
use Rattle.comparisons.proofs.SearchLaws.{disjoint_words}
use Rattle.comparisons.proofs.relations.disjoint_by_words.Goals as goal

pub returns : goal.returns
returns c =
    rw c.min-shared.ensures (disjoint_words _ _ _ (c.first_joined.ensures (joined_word Intersection) (joins Intersection (λ x y r p. search rules))))
    ∙ disjoint_is c.args.a c.args.b
