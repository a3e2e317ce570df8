use mathlib.Core.Path.{ap, ◌∙◌}
use Prim.Native.Nat.{ℕ}
use lib.ListN.{get_or}
use Rattle.blocks.proofs.LoopLaws.{stored-none, stored_more, stored_rest, stored-swept}
use native.Mathlib.Omega.{arith}
use Rattle.operations.specs.Operations.{joined_word}
use Rattle.operations.proofs.WordJoins.{word_by}
use Rattle.operations.proofs.joins.join_words.Goals as goal

pub loop-k-init : goal.loop-k-init
loop-k-init g c = (omega arith, stored-none _ _ _)

pub loop-k-preserved : goal.loop-k-preserved
loop-k-preserved g c =
    let inv = c.loop-k.invariant in
    let a = c.args in (
      omega arith,
      stored_more _ _ (λ i. joined_word g.S.Join.operation (get_or a.words.now i 0) (get_or a.other.now i 0)) _ _ inv.1 _ (omega arith) (omega arith)
          (c.word.ensures ∙ word_by _ _ _ (omega arith) (omega arith)
          ∙ ap (λ (w : ℕ). joined_word g.S.Join.operation w (get_or a.other.now c.loop-k.k 0)) (stored_rest _ _ (λ i. joined_word g.S.Join.operation (get_or a.words.now i 0) (get_or a.other.now i 0)) _ _ inv.1 _ (omega arith))),
    )

pub returns : goal.returns
returns g c =
    stored-swept _ _ _ (λ (k w : ℕ). joined_word g.S.Join.operation w (get_or c.args.other.now k 0)) _ _ c.loop-k.invariant.1 (omega arith) (omega arith) (omega arith)
