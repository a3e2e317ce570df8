use mathlib.Core.Path.{sym, ap}
use Prim.Native.Nat.{ℕ}
use lib.ListN.{set as set_at}
use lib.Seq.{set_out}
use Rattle.changes.proofs.change.change_block.Goals as goal

pub returns-then-k-words : goal.returns-then-k-words
returns-then-k-words c = ap (λ (x : ℕ). set_at c.args.words.now c.args.k x) c.change_word.ensures

pub returns-else-k-words : goal.returns-else-k-words
returns-else-k-words c = sym (set_out c.args.words.now c.args.k _ c.if-k-words.false)
