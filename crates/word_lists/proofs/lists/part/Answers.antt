use mathlib.Core.Bool.{and-false}
use mathlib.Core.Path.{refl}
use native.Mathlib.Omega.{arith}
use borrow.Author.Tests.{le-leb, lt-leb}
use lib.Dec.{leb}
use lib.ListN.{length}
use Rattle.word_lists.proofs.lists.part.Goals as goal

pub returns-then-end-start : goal.returns-then-end-start
returns-then-end-start c = rw (lt-leb c.args.start c.args.end c.if-end-start.true) refl

pub returns-then-numbers-end : goal.returns-then-numbers-end
returns-then-numbers-end c = rw (lt-leb c.args.end (length c.args.numbers.now) c.if-numbers-end.true, and-false (leb c.args.start c.args.end)) refl

pub returns : goal.returns
returns c = rw (le-leb c.args.start c.args.end (omega arith), le-leb c.args.end (length c.args.numbers.now) (omega arith)) refl
