-- What is written, and what is left of the page, are what was left of the first.
use Prim.Native.Nat.{ℕ}
use mathlib.Core.List.{List}
use Rattle.listing_lines.specs.declared.pages.Page.{Page}
use Rattle.tool_files.specs.Pieces.{Leaves, Upto}
use Rattle.tool_files.proofs.streams.write_pieces.Given as goal

abbrev pub invariant-loop : goal.invariant-loop
invariant-loop g l = (rest : Page g.row.S.Denot g.row.R.Denot → List ℕ) → Leaves g.N.Fn l.next_piece g.S.Progress.over rest
    → Upto g.N.Fn l.next_piece g.S.Progress.over rest l.fn.first l.page (g.W.Write.contents l.initial.out) (g.W.Write.contents l.out)
