use borrow.Author.Tests.{eq-eqb, ne_eqb}
use Rattle.byte_texts.specs.Ascii.{ascii}
use Rattle.byte_texts.proofs.GrowthLaws.{appended_then}
use Rattle.pair_listings.specs.Lines.{pairs_complete_text}
use Rattle.pair_listings.proofs.lines.append_pairs_complete.Goals as goal

pub returns-then-n-eq1 : goal.returns-then-n-eq1
unfolding ascii pairs_complete_text
returns-then-n-eq1 c = rw (eq-eqb _ 1 c.if-n-eq1.true) (appended_then (appended_then c.append.ensures c.append_decimal.ensures) c.append-then-n-eq1.ensures)

pub returns-else-n-eq1 : goal.returns-else-n-eq1
unfolding ascii pairs_complete_text
returns-else-n-eq1 c = rw (ne_eqb _ 1 c.if-n-eq1.false) (appended_then (appended_then c.append.ensures c.append_decimal.ensures) c.append-else-n-eq1.ensures)
