use mathlib.Core.Path.{sym, ◌∙◌}
use borrow.Author.Rules.{Fits-under}
use borrow.Author.Tests.{eq-eqb, ne_eqb}
use Rattle.offset_lines.proofs.Texts.{refused_as}
use Rattle.pair_lines.specs.Held.{held_pair}
use Rattle.pair_lines.proofs.NumberLaws.{offset_small}
use Rattle.pair_lines.proofs.lines.pair_of.Goals as goal

pub returns-then-first-eq0 : goal.returns-then-first-eq0
unfolding held_pair
returns-then-first-eq0 c = simp (eq-eqb _ 0 c.if-first-eq0.true)

pub returns-then-second-eq0 : goal.returns-then-second-eq0
unfolding held_pair
returns-then-second-eq0 c = simp (ne_eqb _ 0 c.if-first-eq0.false, eq-eqb _ 0 c.if-second-eq0.true)

pub returns-in_err-old : goal.returns-in_err-old
unfolding held_pair
returns-in_err-old c =
    simp (ne_eqb _ 0 c.if-first-eq0.false, ne_eqb _ 0 c.if-second-eq0.false, sym c.offset_of.ensures ∙ c.in_err-old.was) (refused_as _ _ c.from_residual.ensures.1)

pub returns-in_err-new : goal.returns-in_err-new
unfolding held_pair
returns-in_err-new c =
    simp (ne_eqb _ 0 c.if-first-eq0.false, ne_eqb _ 0 c.if-second-eq0.false, sym c.offset_of.ensures ∙ c.in_ok-old.was, sym c.offset_of-2.ensures ∙ c.in_err-new.was)
    (refused_as _ _ c.from_residual-in_err-new.ensures.1)

pub returns : goal.returns
unfolding held_pair
returns c =
    simp (ne_eqb _ 0 c.if-first-eq0.false, ne_eqb _ 0 c.if-second-eq0.false, sym c.offset_of.ensures ∙ c.in_ok-old.was, sym c.offset_of-2.ensures ∙ c.in_ok-new.was)

pub overflow_cast-result : goal.overflow_cast-result
overflow_cast-result c = Fits-under _ _ 65536 (offset_small _ _ (sym c.offset_of.ensures ∙ c.in_ok-old.was)) tt

pub overflow_cast-result-2 : goal.overflow_cast-result-2
overflow_cast-result-2 c = Fits-under _ _ 65536 (offset_small _ _ (sym c.offset_of-2.ensures ∙ c.in_ok-new.was)) tt
