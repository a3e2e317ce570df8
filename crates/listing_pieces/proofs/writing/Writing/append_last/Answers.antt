use mathlib.Core.Path.{ap}
use Rattle.byte_texts.proofs.GrowthLaws.{appended_as}
use Rattle.listing_lines.specs.Lines.{count_text, complete_text, verdict_text}
use Rattle.listings.specs.Pages.{last_text}
use Rattle.verdict_lines.specs.declared.last_lines.Sizes.{Sizes}
use Rattle.listing_pieces.proofs.writing.Writing.append_last.Goals as goal

pub returns-then-self : goal.returns-then-self
unfolding last_text
returns-then-self c =
    let a = c.args in
    rw c.if-self.true
    (appended_as c.append.ensures
    (ap (λ (s : Sizes). verdict_text a.self.job.several a.self.name.now a.self.table.now s.name s.other s.extra s.lacking) c.sizes_of.ensures))

pub returns-then-self-2 : goal.returns-then-self-2
unfolding last_text
returns-then-self-2 c = rw (c.if-self.false, c.if-self-2.true) (appended_as c.append_count.ensures (ap count_text c.walk_size-size.ensures))

pub returns : goal.returns
unfolding last_text
returns c = rw (c.if-self.false, c.if-self-2.false) (appended_as c.append_complete.ensures (ap complete_text c.walk_size-size.ensures))
