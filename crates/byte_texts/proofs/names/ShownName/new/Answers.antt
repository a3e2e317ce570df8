use borrow.Author.Rules.{rules}
use mathlib.Core.Path.{ap, ◌∙◌}
use lib.ListN.{length, take}
use Rattle.byte_texts.proofs.NameLaws.{shown_is, shown_fits}
use Rattle.byte_texts.proofs.names.ShownName.new.Goals as goal

pub invariant_of-result : goal.invariant_of-result
invariant_of-result c = shown_fits _ c.new-text.ensures.empty (ap length c.new-text.ensures.same_bytes) c.append_name.ensures

pub returns : goal.returns
returns c = ap (take c.append_name.new.self.end) (search rules) ∙ shown_is _ c.new-text.ensures.empty (ap length c.new-text.ensures.same_bytes) c.append_name.ensures
