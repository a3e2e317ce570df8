use mathlib.Core.List.{List}
use mathlib.Core.Path.{refl, ap₂, ◌∙◌}
use lib.ListN.{length}
use Rattle.sets.proofs.RefusalLaws.{number_ne0}
use Rattle.two_set_counts.specs.Lists.{difference_list}
use Rattle.listing_lines.specs.Offsets.{offsets_of}
use Rattle.listing_pieces.proofs.VerdictLaws.{no_set, first_alone, second_decides}
use Rattle.listing_pieces.proofs.verdicts.same_offsets.Goals as goal
use Prim.Native.Nat.{ℕ}

differ : List ℕ → List ℕ → ℕ
differ ws vs = length (difference_list (offsets_of ws) (offsets_of vs))

pub returns-in_default : goal.returns-in_default
returns-in_default c = no_set c.args.words.now c.args.other.now c.in_default.ensures.number (number_ne0 _)

pub returns-then-walk_size-ne0 : goal.returns-then-walk_size-ne0
unfolding differ
returns-then-walk_size-ne0 c =
    let s = c.in-Ok.ensures in
    first_alone c.args.words.now c.args.other.now s.number refl (c.walk_size.ensures ∙ ap₂ differ s.same.0 s.same.1) c.if-walk_size-ne0.true

pub returns : goal.returns
unfolding differ
returns c =
    let s = c.in-Ok.ensures in
    let t = c.swapped.ensures in
    second_decides c.args.words.now c.args.other.now s.number refl (c.walk_size.ensures ∙ ap₂ differ s.same.0 s.same.1) c.if-walk_size-ne0.false
    (c.walk_size-2.ensures ∙ ap₂ differ (t.0 ∙ s.same.1) (t.1 ∙ s.same.0))
