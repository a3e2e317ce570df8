use Rattle.std.proofs.Common.{◌≡◌, Bool, List, ℕ, true, false, refl, sym, ap, ◌∙◌, cond, not}
use Rattle.std.specs.List.{list_any}
use Rattle.std.specs.Prelude.{leb}
use Rattle.sets.specs.Members.{set_of, empty, read}
use Rattle.sets.specs.Questions.{questions}
use Rattle.sets.specs.declared.fixed_bit_set.FixedBitSet.{FixedBitSet}
use Rattle.comparisons.specs.Rules.{is_subset_rule}
use Rattle.renumber_steps.specs.Pairs.{sided, sided_pair, olds}
use Rattle.renumber_steps.specs.Passes.{Taken, shared, pairs_number}
use Rattle.renumber_steps.specs.Rules.{pairs_questions}
use Rattle.renumber_steps.specs.declared.pair.Pair.{Pair}
use Rattle.renumber_steps.proofs.AskLaws.{asked-pairs, beyond}
use Rattle.renumberings.proofs.questions.ask_pairs.Goals as goal

-- what the four passes tell is what the questions ask
answered : (set : FixedBitSet) (ws : List ℕ) (back : Bool) (ps : List Pair) (bits : ℕ) → questions set ws ≡ 0 → {old new over paired : Bool}
    → old ≡ (shared (olds (sided back ps))).found → new ≡ (shared (olds (sided (not back) ps))).found → over ≡ list_any (λ p. leb bits (sided_pair (not back) p).old) ps
    → paired ≡ (is_subset_rule set ws (set_of (empty 65536)) (shared (olds (sided back ps))).words).yes → pairs_number old new over paired ≡ pairs_questions (sided back ps) bits (read ws set)
answered set ws back ps bits asked {over = over} old new o paired =
    (λ i. pairs_number (old i) (new i) over (paired i)) ∙ asked-pairs set ws back ps bits asked over (ap (λ (b : Bool). cond b 4 0) o ∙ beyond bits (not back) ps)

pub returns-then-shares : goal.returns-then-shares
unfolding pairs_number
returns-then-shares g c =
    let a = c.args in
    answered (record { length = a.set.length }) a.set.words.now g.S.Side.back a.pairs.now a.bits a.set.sound.asked {old = true} (sym c.if-shares.true ∙ ap (λ (t : Taken). t.found) c.shares.ensures) refl refl refl

pub returns-then-shares-2 : goal.returns-then-shares-2
unfolding pairs_number
returns-then-shares-2 g c =
    let a = c.args in
    answered (record { length = a.set.length }) a.set.words.now g.S.Side.back a.pairs.now a.bits a.set.sound.asked {old = false} {new = true} (sym c.if-shares.false ∙ ap (λ (t : Taken). t.found) c.shares.ensures) (sym c.if-shares-2.true ∙ ap (λ (t : Taken). t.found) c.shares-2.ensures) refl refl

pub returns-then-has_beyond : goal.returns-then-has_beyond
unfolding pairs_number
returns-then-has_beyond g c =
    let a = c.args in
    answered (record { length = a.set.length }) a.set.words.now g.S.Side.back a.pairs.now a.bits a.set.sound.asked {old = false} {new = false} {over = true} (sym c.if-shares.false ∙ ap (λ (t : Taken). t.found) c.shares.ensures) (sym c.if-shares-2.false ∙ ap (λ (t : Taken). t.found) c.shares-2.ensures) (sym c.if-has_beyond.true ∙ c.has_beyond.ensures) refl

pub returns-then-paired : goal.returns-then-paired
unfolding pairs_number
returns-then-paired g c =
    let a = c.args in
    let paired = c.members_marked-paired.ensures ∙ ap (λ (t : Taken). (is_subset_rule (record { length = a.set.length }) a.set.words.now (set_of (empty 65536)) t.words).yes) c.shares.ensures in
    answered (record { length = a.set.length }) a.set.words.now g.S.Side.back a.pairs.now a.bits a.set.sound.asked {old = false} {new = false} {over = false} {paired = true} (sym c.if-shares.false ∙ ap (λ (t : Taken). t.found) c.shares.ensures) (sym c.if-shares-2.false ∙ ap (λ (t : Taken). t.found) c.shares-2.ensures) (sym c.if-has_beyond.false ∙ c.has_beyond.ensures) (sym c.if-paired.true ∙ paired)

pub returns-else-paired : goal.returns-else-paired
unfolding pairs_number
returns-else-paired g c =
    let a = c.args in
    let paired = c.members_marked-paired.ensures ∙ ap (λ (t : Taken). (is_subset_rule (record { length = a.set.length }) a.set.words.now (set_of (empty 65536)) t.words).yes) c.shares.ensures in
    answered (record { length = a.set.length }) a.set.words.now g.S.Side.back a.pairs.now a.bits a.set.sound.asked {old = false} {new = false} {over = false} {paired = false} (sym c.if-shares.false ∙ ap (λ (t : Taken). t.found) c.shares.ensures) (sym c.if-shares-2.false ∙ ap (λ (t : Taken). t.found) c.shares-2.ensures) (sym c.if-has_beyond.false ∙ c.has_beyond.ensures) (sym c.if-paired.false ∙ paired)
