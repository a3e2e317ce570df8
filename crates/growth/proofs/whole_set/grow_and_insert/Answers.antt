use mathlib.Core.Path.{refl, sym, ap, ap₂, ◌∙◌}
use mathlib.Core.List.{List}
use Prim.Native.Nat.{ℕ, ◌+◌, ◌/◌, ◌%◌}
use lib.ListN.{get_or, set as set_at}
use Rattle.word_bits.proofs.SingleBit.{single_bit}
use Rattle.sets.specs.Members.{read, changed}
use Rattle.std.proofs.Common.{Result}
use Rattle.std.proofs.lemmas.Result.{err_from_is_err_and}
use Rattle.sets.specs.Outcomes.{Outcome, outcome}
use Rattle.sets.specs.Refusals.{number, edited_of}
use Rattle.sets.specs.declared.fixed_bit_set.FixedBitSet.{FixedBitSet}
use Rattle.sets.specs.declared.refusal.Refusal.{Refusal}
use Rattle.sets.proofs.OutcomeLaws.{given_yes, given-refused, given-accepted, edited_no}
use Rattle.sets.proofs.QuestionLaws.{first_no, first-yes, first-both, valid, room, question_6}
use Rattle.sets.proofs.RefusalLaws.{edit_refused, number_ne0}
use Rattle.changes.specs.Changes.{changed_word}
use Rattle.edits.specs.Edits.{grown}
use Rattle.changes.specs.declared.change.Change.TheVariants.{Insert}
use Rattle.growth.proofs.GrowthLaws.{grown-inserted}
use native.Mathlib.Omega.{arith}
use Rattle.growth.proofs.whole_set.grow_and_insert.Goals as goal

pub returns-in_err-check : goal.returns-in_err-check
returns-in_err-check c = edit_refused _ _ _ _ _ c.from_residual.ensures.1 (first_no _ c.in_err-check.ensures (number_ne0 _))

pub returns-then-bit-ge65536 : goal.returns-then-bit-ge65536
returns-then-bit-ge65536 c =
    edited_no _ _ _ (first-yes (sym c.in_ok-check.ensures) (sym (question_6 _ _ (omega arith)))) (λ z. omega arith)

pub returns-in_err-grown : goal.returns-in_err-grown
returns-in_err-grown c =
    let a = c.args in
    let p = err_from_is_err_and _ c.from_residual-in_err-grown.ensures.1 in
    ap (λ (r : Result FixedBitSet Refusal). outcome (edited_of a.set r) c.grow.new.words) p.1
    ∙ ap (λ (e : Refusal). record { number = number e; set = a.set; words = c.grow.new.words }) p.2
    ∙ given-refused (λ (o : Outcome). o.number) _ _ _ _ refl c.in_err-grown.ensures (number_ne0 _)

pub returns : goal.returns
unfolding grown read changed
returns c =
    let a = c.args in
    let ws = a.words.now in
    let b : ℕ = a.bit in
    let done = given-accepted (λ (o : Outcome). o.number) _ _ _ (λ m. refl) c.in_ok-grown.ensures refl in
    let asked = first-both _ _ done.0 in
    let grew = ap (λ (o : Outcome). o.words) done.1 in
    given_yes _ (sym done.0)
    (λ i. record {
      number = 0;
      set = (ap (λ (o : Outcome). o.set) done.1) i;
      words =
          (c.change_block.ensures
          ∙ ap₂ (λ (w : List ℕ) (m : ℕ). set_at w (b / 64) (changed_word Insert m (get_or w (b / 64) 0))) grew (single_bit (b % 64) (omega arith))
          ∙ grown-inserted a.set ws (valid _ _ asked.0) (b + 1) (room _ _ asked.1) b (omega arith)
          (λ k. rw (← grew) (c.slice_known-2-1.given k).fits)) i;
    })
