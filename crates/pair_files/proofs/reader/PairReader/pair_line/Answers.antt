use mathlib.Core.Path.{refl, ap, ◌∙◌}
use native.Mathlib.Omega.{arith}
use Rattle.byte_texts.specs.Ascii.{ascii}
use Rattle.text_lines.specs.Messages.{reason_text}
use Rattle.pair_files.specs.Holds.{Kept}
use Rattle.pair_files.proofs.ChoiceLaws.{pair_said, pair_accepted, pair_refused}
use Rattle.pair_files.proofs.reader.PairReader.pair_line.Goals as goal

pub returns-then-self : goal.returns-then-self
unfolding ascii reason_text
returns-then-self c = record { same = c.bad_line.ensures.same; holds = λ f h. pair_said h _ _ _ _ _ c.if-self.true (c.bad_line.ensures.holds f h) }

pub returns-then-passes : goal.returns-then-passes
returns-then-passes c =
    let a = c.accept_pair.ensures c.args.pair.old c.args.pair.new in
    record {
      same = a.same ∙ c.name_pair.ensures.same;
      holds = λ f h. pair_accepted h _ _ _ _ _ (omega arith) (omega arith) refl refl c.passes-passes.ensures c.if-self.false c.if-passes.true (a.holds _ (c.name_pair.ensures.holds f h));
    }

pub returns-else-passes : goal.returns-else-passes
returns-else-passes c = record {
  same = c.refuse_pair.ensures.same ∙ c.name_pair.ensures.same;
  holds = λ f h.
      pair_refused h _ _ _ _ _ (omega arith) (omega arith) refl refl c.passes-passes.ensures c.if-self.false c.if-passes.false
      (let g = c.refuse_pair.ensures.holds _ (c.name_pair.ensures.holds f h) in
      rw (ap (λ (k : Kept). k.of.name) c.name_pair.ensures.same, ap (λ (k : Kept). k.size) c.name_pair.ensures.same) at g);
}
