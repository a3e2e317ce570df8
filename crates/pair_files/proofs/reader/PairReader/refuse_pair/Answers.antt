use mathlib.Core.Path.{refl}
use Prim.Native.Nat.{ℕ}
use Rattle.pair_files.specs.Messages.{faults_text}
use Rattle.pair_files.proofs.HoldsLaws.{bad_said, bad_unsaid}
use Rattle.pair_files.proofs.reader.PairReader.refuse_pair.Goals as goal

pub returns-then-bads-lt20 : goal.returns-then-bads-lt20
returns-then-bads-lt20 c =
    let n = c.args.naming in
    let r = c.args.self.now in
    let a = c.append_faults.ensures in
    record {
      same = rw (a.name, a.text.buffer) refl;
      holds = λ f h.
          bad_said h (λ (k : ℕ). faults_text r.report.now.name.now k r.size n.pair.old n.pair.new n.was n.came)
          (rw c.more-self.ensures at a.tally) refl refl c.if-bads-lt20.true a.text;
    }

pub returns-else-bads-lt20 : goal.returns-else-bads-lt20
returns-else-bads-lt20 c =
    let n = c.args.naming in
    let r = c.args.self.now in
    record {
      same = refl;
      holds = λ f h. rw c.more-self.ensures
          (bad_unsaid h (λ (k : ℕ). faults_text r.report.now.name.now k r.size n.pair.old n.pair.new n.was n.came) refl refl refl c.if-bads-lt20.false refl);
    }
