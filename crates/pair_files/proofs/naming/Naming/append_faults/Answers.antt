use mathlib.Core.List.{List}
use Prim.Native.Nat.{ℕ}
use Rattle.byte_texts.specs.Ascii.{ascii}
use Rattle.text_lines.proofs.SaysLaws.{says_then}
use Rattle.pair_files.specs.Messages.{named_fault, beyond_fault, faults_text}
use Rattle.pair_files.proofs.naming.Naming.append_faults.Goals as goal

pub returns : goal.returns
unfolding ascii faults_text
returns c =
    let n = c.args.self in
    says_then _ (λ (name : List ℕ) (k : ℕ). beyond_fault name k n.pair.new c.args.size)
    (says_then _ (λ (name : List ℕ) (k : ℕ). named_fault name k (ascii ": new offset ") n.pair.new n.came) c.append_named_fault.ensures c.append_named_fault-2.ensures)
    c.append_beyond_fault.ensures
