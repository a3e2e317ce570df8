use Rattle.std.proofs.Common.{◌≡◌, ℕ, ◌+◌, ◌-◌, ◌≤◌, List, ◌++◌, length, take, drop, sym, ap, subst, ◌∙◌, arith, length-drop}
use Rattle.std.proofs.Math.Seq.{take-add}
use Rattle.std.proofs.lemmas.List.{take_rest}
use Rattle.std.specs.Io.KnownBytes.{Appends}
use Rattle.std.proofs.KnownBytes.{Appends-nil, Appends-trans}
use Rattle.tool_files.proofs.streams.write_whole.Goals as goal

-- the first n of the rest stand behind those that are done
further : (bytes : List ℕ) (done n : ℕ) → take done bytes ++ take n (take (length bytes - done) (drop done bytes)) ≡ take (done + n) bytes
further bytes done n = ap (λ (l : List ℕ). take done bytes ++ take n l) (take_rest bytes done) ∙ sym (take-add done n bytes)

in_rest : (bytes : List ℕ) (done n : ℕ) → done ≤ length bytes → n ≤ length (take (length bytes - done) (drop done bytes)) → done + n ≤ length bytes
in_rest bytes done n d h = omega (arith, ap length (take_rest bytes done), length-drop done bytes)

pub loop-done-init : goal.loop-done-init
loop-done-init g c = record { in_range = omega arith; appended = Appends-nil _ }

pub loop-done-preserved-in-Ok : goal.loop-done-preserved-in-Ok
loop-done-preserved-in-Ok g c =
    record {
      in_range = in_rest _ _ _ c.loop-done.invariant.in_range c.in-Ok.ensures.bound;
      appended =
          subst (Appends (g.W.Write.contents c.args.out.now) (g.W.Write.contents c.write.new.self)) (further _ _ _)
          (Appends-trans _ _ _ _ _ c.loop-done.invariant.appended c.in-Ok.ensures.bytes);
    }
