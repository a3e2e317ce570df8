use native.Mathlib.Omega.{arith}
use Rattle.byte_texts.specs.Texts.{visible}
use Rattle.byte_texts.proofs.WriteLaws.{shown_more}
use Rattle.byte_texts.proofs.texts.show.Goals as goal

pub loop-byte-preserved : goal.loop-byte-preserved
loop-byte-preserved c =
    let l = c.loop-byte in
    shown_more visible c.args.bytes.now l.bytes l.byte-index _ (omega (arith, c.loop-byte-test.true, l.auto.bytes)) c.visible_byte.ensures l.invariant
