use mathlib.Core.Path.{sym}
use native.Mathlib.Omega.{arith}
use lib.Seq.{length-take-le}
use Rattle.byte_texts.proofs.GrowthLaws.{appended_then, appended_as}
use Rattle.byte_texts.proofs.WriteLaws.{text_short, text_long}
use Rattle.byte_texts.proofs.texts.Text.append_text.Goals as goal

pub returns-then-text-le40 : goal.returns-then-text-le40
returns-then-text-le40 c = appended_as c.append_visible.ensures (text_short _ c.if-text-le40.true)

pub slice_bounds-append_visible-end : goal.slice_bounds-append_visible-end
slice_bounds-append_visible-end c = sym (length-take-le 40 c.args.text.now (omega arith))

pub returns : goal.returns
returns c = appended_as (appended_then c.append_visible-2.ensures c.append.ensures) (text_long _ c.if-text-le40.false)
