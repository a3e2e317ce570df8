use Rattle.byte_texts.proofs.GrowthLaws.{appended_then, appended_as}
use Rattle.byte_texts.proofs.WriteLaws.{name_short, name_long}
use Rattle.byte_texts.proofs.texts.Text.append_name.Goals as goal

pub returns-then-name-le40 : goal.returns-then-name-le40
returns-then-name-le40 c = appended_as c.append_visible.ensures (name_short _ c.if-name-le40.true)

pub returns : goal.returns
returns c = appended_as (appended_then c.append.ensures c.append_visible-2.ensures) (name_long _ c.if-name-le40.false)
