use mathlib.Core.Path.{refl}
use Rattle.text_lines.proofs.RestLaws.{byte_stored, byte_passed}
use Rattle.text_lines.proofs.open_line.OpenLine.push.Goals as goal

pub returns-then-self-lt2052-clause-holds : goal.returns-then-self-lt2052-clause-holds
returns-then-self-lt2052-clause-holds c = λ rest h. byte_stored rest h _ c.if-self-lt2052.true refl refl

pub returns-else-self-lt2052-clause-holds : goal.returns-else-self-lt2052-clause-holds
returns-else-self-lt2052-clause-holds c = λ rest h. byte_passed rest h _ c.if-self-lt2052.false
