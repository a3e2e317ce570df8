use mathlib.Core.Path.{sym}
use Rattle.sets.proofs.QuestionLaws.{question_6, question_7, room_yes}
use native.Mathlib.Omega.{arith}
use Rattle.sets.proofs.checks.check_new.Goals as goal

pub returns-then-bits-gt65536 : goal.returns-then-bits-gt65536
returns-then-bits-gt65536 c = sym (question_6 _ _ c.if-bits-gt65536.true)

pub returns-then-words-blocks_of : goal.returns-then-words-blocks_of
returns-then-words-blocks_of c = sym (question_7 _ _ (omega arith) (omega (arith, c.blocks_of.ensures, c.if-words-blocks_of.true)))

pub returns : goal.returns
returns c = sym (room_yes _ _ (record { small = omega arith; enough = omega (arith, c.blocks_of.ensures, c.if-words-blocks_of.false) }))
