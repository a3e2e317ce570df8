use mathlib.Core.Path.{sym}
use Rattle.sets.specs.Members.{words_of}
use Rattle.sets.proofs.QuestionLaws.{question_1, question_2, valid_yes}
use Rattle.sets.proofs.StrayLaws.{no_partial_word, clear_above, found_above}
use native.Mathlib.Omega.{arith}
use Rattle.sets.proofs.fixed_bit_set.FixedBitSet.check.Goals as goal

pub returns-then-self-gt65536 : goal.returns-then-self-gt65536
returns-then-self-gt65536 c = sym (question_1 _ _ c.if-self-gt65536.true)

pub returns-then-words-whole : goal.returns-then-words-whole
unfolding words_of
returns-then-words-whole c = sym (question_2 _ _ (omega arith) (omega arith))

pub returns-then-rem-eq0 : goal.returns-then-rem-eq0
unfolding words_of
returns-then-rem-eq0 c = sym (valid_yes _ _ (no_partial_word _ _ (omega arith) (omega arith) (omega arith)))

pub returns-then-words-whole-2 : goal.returns-then-words-whole-2
unfolding words_of
returns-then-words-whole-2 c = sym (question_2 _ _ (omega arith) (omega arith))

pub returns : goal.returns
unfolding words_of
returns c = sym (valid_yes _ _ (clear_above _ _ (omega arith) (omega arith) c.if-words-whole-ne0.false))

pub returns-then-words-whole-ne0 : goal.returns-then-words-whole-ne0
unfolding words_of
returns-then-words-whole-ne0 c = sym (found_above _ _ (omega arith) (omega arith) (c.type_inv.words _).fits (omega arith) c.if-words-whole-ne0.true)
