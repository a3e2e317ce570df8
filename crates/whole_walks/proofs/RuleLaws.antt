-- The rule of a walk's count over sets that pass their questions, and question 7 of the buffer for the answers. Assumes nothing.
use mathlib.Core.Path.{◌≡◌, sym, ap, ◌∙◌}
use mathlib.Core.Bool.{Bool, cond, ◌&&◌}
use mathlib.Core.List.{List}
use Prim.Native.Nat.{ℕ, ◌≤◌, ◌<◌}
use native.Mathlib.Nat.{le_refl}
use native.Mathlib.Omega.{arith}
use borrow.Author.Tests.{le-leb, lt-leb}
use lib.ListN.{length}
use Rattle.std.specs.Result.{IsErrAnd}
use Rattle.std.proofs.Common.{Result}
use Rattle.std.proofs.lemmas.Result.{err_from_is_err_and}
use Rattle.word_bits.proofs.Ones.{count_ext}
use Rattle.masks.specs.Ranges.{covers}
use Rattle.masks.proofs.RangeLaws.{covers-yes}
use Rattle.sets.proofs.RangeQuestionLaws.{range_yes}
use Rattle.sets.specs.Members.{read}
use Rattle.sets.specs.Outcomes.{given}
use Rattle.sets.specs.Questions.{questions, range_questions, both_questions}
use Rattle.sets.specs.Refusals.{number, counted_of}
use Rattle.sets.specs.declared.fixed_bit_set.FixedBitSet.{FixedBitSet}
use Rattle.sets.specs.declared.refusal.Refusal.{Refusal}
use Rattle.sets.proofs.OutcomeLaws.{given_no}
use Rattle.sets.proofs.RefusalLaws.{number_ne0}
use Rattle.sets.proofs.QuestionLaws.{first-yes, valid_yes, both_valid}
use Rattle.tests.specs.Tests.{ones_in}
use Rattle.two_set_counts.specs.Lists.{ones_list}
use Rattle.two_set_counts.proofs.ListLaws.{length-positions}
use Rattle.whole_walks.specs.Walks.{walk_list}
use Rattle.whole_walks.specs.Rules.{walk_count_rule, answers_question, WalkOutcome, walk_outcome}
use Rattle.whole_walks.specs.declared.walk.Walk.{Walk}
use Rattle.whole_walks.specs.declared.walk.Walk.TheVariants.{Ones, Intersection, Difference, Union, SymmetricDifference}

module _ (a : FixedBitSet) (ws : List ℕ) (b : FixedBitSet) (vs : List ℕ) (ok : both_questions a ws b vs ≡ 0) where
  own : questions a ws ≡ 0
  own = valid_yes a ws (both_valid a ws b vs ok).one

  -- `count_ones` over all of A
  all_asked : range_questions a ws 0 a.length ≡ 0
  all_asked = sym (first-yes own (sym (range_yes 0 a.length a.length (omega arith) (le_refl a.length))))

  ones_size : ones_in 0 a.length (read ws a) ≡ length (ones_list (read ws a))
  unfolding read
  ones_size =
      count_ext a.length (λ p. covers 0 a.length p && (read ws a).has p) (read ws a).has
      (λ p l. ap (λ (t : Bool). t && (read ws a).has p) (covers-yes 0 a.length p (omega arith) l))
      ∙ sym (length-positions a.length (read ws a).has)

  pub count-accepted : (walk : Walk) → walk_count_rule a ws b vs walk ≡ record { number = 0; count = length (walk_list walk (read ws a) (read vs b)) }
  unfolding given
  count-accepted Ones = rw (all_asked, ones_size)
  count-accepted Intersection = rw ok
  count-accepted Difference = rw ok
  count-accepted Union = rw ok
  count-accepted SymmetricDifference = rw ok

module _ (steps size : ℕ) where
  pub answers-yes : steps ≤ size → answers_question steps size ≡ 0
  unfolding answers_question
  answers-yes h = ap (λ (t : Bool). cond t 0 7) (le-leb steps size h)

  pub answers_no : size < steps → answers_question steps size ≡ 7
  unfolding answers_question
  answers_no h = ap (λ (t : Bool). cond t 0 7) (lt-leb steps size h)

-- a walk that a refusal ends: no word is written
pub walk_refused : (out : List ℕ) (given_else : WalkOutcome) {n : ℕ} (r : Result ℕ Refusal) (e : Refusal) → IsErrAnd r (λ d. d ≡ e) → number e ≡ n
    → walk_outcome (counted_of r) out ≡ given n (λ m. record { number = m; count = 0; out = out }) given_else
walk_refused out given_else r e passed numbered =
    let p = err_from_is_err_and r passed in
    ap (λ (x : Result ℕ Refusal). walk_outcome (counted_of x) out) p.1
    ∙ given_no (λ m. record { number = m; count = 0; out = out }) given_else (ap number p.2 ∙ numbered) (number_ne0 p.0)
