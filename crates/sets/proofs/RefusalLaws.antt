-- What a refusal tells. Assumes nothing.
use mathlib.Core.Path.{◌≡◌, sym, ap, ◌∙◌}
use Prim.Native.Nat.{ℕ}
use native.Mathlib.Omega.{arith}
use Rattle.std.specs.Result.{IsErrAnd}
use Rattle.std.proofs.Common.{Result, Ok, Err}
use Rattle.std.proofs.lemmas.Result.{err_from_is_err_and}
use mathlib.Core.List.{List}
use Rattle.sets.specs.Outcomes.{Outcome, outcome, given}
use Rattle.sets.specs.Questions.{first}
use Rattle.sets.specs.Refusals.{number, number_of, answer_of, edited_of}
use Rattle.sets.specs.declared.fixed_bit_set.FixedBitSet.{FixedBitSet}
use Rattle.sets.specs.declared.refusal.Refusal.{Refusal}
use Rattle.sets.specs.declared.refusal.Refusal.TheVariants.{Length, Words, StrayBits, Position, Range, NewLength, Room, Record, SharedOld, SharedNew, NoPair}
use Rattle.sets.proofs.OutcomeLaws.{given_no}
use Rattle.sets.proofs.QuestionLaws.{first_no}

-- no question has the number 0
pub number_ne0 : (r : Refusal) → number r ≡ 0 → ⊥
number_ne0 Length e = omega (arith, e)
number_ne0 Words e = omega (arith, e)
number_ne0 StrayBits e = omega (arith, e)
number_ne0 Position e = omega (arith, e)
number_ne0 Range e = omega (arith, e)
number_ne0 NewLength e = omega (arith, e)
number_ne0 Room e = omega (arith, e)
number_ne0 Record e = omega (arith, e)
number_ne0 SharedOld e = omega (arith, e)
number_ne0 SharedNew e = omega (arith, e)
number_ne0 NoPair e = omega (arith, e)

-- what a `?` hands on: the answer of a call that a refusal ends, whatever it would have given
pub answer_refused : {A B : Type 0} (refused : ℕ → B) (accepted : A → B) (given_else : B) {n : ℕ} (r : Result A Refusal) (e : Refusal)
    → IsErrAnd r (λ d. d ≡ e) → number e ≡ n → answer_of refused accepted r ≡ given n refused given_else
answer_refused refused accepted given_else r e passed numbered =
    let p = err_from_is_err_and r passed in
    ap (answer_of refused accepted) p.1 ∙ given_no refused given_else (ap number p.2 ∙ numbered) (number_ne0 p.0)

-- its number, whatever would have been asked next
pub first_refused : {A : Type 0} (b : ℕ) {a : ℕ} (r : Result A Refusal) (e : Refusal) → IsErrAnd r (λ d. d ≡ e) → number e ≡ a → number_of r ≡ first a b
first_refused b r e passed numbered =
    let p = err_from_is_err_and r passed in
    ap number_of p.1 ∙ first_no b (ap number p.2 ∙ numbered) (number_ne0 p.0)

-- its number, where it is the last that is asked
pub number_refused : {A : Type 0} {a : ℕ} (r : Result A Refusal) (e : Refusal) → IsErrAnd r (λ d. d ≡ e) → number e ≡ a → number_of r ≡ a
number_refused r e passed numbered =
    let p = err_from_is_err_and r passed in
    ap number_of p.1 ∙ ap number p.2 ∙ numbered

-- an edit that a refusal ends: the set as handed in, and the words as they then are
pub edit_refused : (set : FixedBitSet) (ws : List ℕ) (given_else : Outcome) {n : ℕ} (r : Result FixedBitSet Refusal) (e : Refusal)
    → IsErrAnd r (λ d. d ≡ e) → number e ≡ n
    → outcome (edited_of set r) ws ≡ given n (λ m. record { number = m; set = set; words = ws }) given_else
edit_refused set ws given_else r e passed numbered =
    let p = err_from_is_err_and r passed in
    ap (λ (x : Result FixedBitSet Refusal). outcome (edited_of set x) ws) p.1
    ∙ given_no (λ m. record { number = m; set = set; words = ws }) given_else (ap number p.2 ∙ numbered) (number_ne0 p.0)
