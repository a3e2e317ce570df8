-- The third demand: one statement about a list of calls on two fresh sets, a walk with any mix of front and back steps, and its count.
use Rattle.std.specs.Prelude.{◌≡◌, map, length, take, drop}
use Rattle.sets.specs.Members.{write, set_of}
use Rattle.whole_walks.specs.Rules.{end_of, answer_of}
use Rattle.whole_walks.specs.Walked.{Walked}
use Rattle.history.specs.Runs.{Input, Output, questions_of, unaltered, state_of}

pub record Accepted (i : Input) (o : Output) : Type 0 where
  -- no step and no count is refused
  pub number : o.number ≡ 0
  -- the lengths and the words left are those of the history's state
  pub first_set : (o.a ≡ set_of (state_of i).a) × (o.words ≡ write i.words (state_of i).a)
  pub second_set : (o.b ≡ set_of (state_of i).b) × (o.other ≡ write i.other (state_of i).b)
  -- the answers in the buffer, one for each step, and the count are right for the walk over the sets of that state
  pub walked : Walked i.walk (state_of i).a (state_of i).b (map end_of i.steps) (map answer_of (take (length i.steps) o.out)) o.count
  -- the words after the answers are as they were
  pub beyond : drop (length i.steps) o.out ≡ drop (length i.steps) i.out

pub record ThirdDemand (i : Input) (o : Output) : Type 0 where
  pub refused : (questions_of i ≡ 0 → ⊥) → o ≡ unaltered i
  pub accepted : questions_of i ≡ 0 → Accepted i o
