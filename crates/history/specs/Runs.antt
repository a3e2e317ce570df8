-- A run of a history: what is handed in, what comes back, and which runs are refused.
use Rattle.std.specs.Prelude.{List, ℕ, length, Result}
use Rattle.sets.specs.Members.{set_of, empty}
use Rattle.sets.specs.Questions.{first, new_questions}
use Rattle.sets.specs.Refusals.{answer_of}
use Rattle.sets.specs.declared.refusal.Refusal.{Refusal}
use Rattle.sets.specs.declared.fixed_bit_set.FixedBitSet.{FixedBitSet}
use Rattle.calls.specs.Encoding.{decode_all}
use Rattle.calls.specs.History.{State, history, fresh_sets}
use Rattle.whole_walks.specs.Rules.{answers_question}
use Rattle.whole_walks.specs.declared.walk.Walk.{Walk}
use Rattle.history.specs.declared.ran.Ran.{Ran}
use Rattle.history.specs.declared.ran.Run.{Run}

-- two lengths with their buffers, the calls as numbers with the list of positions that they name parts of, the walk, the steps as numbers, and the buffer for the answers
pub record Input : Type 0 where
  pub a_bits : ℕ
  pub words : List ℕ
  pub b_bits : ℕ
  pub other : List ℕ
  pub calls : List ℕ
  pub positions : List ℕ
  pub walk : Walk
  pub steps : List ℕ
  pub out : List ℕ

pub record Output : Type 0 where
  pub number : ℕ
  pub a : FixedBitSet
  pub words : List ℕ
  pub b : FixedBitSet
  pub other : List ℕ
  pub count : ℕ
  pub out : List ℕ

abbrev pub input_of : ℕ → List ℕ → ℕ → List ℕ → List ℕ → List ℕ → Walk → List ℕ → List ℕ → Input
input_of m ws n vs calls positions walk steps out = record { a_bits = m; words = ws; b_bits = n; other = vs; calls = calls; positions = positions; walk = walk; steps = steps; out = out }

-- a refused run has lengths and count 0
abbrev pub ran_of : Result Run Refusal → Ran
ran_of = answer_of (λ m. record { number = m; a = set_of (empty 0); b = set_of (empty 0); count = 0 })
    (λ run. record { number = 0; a = run.a; b = run.b; count = run.count })

abbrev pub output_of : Ran → List ℕ → List ℕ → List ℕ → Output
output_of r ws vs out = record { number = r.number; a = r.a; words = ws; b = r.b; other = vs; count = r.count; out = out }

-- 6 and 7 of the first fresh set, then of the second; then 7 of the buffer for the answers
abbrev pub run_questions : ℕ → ℕ → ℕ → ℕ → ℕ → ℕ → ℕ
run_questions m room n space steps size = first (new_questions m room) (first (new_questions n space) (answers_question steps size))

abbrev pub questions_of : Input → ℕ
questions_of i = run_questions i.a_bits (length i.words) i.b_bits (length i.other) (length i.steps) (length i.out)

-- a refused run: its number, lengths and count 0, every word as it was
abbrev pub unaltered : Input → Output
unaltered i = record { number = questions_of i; a = set_of (empty 0); words = i.words; b = set_of (empty 0); other = i.other; count = 0; out = i.out }

-- the state after the last call, by the history rule
abbrev pub state_of : Input → State
state_of i = history (length i.words) (length i.other) (decode_all i.positions i.calls) (fresh_sets i.a_bits i.b_bits)
