-- The loop that writes the positions of one part.
use Rattle.std.specs.Prelude.{Bool, List, ◌++◌, ℕ, ◌+◌, ◌-◌, length, take, drop}
use Rattle.next_many.specs.Many.{Many, front_steps}
use Rattle.next_many.specs.declared.answers.Many.{Many as Answered}

pub record FillOutcome : Type 0 where
  pub count : ℕ
  pub low : ℕ
  pub out : List ℕ

abbrev pub fill_outcome : Answered → List ℕ → FillOutcome
fill_outcome r out = record { count = r.count; low = r.part.low; out = out }

-- the positions of the steps stand in the buffer from word n on, and its other words are as they were
abbrev pub stored : ℕ → List ℕ → Many → FillOutcome
stored n out m = record {
  count = n + length m.positions;
  low = m.part.low;
  out = take n out ++ m.positions ++ drop (n + length m.positions) out;
}

-- a step for each word from word n on
unfoldable pub filled : (ℕ → Bool) → ℕ → ℕ → ℕ → List ℕ → FillOutcome
filled has high n low out = stored n out (front_steps (length out - n) has (record { low = low; high = high }))
