-- A set that passes questions 1 to 3, with no words but its own.
use Rattle.std.specs.Prelude.{List, ℕ, ◌≡◌, length}
use Rattle.sets.specs.Members.{words_of}
use Rattle.sets.specs.Questions.{questions}

-- a length and its words: the questions are passed, and there are W words
pub record Sound (n : ℕ) (ws : List ℕ) : Type 0 where
  pub asked : questions (record { length = n }) ws ≡ 0
  pub own : length ws ≡ words_of n
