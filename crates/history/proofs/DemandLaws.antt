-- The third demand, of the definitions: any list of calls on two fresh_sets sets, any of the five walks, any mix of steps. Assumes nothing.
use mathlib.Core.Path.{◌≡◌, refl}
use mathlib.Core.List.{List}
use Prim.Native.Nat.{ℕ}
use lib.ListN.{length}
use Rattle.sets.specs.Members.{empty}
use Rattle.sets.specs.Questions.{new_questions}
use Rattle.sets.proofs.QuestionLaws.{room}
use Rattle.parts.specs.declared.records.End.{End}
use Rattle.calls.specs.History.{State, Called, history, fresh_sets}
use Rattle.calls.proofs.SoundLaws.{Sound}
use Rattle.calls.proofs.HistoryLaws.{Keeps, history_kept}
use Rattle.whole_walks.specs.Walks.{walk_list, answers}
use Rattle.whole_walks.specs.Walked.{Walked}
use Rattle.whole_walks.specs.declared.walk.Walk.{Walk}
use Rattle.whole_walks.proofs.WalkedLaws.{walked}

pub empty_sound : (n size : ℕ) → new_questions n size ≡ 0 → Sound size (empty n)
empty_sound n size e = let r = room n size e in record { small = r.small; enough = r.enough; clipped = record { above = λ p h. refl } }

-- m and n are the lengths that `with_capacity` accepts in buffers of `one` and `two` words
module _ (m one n two : ℕ) (calls : List Called) (a-fits : new_questions m one ≡ 0) (b-fits : new_questions n two ≡ 0) where
  abbrev pub after : State
  after = history one two calls (fresh_sets m n)

  pub kept : Keeps one two (fresh_sets m n) after
  kept = history_kept one two calls (fresh_sets m n) (empty_sound m one a-fits) (empty_sound n two b-fits)

  pub history-walked : (walk : Walk) (ends : List End)
      → Walked walk after.a after.b ends (answers walk after.a after.b ends) (length (walk_list walk after.a after.b))
  history-walked walk ends = walked walk after.a after.b kept.a.sound.clipped kept.b.sound.clipped ends
