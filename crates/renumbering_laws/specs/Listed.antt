-- What is known of what the tool lists with a table of pairs and a set of 65,536 bits, by its words, with no member that has no pair.
use Rattle.std.specs.Prelude.{◌≡◌, List, ℕ, ◌≤◌, length}
use Rattle.sets.specs.Members.{words_of}
use Rattle.sets.specs.Questions.{new_questions}
use Rattle.two_set_counts.specs.Lists.{ones_list}
use Rattle.renumber_steps.specs.Pairs.{renumbered}
use Rattle.renumber_steps.specs.Promises.{leaves}
use Rattle.renumber_steps.specs.Rules.{renumber_questions, renumber_rule}
use Rattle.renumber_steps.specs.declared.pair.Pair.{Pair}
use Rattle.listing_lines.specs.Offsets.{all_offsets, offsets_of}
use Rattle.pair_listings.specs.Tables.{moved_by}

-- `size` is the new length
pub record Listed (pairs : List Pair) (size : ℕ) (to : ℕ → ℕ) (ws : List ℕ) : Type 0 where
  -- `renumber` refuses the pairs only with 6 or 7, of a buffer of so many words
  pub asked : (room : ℕ) → renumber_questions all_offsets ws pairs size room ≡ new_questions size room
  -- the members that the table moves are those of the new set
  pub moved : (q : ℕ) → (moved_by to (offsets_of ws)).has q ≡ (renumbered pairs size (offsets_of ws)).has q
  -- and in a buffer with room `renumber` leaves the set whose members, rising, are listed
  pub accepted : (vs : List ℕ) → size ≤ 65536 → words_of size ≤ length vs → (renumber_rule all_offsets ws pairs size vs).number ≡ 0
  pub left : (vs : List ℕ) → size ≤ 65536 → words_of size ≤ length vs → ones_list (moved_by to (offsets_of ws)) ≡ ones_list (leaves (renumber_rule all_offsets ws pairs size vs))
