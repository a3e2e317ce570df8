-- The offsets of files: how many there can be, their first record, and how many a walk has as they are counted. Assumes nothing.
use mathlib.Core.Path.{◌≡◌, refl, ap, ◌∙◌}
use mathlib.Core.Bool.{Bool}
use mathlib.Core.List.{List}
use Prim.Native.Nat.{ℕ, ◌≤◌}
use native.Mathlib.Omega.{arith}
use lib.ListN.{length}
use Rattle.std.specs.Prelude.{Result, Ok, Err}
use Rattle.std.specs.Result.{result_unwrap_or}
use Rattle.word_bits.proofs.Ones.{count-le}
use Rattle.sets.specs.Questions.{part_question, both_questions}
use Rattle.sets.specs.Refusals.{counted_of}
use Rattle.sets.specs.declared.answers.Counted.{Counted}
use Rattle.sets.specs.declared.refusal.Refusal.{Refusal}
use Rattle.sets.proofs.RangeQuestionLaws.{part_yes}
use Rattle.two_set_counts.specs.Lists.{positions}
use Rattle.two_set_counts.proofs.ListLaws.{length-positions}
use Rattle.walks.specs.Rules.{first_part}
use Rattle.whole_walks.specs.Rules.{walk_count_rule}
use Rattle.whole_walks.specs.Walks.{walk_list}
use Rattle.whole_walks.specs.declared.walk.Walk.{Walk}
use Rattle.whole_walks.proofs.RuleLaws.{count-accepted}
use Rattle.listing_lines.specs.Offsets.{all_offsets, offsets_of}

-- of 65,536 offsets no more can be in a list
pub few : (f : ℕ → Bool) → length (positions 65536 f) ≤ 65536
few f = omega (arith, length-positions 65536 f, count-le 65536 f)

pub first-asked : part_question all_offsets (first_part all_offsets) ≡ 0
first-asked = part_yes all_offsets (first_part all_offsets) (omega arith) (omega arith)

-- how many offsets a walk has, as it is counted
pub size_is : (ws vs : List ℕ) (walk : Walk) (r : Result ℕ Refusal) → both_questions all_offsets ws all_offsets vs ≡ 0 → counted_of r ≡ walk_count_rule all_offsets ws all_offsets vs walk
    → result_unwrap_or r 0 ≡ length (walk_list walk (offsets_of ws) (offsets_of vs))
size_is ws vs walk r ok e = as_count r ∙ ap (λ (r : Counted). r.count) (e ∙ count-accepted all_offsets ws all_offsets vs ok walk)
  where
    as_count : (r : Result ℕ Refusal) → result_unwrap_or r 0 ≡ (counted_of r).count
    as_count (Ok n) = refl
    as_count (Err e) = refl
