-- Whether the verdict on two files is `same`.
use Rattle.std.specs.Prelude.{Bool, ◌&&◌, List, ℕ, eqb, length}
use Rattle.sets.specs.Questions.{both_questions}
use Rattle.two_set_counts.specs.Lists.{difference_list}
use Rattle.listing_lines.specs.Offsets.{all_offsets, offsets_of}

-- both are sets, and no offset is in one alone
unfoldable pub are_same : List ℕ → List ℕ → Bool
are_same ws vs =
    eqb (both_questions all_offsets ws all_offsets vs) 0
    && (eqb (length (difference_list (offsets_of ws) (offsets_of vs))) 0 && eqb (length (difference_list (offsets_of vs) (offsets_of ws))) 0)
