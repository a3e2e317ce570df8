-- What the calls that write lines of a walk have to give: a over the first words, b over the second.
use Rattle.std.specs.Prelude.{◌≡◌, Bool, true, false, Option, None, Some, Result, List, ◌++◌, ℕ, ◌+◌, ◌^◌, ◌≤◌, ◌<◌, length, take, drop}
use Rattle.byte_texts.specs.Growth.{Appended}
use Rattle.byte_texts.specs.declared.texts.Text.{Text}
use Rattle.sets.specs.Members.{Members}
use Rattle.sets.specs.Questions.{part_question, both_questions}
use Rattle.whole_walks.specs.declared.walk.Walk.{Walk}
use Rattle.listing_lines.specs.Listings.{has_of, lacks_of, listed}
use Rattle.listing_lines.specs.Offsets.{all_offsets, offsets_of}
use Rattle.listings.specs.Pages.{walk_left}
use Rattle.sets.specs.declared.refusal.Refusal.{Refusal}
use Rattle.next_many.specs.Calls.{next_many_pair_of}
use Rattle.next_many.specs.declared.answers.ManyPair.{ManyPair}
use Rattle.next_many.specs.declared.answers.NextManyPair.{NextManyPair}
use Rattle.whole_walks.specs.declared.whole.Records.{Records}
use Rattle.listings.specs.declared.fills.Lines.{Lines}
use Rattle.listing_lines.specs.declared.lines.Listing.{Listing}

-- no question refuses the sets and the records of a walk
pub record Asked (ws vs : List ℕ) (p : Records) : Type 0 where
  pub sets : both_questions all_offsets ws all_offsets vs ≡ 0
  pub first : part_question all_offsets p.one ≡ 0
  pub second : part_question all_offsets p.two ≡ 0

-- what a call for many offsets gives, with its number, and the records after it
abbrev pub given_of : Records → Result ManyPair Refusal → NextManyPair
given_of p r = next_many_pair_of p.one p.two r

abbrev pub records_of : NextManyPair → Records
records_of r = record { one = r.one; two = r.two }

-- how many bytes of the buffer are lines, what is left of the walk then, whether that is nothing, and whether the lines are there whole
pub record Filled : Type 0 where
  pub length : ℕ
  pub records : Records
  pub place : ℕ
  pub over : Bool
  pub whole : Bool

-- what a call gives, as such a record: nothing is none
abbrev pub filled_of : Records → ℕ → Option Lines → Filled
filled_of p place None = record { length = 0; records = p; place = place; over = false; whole = false }
filled_of p place (Some r) = record { length = r.length; records = r.records; place = r.place; over = r.over; whole = true }

module _ (walk : Walk) (l : Listing) (a b : Members) (p : Records) (place : ℕ) where
  -- a batch: the lines of the next 64 offsets, or of those that are left
  pub record BatchRight (before after : Text) (r : NextManyPair) : Type 0 where
    pub text : Appended before after (listed l place (take 64 (walk_left walk a b p)))
    pub rest : walk_left walk a b (records_of r) ≡ drop 64 (walk_left walk a b p)
    pub counted : r.count ≡ length (take 64 (walk_left walk a b p))

  -- the start of a buffer filled with lines
  pub record FilledRight (out : List ℕ) (r : Filled) : Type 0 where
    pub fits : r.length ≤ length out
    -- what is written, and the lines of what is left, are the lines of what was left
    pub text : r.whole ≡ true → take r.length out ++ listed l r.place (walk_left walk a b r.records) ≡ listed l place (walk_left walk a b p)
    pub counted : r.whole ≡ true → r.place + length (walk_left walk a b r.records) ≡ place + length (walk_left walk a b p)
    pub ended : r.whole ≡ true → r.over ≡ true → length (walk_left walk a b r.records) ≡ 0
    -- a buffer with room for a batch has lines in it, where the walk is not over
    pub moves : r.whole ≡ true → r.over ≡ false → 16384 ≤ length out → 0 < r.length

-- so a batch is given, and its records may be asked again
pub record BatchSure (ws vs : List ℕ) (r : NextManyPair) : Type 0 where
  pub accepted : r.number ≡ 0
  pub asked : Asked ws vs (records_of r)

-- with names of up to 64 bytes and places that are not absurd, no batch is cut
pub record Sure (walk : Walk) (l : Listing) (ws vs : List ℕ) (p : Records) (place : ℕ) : Type 0 where
  pub asked : Asked ws vs p
  pub short : (length (has_of l.missing) ≤ 64) × (length (lacks_of l.missing) ≤ 64)
  pub places : place + length (walk_left walk (offsets_of ws) (offsets_of vs) p) ≤ 2 ^ 32

pub record FilledSure (ws vs : List ℕ) (r : Filled) : Type 0 where
  pub whole : r.whole ≡ true
  pub asked : Asked ws vs r.records
