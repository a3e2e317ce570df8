-- A table of pairs: 0 for an offset that no pair names, else a number whose remainder by 65,536 is the offset that it is paired with.
use Rattle.std.specs.Prelude.{Bool, not, ◌&&◌, List, ℕ, ◌%◌, eqb, ltb, length, get_or}
use Rattle.word_bits.specs.Counts.{some, count}
use Rattle.sets.specs.Members.{Members, set_of, empty}
use Rattle.sets.specs.Outcomes.{Outcome, edited}
use Rattle.sets.specs.Questions.{first, questions, new_questions}
use Rattle.std.specs.Prelude.{Option}
use Rattle.parts.specs.Steps.{front}
use Rattle.listing_lines.specs.Offsets.{all_offsets, offsets_of}

-- the entry of an offset: past the end of the words it is 0
abbrev pub entry_of : List ℕ → ℕ → ℕ
entry_of words p = get_or words p 0

-- whether a pair names an offset, and the offset that it is paired with
unfoldable pub is_named : (ℕ → ℕ) → ℕ → Bool
is_named table p = not (eqb (table p) 0)

unfoldable pub partner : (ℕ → ℕ) → ℕ → ℕ
partner table p = table p % 65536

-- ---- the new set

-- whether p is paired with q
unfoldable pub moves_to : (ℕ → ℕ) → ℕ → ℕ → Bool
moves_to to p q = is_named to p && eqb (partner to p) q

-- the partners of the members below n
unfoldable pub moved_below : ℕ → (ℕ → ℕ) → Members → Members
moved_below n to s = record { len = 65536; has = λ q. some n (λ p. s.has p && moves_to to p q) }

-- the set of 65,536 bits with exactly the partner of each member that has one
abbrev pub moved_by : (ℕ → ℕ) → Members → Members
moved_by to s = moved_below s.len to s

-- 1 to 3 of the old set, then 6 and 7; refused, the new set has length 0 and every word is as it was
abbrev pub move_members_rule : List ℕ → (ℕ → ℕ) → List ℕ → Outcome
move_members_rule ws to vs = edited (first (questions all_offsets ws) (new_questions 65536 (length vs))) (set_of (empty 0)) vs (moved_by to (offsets_of ws))

-- ---- the offsets that a table names

unfoldable pub named_below : ℕ → (ℕ → ℕ) → Members
named_below n table = record { len = 65536; has = λ p. ltb p n && is_named table p }

-- the set of 65,536 bits with exactly those that a pair names
abbrev pub named_by : (ℕ → ℕ) → Members
named_by table = named_below 65536 table

abbrev pub named_set_rule : (ℕ → ℕ) → List ℕ → Outcome
named_set_rule table vs = edited (new_questions 65536 (length vs)) (set_of (empty 0)) vs (named_by table)

-- ---- members with no pair

unfoldable pub is_unpaired : (ℕ → ℕ) → Members → ℕ → Bool
is_unpaired to s p = s.has p && not (is_named to p)

-- the first of them from a place on, or none, and how many there are
abbrev pub unpaired_from : (ℕ → ℕ) → Members → ℕ → Option ℕ
unpaired_from to s from = (front (is_unpaired to s) (record { low = from; high = s.len })).at

abbrev pub unpaired_count : (ℕ → ℕ) → Members → ℕ
unpaired_count to s = count s.len (is_unpaired to s)
