-- What an accepted edit leaves, position by position.
use Rattle.std.specs.Prelude.{Bool, true, false, not, ◌||◌, List, [], ◌∷◌, ℕ, ◌+◌, max, eqb}
use Rattle.masks.specs.Ranges.{covers}
use Rattle.sets.specs.Members.{Members, changed}

-- `insert` makes a position a member, `remove` ends that, `toggle` flips, `set` does as its yes or no says
abbrev pub inserted : ℕ → Members → Members
inserted b s = changed (eqb b) (λ was. true) s

abbrev pub removed : ℕ → Members → Members
removed b s = changed (eqb b) (λ was. false) s

abbrev pub toggled : ℕ → Members → Members
toggled b s = changed (eqb b) not s

abbrev pub assigned : ℕ → Bool → Members → Members
assigned b enabled s = changed (eqb b) (λ was. enabled) s

-- `copy_bit` gives `to` the state that `from` had
abbrev pub copied : ℕ → ℕ → Members → Members
copied from to s = assigned to (s.has from) s

-- whether p is one of a list
unfoldable pub is_in : List ℕ → ℕ → Bool
is_in [] p = false
is_in (q ∷ qs) p = eqb q p || is_in qs p

-- `insert_all` makes each position of a list a member
abbrev pub inserted_all : List ℕ → Members → Members
inserted_all ps s = changed (is_in ps) (λ was. true) s

-- the same over a range
abbrev pub inserted_range : ℕ → ℕ → Members → Members
inserted_range start end s = changed (covers start end) (λ was. true) s

abbrev pub removed_range : ℕ → ℕ → Members → Members
removed_range start end s = changed (covers start end) (λ was. false) s

abbrev pub toggled_range : ℕ → ℕ → Members → Members
toggled_range start end s = changed (covers start end) not s

abbrev pub assigned_range : ℕ → ℕ → Bool → Members → Members
assigned_range start end enabled s = changed (covers start end) (λ was. enabled) s

-- `clear` ends every membership
abbrev pub cleared : Members → Members
cleared s = changed (λ p. true) (λ was. false) s

-- `grow` to n makes the length the larger of L and n
unfoldable pub grown : ℕ → Members → Members
grown n s = record { len = max s.len n; has = s.has }

-- `grow_and_insert` of b grows to b + 1 and inserts b
abbrev pub grown_and_inserted : ℕ → Members → Members
grown_and_inserted b s = inserted b (grown (b + 1) s)
