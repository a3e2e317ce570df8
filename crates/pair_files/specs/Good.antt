-- What the pairs of a file without a bad line are, and what its two tables say of them.
use Rattle.std.specs.Prelude.{◌≡◌, Bool, true, false, not, ◌&&◌, ◌||◌, List, [], ◌∷◌, ℕ, ◌%◌, ◌<◌, eqb}
use Rattle.edits.specs.Edits.{is_in}
use Rattle.renumber_steps.specs.Pairs.{olds, news, repeats}
use Rattle.renumber_steps.specs.declared.pair.Pair.{Pair}

-- whether p is the old offset and q the new one of a pair
unfoldable pub is_pair : List Pair → ℕ → ℕ → Bool
is_pair [] p q = false
is_pair (x ∷ xs) p q = (eqb x.old p && eqb x.new q) || is_pair xs p q

-- whether a word of a table names an offset, and which
unfoldable pub has_word : ℕ → Bool
has_word word = not (eqb word 0)

unfoldable pub names : ℕ → ℕ → Bool
names word x = has_word word && eqb (word % 65536) x

-- n is the new length
pub record GoodPairs (list : List Pair) (to from : ℕ → ℕ) (n : ℕ) : Type 0 where
  pub olds-once : repeats (olds list) ≡ false
  pub news-once : repeats (news list) ≡ false
  pub olds_below : (p : ℕ) → is_in (olds list) p ≡ true → p < 65536
  pub news_below : (q : ℕ) → is_in (news list) q ≡ true → q < 65536
  pub news_fit : (q : ℕ) → is_in (news list) q ≡ true → q < n
  -- an offset has a word exactly where it is in a pair, and that names the other offset of its pair
  pub to_some : (p : ℕ) → p < 65536 → has_word (to p) ≡ is_in (olds list) p
  pub to_new : (p : ℕ) → p < 65536 → (q : ℕ) → names (to p) q ≡ is_pair list p q
  pub from_some : (q : ℕ) → q < 65536 → has_word (from q) ≡ is_in (news list) q
  pub from_old : (q : ℕ) → q < 65536 → (p : ℕ) → names (from q) p ≡ is_pair list p q
