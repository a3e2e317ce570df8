-- The words of a cleared set, and of one that grows. Assumes nothing.
use mathlib.Core.Path.{◌≡◌, sym, ap, ◌∙◌}
use mathlib.Core.List.{List}
use mathlib.Core.Logic.{◌⊎◌, inl, inr}
use Prim.Native.Nat.{ℕ, ◌+◌, ◌*◌, ◌/◌, ◌%◌, ◌^◌, ◌≤◌, ◌<◌, max}
use native.Mathlib.Omega.{arith}
use lib.ListN.{length, get_or, set as set_at}
use Rattle.word_bits.specs.Digits.{word_of}
use Rattle.word_bits.proofs.Digits.{word_is}
use Rattle.word_bits.proofs.Order.{lt-or-le}
use Rattle.masks.proofs.RangeLaws.{covers_below, covers_above}
use Rattle.blocks.specs.Sweeps.{swept}
use Rattle.sets.specs.Members.{Members, words_of, read, write, set_of, changed}
use Rattle.sets.specs.declared.fixed_bit_set.FixedBitSet.{FixedBitSet}
use Rattle.blocks.proofs.BlockLaws.{zeroed, zeroed_is, length-swept, swept_in, swept_out}
use Rattle.sets.proofs.ZeroLaws.{zeroed_write, no_members}
use Rattle.sets.proofs.QuestionLaws.{Valid, Room}
use Rattle.sets.proofs.ReadLaws.{read-digit, read_above, write_valid}
use Rattle.sets.proofs.WordLaws.{words_hold}
use Rattle.sets.proofs.WriteLaws.{Clipped, write_is, read-write, write-write}
use Rattle.changes.specs.Changes.{changed_word}
use Rattle.edits.specs.Edits.{cleared, grown, inserted}
use Rattle.changes.specs.declared.change.Change.TheVariants.{Insert}
use Rattle.edits.proofs.PositionChanges.{position_write}

pub cleared-write : (set : FixedBitSet) (ws : List ℕ) → Valid set ws → swept 0 (words_of set.length) zeroed ws ≡ write ws (cleared (read ws set))
unfolding changed read
cleared-write set ws v = zeroed_write set.length ws v.enough

module _ (set : FixedBitSet) (ws : List ℕ) (v : Valid set ws) (n : ℕ) (r : Room (max set.length n) (length ws)) where
  grown_clipped : Clipped (grown n (read ws set))
  unfolding grown read
  grown_clipped = record { above = λ p h. read_above ws set p (omega arith) }

  -- the words it takes in are cleared
  pub grown-write : ((k : ℕ) → get_or ws k 0 < 2 ^ 64)
      → swept (words_of set.length) (words_of (max set.length n)) zeroed ws ≡ write ws (grown n (read ws set))
  unfolding grown read
  grown-write fit =
      write_is ws (grown n (read ws set)) _ r.enough (length-swept (words_of set.length) (words_of (max set.length n)) zeroed ws)
      (λ k h. go k h (lt-or-le k (words_of set.length)))
      (λ k h. swept_out (words_of set.length) (words_of (max set.length n)) zeroed ws k (covers_above (words_of set.length) (words_of (max set.length n)) k h))
    where
      go : (k : ℕ) → k < words_of (max set.length n) → (k < words_of set.length) ⊎ (words_of set.length ≤ k)
          → get_or (swept (words_of set.length) (words_of (max set.length n)) zeroed ws) k 0 ≡ word_of (read ws set).has k
      go k h (inl l) =
          swept_out (words_of set.length) (words_of (max set.length n)) zeroed ws k (covers_below (words_of set.length) (words_of (max set.length n)) k l)
          ∙ word_is (read ws set).has k (get_or ws k 0) (fit k) (λ j b. sym (read-digit set ws v k j l b))
      go k h (inr g) =
          swept_in (words_of set.length) (words_of (max set.length n)) zeroed ws k (omega (arith, r.enough)) g h
          ∙ zeroed_is k (get_or ws k 0)
          ∙ no_members (read ws set).has k (λ j b. read_above ws set (k * 64 + j) (omega (arith, (words_hold set.length).0)))

  pub grown_valid : Valid (set_of (grown n (read ws set))) (write ws (grown n (read ws set)))
  unfolding grown read
  grown_valid = write_valid ws (grown n (read ws set)) grown_clipped r.small r.enough

  -- and one position of the longer set inserted
  pub grown-inserted : (b : ℕ) → b < max set.length n → ((k : ℕ) → get_or (write ws (grown n (read ws set))) k 0 < 2 ^ 64)
      → set_at (write ws (grown n (read ws set))) (b / 64) (changed_word Insert (2 ^ (b % 64)) (get_or (write ws (grown n (read ws set))) (b / 64) 0))
      ≡ write ws (inserted b (grown n (read ws set)))
  unfolding grown read changed
  grown-inserted b h fit =
      position_write (set_of g) (write ws g) grown_valid fit b h Insert
      ∙ ap (λ (s : Members). write (write ws g) (inserted b s)) (read-write ws g grown_clipped)
      ∙ write-write ws g (inserted b g) (omega arith) r.enough
    where
      g : Members
      g = grown n (read ws set)
