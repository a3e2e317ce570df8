-- Words that are cleared. Assumes nothing.
use mathlib.Core.Path.{◌≡◌, refl, sym, ◌∙◌}
use mathlib.Core.Bool.{Bool, false}
use mathlib.Core.List.{List}
use Prim.Native.Nat.{ℕ, ◌+◌, ◌*◌, ◌≤◌, ◌<◌}
use native.Mathlib.Omega.{arith}
use lib.Dec.{lit<}
use lib.ListN.{length, get_or}
use Rattle.word_bits.specs.Digits.{word_of}
use Rattle.word_bits.proofs.Digits.{digit_of_zero, word_is}
use Rattle.masks.proofs.RangeLaws.{covers_above}
use Rattle.blocks.specs.Sweeps.{swept}
use Rattle.blocks.proofs.BlockLaws.{zeroed, zeroed_is, length-swept, swept_in, swept_out}
use Rattle.sets.specs.Members.{words_of, write, empty}
use Rattle.sets.proofs.WriteLaws.{write_is}

-- a word with no members
pub no_members : (m : ℕ → Bool) (k : ℕ) → ((j : ℕ) → j < 64 → m (k * 64 + j) ≡ false) → 0 ≡ word_of m k
no_members m k h = word_is m k 0 (lit< tt) (λ j l. digit_of_zero j ∙ sym (h j l))

pub zeroed_write : (n : ℕ) (ws : List ℕ) → words_of n ≤ length ws → swept 0 (words_of n) zeroed ws ≡ write ws (empty n)
zeroed_write n ws room =
    write_is ws (empty n) (swept 0 (words_of n) zeroed ws) room (length-swept 0 (words_of n) zeroed ws)
    (λ k h. swept_in 0 (words_of n) zeroed ws k (omega arith) (omega arith) h ∙ zeroed_is k (get_or ws k 0)
    ∙ no_members (λ p. false) k (λ j l. refl))
    (λ k h. swept_out 0 (words_of n) zeroed ws k (covers_above 0 (words_of n) k h))
