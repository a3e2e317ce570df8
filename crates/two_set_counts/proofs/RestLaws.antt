-- The members of a set from a word up. Assumes nothing.
use mathlib.Core.Path.{◌≡◌, sym, ◌∙◌}
use Prim.Native.Nat.{ℕ, ◌+◌, ◌-◌, ◌*◌, ◌≤◌}
use native.Mathlib.Nat.{le_refl}
use native.Mathlib.Omega.{arith}
use lib.ListN.{length, take, drop}
use Rattle.word_bits.specs.Counts.{count}
use Rattle.word_bits.proofs.Ones.{count_ext, count-le}
use Rattle.sets.specs.CheckedSets.{members}
use Rattle.sets.specs.declared.checked.Checked.{Checked}
use Rattle.sets.specs.Members.{bit_of, read}
use Rattle.sets.proofs.QuestionLaws.{valid}
use Rattle.sets.proofs.ReadLaws.{read_bit, read_clipped}
use Rattle.sets.proofs.WordLaws.{words_hold}
use Rattle.tests.proofs.RowLaws.{count_clip}
use Rattle.range_counts.proofs.RunLaws.{words_between}
use Rattle.two_set_counts.specs.Helpers.{ones_from}

-- a set has 1,024 words at the most
pub few : (c : Checked) → length c.words.now ≤ 1024
few c = omega (arith, c.sound.own, words_hold c.length, (valid _ _ c.sound.asked).small)

pub rest_ones : (c : Checked) (first : ℕ) → first ≤ length c.words.now
    → count (length (take (length c.words.now - first) (drop first c.words.now)) * 64) (bit_of (take (length c.words.now - first) (drop first c.words.now))) ≡ ones_from (first * 64) (members c)
unfolding read
rest_ones c first h =
    let ws = c.words.now in
    words_between ws first (length ws) h (le_refl (length ws))
    ∙ count_ext ((length ws - first) * 64) (λ j. bit_of ws (first * 64 + j)) (λ j. (members c).has (first * 64 + j))
    (λ j l. sym (read_bit (record { length = c.length }) ws (valid _ _ c.sound.asked) (first * 64 + j) (omega (arith, c.sound.own))))
    ∙ count_clip (λ j. (members c).has (first * 64 + j)) (c.length - first * 64)
    (λ j l. (read_clipped ws (record { length = c.length })).above (first * 64 + j) (omega arith)) ((length ws - first) * 64)
    (omega (arith, c.sound.own, words_hold c.length))

pub rest_le : (c : Checked) (start : ℕ) → ones_from start (members c) ≤ 65536
unfolding read
rest_le c start = omega (arith, count-le (c.length - start) (λ j. (members c).has (start + j)), (valid _ _ c.sound.asked).small)
