-- Joined words are those of the joined members. Assumes nothing.
use mathlib.Core.Path.{◌≡◌, refl, sym, ap, ap₂, ◌∙◌}
use mathlib.Core.List.{List}
use mathlib.Core.Logic.{◌⊎◌, inl, inr}
use Prim.Native.Nat.{ℕ, ◌+◌, ◌*◌, ◌≤◌, ◌<◌}
use native.Mathlib.Omega.{arith}
use lib.ListN.{length, get_or}
use Rattle.word_bits.specs.Digits.{digit}
use Rattle.word_bits.proofs.Digits.{digit_of_zero, word_is}
use Rattle.word_bits.proofs.Order.{lt-or-le}
use Rattle.masks.proofs.RangeLaws.{covers_above}
use Rattle.blocks.specs.Sweeps.{swept}
use Rattle.sets.specs.Members.{Members, words_of, read, write, set_of, empty}
use Rattle.sets.specs.Questions.{both_questions, room_question}
use Rattle.sets.specs.CheckedSets.{members}
use Rattle.sets.specs.Outcomes.{Outcome, edited}
use Rattle.sets.specs.declared.checked.Checked.{Checked}
use Rattle.sets.specs.declared.fixed_bit_set.FixedBitSet.{FixedBitSet}
use Rattle.blocks.proofs.BlockLaws.{length-swept, swept_in, swept_out}
use Rattle.sets.proofs.QuestionLaws.{Valid, valid, first-yes}
use Rattle.sets.proofs.ReadLaws.{read-digit, read_above}
use Rattle.sets.proofs.WordLaws.{words_hold}
use Rattle.sets.proofs.WriteLaws.{write_is}
use Rattle.two_sets.specs.Combined.{combined}
use Rattle.two_sets.specs.Rules.{third_buffer}
use Rattle.operations.specs.Operations.{joined, joined_word, padded}
use Rattle.operations.specs.declared.operation.Operation.{Operation}
use Rattle.operations.proofs.BlockJoins.{padded_in, padded_out}
use Rattle.operations.proofs.WordJoins.{joined-digit, joined-lt}

-- the digits of a set's word, 0 past its words, are its members
pub padded-digit : (a : FixedBitSet) (ws : List ℕ) → Valid a ws → (k j : ℕ) → j < 64
    → digit (padded (words_of a.length) ws k) j ≡ (read ws a).has (k * 64 + j)
padded-digit a ws v k j h = go (lt-or-le k (words_of a.length))
  where
    go : (k < words_of a.length) ⊎ (words_of a.length ≤ k) → digit (padded (words_of a.length) ws k) j ≡ (read ws a).has (k * 64 + j)
    go (inl l) = ap (λ (x : ℕ). digit x j) (padded_in (words_of a.length) ws k l) ∙ sym (read-digit a ws v k j l h)
    go (inr g) =
        ap (λ (x : ℕ). digit x j) (padded_out (words_of a.length) ws k g) ∙ digit_of_zero j
        ∙ sym (read_above ws a (k * 64 + j) (omega (arith, (words_hold a.length).0)))

pub joined-write : (op : Operation) {a : FixedBitSet} {ws : List ℕ} {b : FixedBitSet} {vs : List ℕ} → Valid a ws → Valid b vs
    → (n : ℕ) (out : List ℕ) → words_of n ≤ length out
    → swept 0 (words_of n) (λ k w. joined_word op (padded (words_of a.length) ws k) (padded (words_of b.length) vs k)) out
    ≡ write out (combined op n (read ws a) (read vs b))
unfolding combined
joined-write op {a} {ws} {b} {vs} va vb n out room =
    write_is out (combined op n (read ws a) (read vs b)) _ room (length-swept 0 (words_of n) f out)
    (λ k h. swept_in 0 (words_of n) f out k (omega arith) (omega arith) h
    ∙ word_is (combined op n (read ws a) (read vs b)).has k (f k (get_or out k 0)) (joined-lt op (padded (words_of a.length) ws k) (padded (words_of b.length) vs k))
    (λ j l. joined-digit op (padded (words_of a.length) ws k) (padded (words_of b.length) vs k) j l
    ∙ ap₂ (joined op) (padded-digit a ws va k j l) (padded-digit b vs vb k j l)))
    (λ k h. swept_out 0 (words_of n) f out k (covers_above 0 (words_of n) k h))
  where
    f : ℕ → ℕ → ℕ
    f k w = joined_word op (padded (words_of a.length) ws k) (padded (words_of b.length) vs k)

-- the second set by its own words
pub joined_checked : (op : Operation) {a : FixedBitSet} {ws : List ℕ} → Valid a ws → (second : Checked) {o : Members} → members second ≡ o
    → (n : ℕ) (out : List ℕ) → words_of n ≤ length out
    → swept 0 (words_of n) (λ k w. joined_word op (padded (words_of a.length) ws k) (padded (length second.words.now) second.words.now k)) out
    ≡ write out (combined op n (read ws a) o)
joined_checked op {a} {ws} va second same n out room =
    ap (λ (m : ℕ). swept 0 (words_of n) (λ k w. joined_word op (padded (words_of a.length) ws k) (padded m second.words.now k)) out) second.sound.own
    ∙ joined-write op va (valid _ _ second.sound.asked) n out room ∙ ap (λ (m : Members). write out (combined op n (read ws a) m)) same

-- both by theirs
pub joined-both : (op : Operation) (one two : Checked) (n : ℕ) (out : List ℕ) → words_of n ≤ length out
    → swept 0 (words_of n) (λ k w. joined_word op (padded (length one.words.now) one.words.now k) (padded (length two.words.now) two.words.now k)) out
    ≡ write out (combined op n (members one) (members two))
joined-both op one two n out room =
    ap (λ (m : ℕ). swept 0 (words_of n) (λ k w. joined_word op (padded m one.words.now k) (padded (length two.words.now) two.words.now k)) out) one.sound.own
    ∙ joined_checked op (valid _ _ one.sound.asked) two refl n out room

-- a checked set is as long as the one that was checked
pub same_length : (one : Checked) (a : FixedBitSet) (ws : List ℕ) → members one ≡ read ws a → one.length ≡ a.length
unfolding read
same_length one a ws same = ap (λ (m : Members). m.len) same

-- the third buffer, once questions 1 to 3 of both sets are passed
pub third_rule : (op : Operation) (a : FixedBitSet) (ws : List ℕ) (b : FixedBitSet) (vs : List ℕ) (one two : Checked) → 0 ≡ both_questions a ws b vs
    → (members one ≡ read ws a) × (members two ≡ read vs b) → (n : ℕ) (out : List ℕ) {x : Outcome}
    → x ≡ edited (room_question n (length out)) (set_of (empty 0)) out (combined op n (members one) (members two))
    → x ≡ third_buffer a ws b vs n out (combined op n (read ws a) (read vs b))
third_rule op a ws b vs one two sound same n out e =
    e ∙ ap₂ (λ (s o : Members). edited (room_question n (length out)) (set_of (empty 0)) out (combined op n s o)) same.0 same.1
    ∙ ap (λ (q : ℕ). edited q (set_of (empty 0)) out (combined op n (read ws a) (read vs b))) (first-yes (sym sound) refl)
