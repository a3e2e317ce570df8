-- `read` and `write` between members and lent words. Assumes nothing.
use mathlib.Core.Path.{◌≡◌, refl, sym, ap, ap₂, ◌∙◌, fun_ext}
use mathlib.Core.Bool.{Bool, false, ◌&&◌}
use mathlib.Core.List.{List, ◌++◌}
use mathlib.Core.Logic.{◌⊎◌, inl, inr}
use Prim.Native.Nat.{ℕ, zero, suc, ◌+◌, ◌-◌, ◌*◌, ◌/◌, ◌%◌, ◌^◌, ◌≤◌, ◌<◌}
use native.Mathlib.Nat.{add-zero, add-suc, suc-add, zero-add, add-sub_of_le, le_of_suc-le-suc, not-suc-le-zero, div-add-mod'}
use native.Mathlib.Omega.{arith}
use borrow.Author.Tests.{lt-ltb, le-ltb}
use lib.Dec.{ltb}
use lib.ListN.{length, get_or, drop, length-append, length-drop, get_or-append}
use lib.Seq.{ext_get_or, get_or-append-add, get_or-drop}
use Rattle.word_bits.specs.Digits.{digit, word_of}
use Rattle.word_bits.proofs.Digits.{digit_word, word_lt}
use Rattle.word_bits.proofs.Order.{lt-or-le}
use Rattle.sets.specs.Members.{Members, words_of, bit_of, read, write, words_from, set_of}
use Rattle.sets.proofs.WordLaws.{word_of_lem, bit_at}

-- no position from the length up is a member
pub record Clipped (s : Members) : Type 0 where
  pub above : (p : ℕ) → s.len ≤ p → s.has p ≡ false

-- ---- the words of a set

length_from : (m : ℕ → Bool) (k n : ℕ) → length (words_from m k n) ≡ n
length_from m k zero = refl
length_from m k (suc n) = ap suc (length_from m (suc k) n)

at_from : (m : ℕ → Bool) (k n i : ℕ) → i < n → get_or (words_from m k n) i 0 ≡ word_of m (k + i)
at_from m k zero i h = absurd (not-suc-le-zero h)
at_from m k (suc n) zero h = ap (word_of m) (sym (add-zero k))
at_from m k (suc n) (suc i) h = at_from m (suc k) n i (le_of_suc-le-suc h) ∙ ap (word_of m) (suc-add k i ∙ sym (add-suc k i))

module _ (ws : List ℕ) (s : Members) where
  pub length-write : words_of s.len ≤ length ws → length (write ws s) ≡ length ws
  unfolding write
  length-write h =
      length-append (words_from s.has 0 (words_of s.len)) (drop (words_of s.len) ws)
      ∙ ap₂ ◌+◌ (length_from s.has 0 (words_of s.len)) (length-drop (words_of s.len) ws) ∙ add-sub_of_le h

  pub write_in : (i : ℕ) → i < words_of s.len → get_or (write ws s) i 0 ≡ word_of s.has i
  unfolding write
  write_in i h =
      get_or-append (words_from s.has 0 (words_of s.len)) (drop (words_of s.len) ws) 0 i (rw (length_from s.has 0 (words_of s.len)) h)
      ∙ at_from s.has 0 (words_of s.len) i h ∙ ap (word_of s.has) (zero-add i)

  pub write_out : (i : ℕ) → words_of s.len ≤ i → get_or (write ws s) i 0 ≡ get_or ws i 0
  unfolding write
  write_out i h =
      let w = words_of s.len in
      let xs = words_from s.has 0 w in
      ap (λ (n : ℕ). get_or (xs ++ drop w ws) n 0) (sym (add-sub_of_le h) ∙ ap (λ (n : ℕ). n + (i - w)) (sym (length_from s.has 0 w)))
      ∙ get_or-append-add xs (drop w ws) (i - w) 0 ∙ get_or-drop w ws (i - w) 0 ∙ ap (λ (n : ℕ). get_or ws n 0) (add-sub_of_le h)

  -- words are those of a set where each of the W words is, and the rest is as it was
  pub write_is : (vs : List ℕ) → words_of s.len ≤ length ws → length vs ≡ length ws
      → ((i : ℕ) → i < words_of s.len → get_or vs i 0 ≡ word_of s.has i)
      → ((i : ℕ) → words_of s.len ≤ i → get_or vs i 0 ≡ get_or ws i 0) → vs ≡ write ws s
  write_is vs room e «in» out = ext_get_or 0 vs (write ws s) (e ∙ sym (length-write room)) (λ i h. go i (lt-or-le i (words_of s.len)))
    where
      go : (i : ℕ) → (i < words_of s.len) ⊎ (words_of s.len ≤ i) → get_or vs i 0 ≡ get_or (write ws s) i 0
      go i (inl l) = «in» i l ∙ sym (write_in i l)
      go i (inr g) = out i g ∙ sym (write_out i g)

-- ---- read of write, write of write

pub bit_write : (ws : List ℕ) (s : Members) (p : ℕ) → p < words_of s.len * 64 → bit_of (write ws s) p ≡ s.has p
bit_write ws s p h =
    ap (bit_of (write ws s)) (sym (div-add-mod' p 64)) ∙ bit_at (write ws s) (p / 64) (p % 64) (omega arith)
    ∙ ap (λ (x : ℕ). digit x (p % 64)) (write_in ws s (p / 64) (omega arith))
    ∙ digit_word s.has (p / 64) (p % 64) (omega arith) ∙ ap s.has (div-add-mod' p 64)

pub read-write : (ws : List ℕ) (s : Members) → Clipped s → read (write ws s) (set_of s) ≡ s
unfolding read
read-write ws s clip = ap (λ (h : ℕ → Bool). record { len = s.len; has = h }) (fun_ext (λ p. go p (lt-or-le p s.len)))
  where
    go : (p : ℕ) → (p < s.len) ⊎ (s.len ≤ p) → (ltb p s.len && bit_of (write ws s) p) ≡ s.has p
    go p (inl l) = ap₂ ◌&&◌ (lt-ltb p s.len l) (bit_write ws s p (let w = word_of_lem s.len p l in omega arith))
    go p (inr g) = ap (λ (t : Bool). t && bit_of (write ws s) p) (le-ltb p s.len g) ∙ sym (clip.above p g)

pub write-write : (ws : List ℕ) (s t : Members) → words_of s.len ≤ words_of t.len → words_of t.len ≤ length ws
    → write (write ws s) t ≡ write ws t
write-write ws s t le room =
    write_is ws t (write (write ws s) t) room
    (length-write (write ws s) t (rw (length-write ws s (omega arith)) room) ∙ length-write ws s (omega arith))
    (λ i h. write_in (write ws s) t i h)
    (λ i h. write_out (write ws s) t i h ∙ write_out ws s i (omega arith))

-- words stay words
pub write_fits : (ws : List ℕ) (s : Members) → ((k : ℕ) → get_or ws k 0 < 2 ^ 64) → (k : ℕ) → get_or (write ws s) k 0 < 2 ^ 64
write_fits ws s fit k = go (lt-or-le k (words_of s.len))
  where
    go : (k < words_of s.len) ⊎ (words_of s.len ≤ k) → get_or (write ws s) k 0 < 2 ^ 64
    go (inl l) = rw (write_in ws s k l) (word_lt s.has k)
    go (inr g) = rw (write_out ws s k g) (fit k)
