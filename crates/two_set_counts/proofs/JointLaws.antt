-- The members of two joined sets: those in the words of both, and those beyond. Assumes nothing.
use mathlib.Core.Path.{◌≡◌, refl, sym, ap, ap₂, ◌∙◌}
use mathlib.Core.Bool.{Bool, true, false, cond}
use mathlib.Core.Logic.{◌⊎◌, inl, inr}
use Prim.Native.Nat.{ℕ, ◌+◌, ◌-◌, ◌*◌, ◌≤◌, ◌<◌, min, max}
use native.Mathlib.Nat.{add-zero, zero-add}
use native.Mathlib.Omega.{arith}
use lib.ListN.{length}
use Rattle.word_bits.specs.Counts.{count}
use Rattle.word_bits.proofs.Ones.{count_add, count_ext, count_none, count-le}
use Rattle.word_bits.proofs.Order.{lt-or-le}
use Rattle.sets.specs.Members.{Members, bit_of, read}
use Rattle.sets.specs.CheckedSets.{members}
use Rattle.sets.specs.declared.checked.Checked.{Checked}
use Rattle.sets.proofs.QuestionLaws.{valid}
use Rattle.sets.proofs.ReadLaws.{read_bit, read_clipped}
use Rattle.sets.proofs.WordLaws.{words_hold}
use Rattle.sets.proofs.WriteLaws.{Clipped}
use Rattle.operations.specs.Operations.{joined}
use Rattle.operations.specs.declared.operation.Operation.{Operation}
use Rattle.operations.proofs.WordJoins.{joined-none}
use Rattle.tests.proofs.RowLaws.{count_clip}
use Rattle.two_set_counts.specs.Helpers.{joint_ones, ones_from, ones_beyond}

-- a row taken or left out
taken : (f : Bool → Bool) → f false ≡ false → (n : ℕ) (g : ℕ → Bool) → count n (λ j. f (g j)) ≡ cond (f true) (count n g) 0
taken f z n g = go (f true) refl
  where
    same : (b : Bool) → f true ≡ true → f b ≡ b
    same true y = y
    same false y = z

    none : (b : Bool) → f true ≡ false → f b ≡ false
    none true y = y
    none false y = z

    go : (t : Bool) → f true ≡ t → count n (λ j. f (g j)) ≡ cond t (count n g) 0
    go true y = count_ext n (λ j. f (g j)) g (λ j l. same (g j) y)
    go false y = count_none n (λ j. f (g j)) (λ j l. none (g j) y)

nothing : (t : Bool) (g : ℕ → Bool) (n : ℕ) → n ≡ 0 → cond t (count n g) 0 ≡ 0
nothing true g n e = rw e (unfold count in refl)
nothing false g n e = refl

module _ (op : Operation) (s o : Members) (cs : Clipped s) (co : Clipped o) where
  joined_at : ℕ → Bool
  joined_at p = joined op (s.has p) (o.has p)

  -- where one of the two ends at c
  beyond : (c n : ℕ) → (s.len ≤ c) ⊎ (o.len ≤ c) → n ≡ max s.len o.len - c → count n (λ j. joined_at (c + j)) ≡ ones_beyond op c s o
  unfolding joined_at
  beyond c n (inl l) e =
      let same : n ≡ o.len - c = omega arith in
      count_ext n (λ j. joined_at (c + j)) (λ j. joined op false (o.has (c + j)))
      (λ j h. ap (λ (b : Bool). joined op b (o.has (c + j))) (cs.above (c + j) (omega arith)))
      ∙ taken (joined op false) (joined-none op) n (λ j. o.has (c + j))
      ∙ ap (λ (m : ℕ). cond (joined op false true) (count m (λ j. o.has (c + j))) 0) same
      ∙ sym (zero-add (cond (joined op false true) (ones_from c o) 0))
      ∙ ap (λ (x : ℕ). x + cond (joined op false true) (ones_from c o) 0) (sym (nothing (joined op true false) (λ j. s.has (c + j)) (s.len - c) (omega arith)))
  beyond c n (inr l) e =
      let same : n ≡ s.len - c = omega arith in
      count_ext n (λ j. joined_at (c + j)) (λ j. joined op (s.has (c + j)) false)
      (λ j h. ap (joined op (s.has (c + j))) (co.above (c + j) (omega arith)))
      ∙ taken (λ b. joined op b false) (joined-none op) n (λ j. s.has (c + j))
      ∙ ap (λ (m : ℕ). cond (joined op true false) (count m (λ j. s.has (c + j))) 0) same
      ∙ sym (add-zero (cond (joined op true false) (ones_from c s) 0))
      ∙ ap (λ (x : ℕ). cond (joined op true false) (ones_from c s) 0 + x) (sym (nothing (joined op false true) (λ j. o.has (c + j)) (o.len - c) (omega arith)))

  two_parts : (c : ℕ) → (s.len ≤ c) ⊎ (o.len ≤ c) → count c joined_at + ones_beyond op c s o ≡ joint_ones op s o
  unfolding joined_at
  two_parts c side =
      let n : ℕ = max s.len o.len in
      ap (λ (x : ℕ). count c joined_at + x) (sym (beyond c (n - c) side refl)) ∙ sym (count_add c (n - c) joined_at)
      ∙ count_clip joined_at n (λ p h. ap₂ (joined op) (cs.above p (omega arith)) (co.above p (omega arith)) ∙ joined-none op) (c + (n - c)) (omega arith)

-- ---- two sets that pass questions 1 to 3, with their own words

module _ (op : Operation) (a b : Checked) where
  -- how many words both have
  shared : ℕ
  shared = min (length a.words.now) (length b.words.now)

  side : (length a.words.now < length b.words.now) ⊎ (length b.words.now ≤ length a.words.now) → (a.length ≤ shared * 64) ⊎ (b.length ≤ shared * 64)
  unfolding shared
  side (inl l) = inl (omega (arith, a.sound.own, words_hold a.length))
  side (inr l) = inr (omega (arith, b.sound.own, words_hold b.length))

  pub two_counts : count (min (length a.words.now) (length b.words.now) * 64) (λ p. joined op (bit_of a.words.now p) (bit_of b.words.now p)) + ones_beyond op (min (length a.words.now) (length b.words.now) * 64) (members a) (members b)
      ≡ joint_ones op (members a) (members b)
  unfolding joined_at shared read
  two_counts =
      ap (λ (x : ℕ). x + ones_beyond op (shared * 64) (members a) (members b))
      (count_ext (shared * 64) (λ p. joined op (bit_of a.words.now p) (bit_of b.words.now p)) (λ p. joined op ((members a).has p) ((members b).has p))
      (λ p l. ap₂ (joined op) (sym (read_bit (record { length = a.length }) a.words.now (valid _ _ a.sound.asked) p (omega (arith, a.sound.own)))) (sym (read_bit (record { length = b.length }) b.words.now (valid _ _ b.sound.asked) p (omega (arith, b.sound.own))))))
      ∙ two_parts op (members a) (members b) (read_clipped _ _) (read_clipped _ _) (shared * 64) (side (lt-or-le (length a.words.now) (length b.words.now)))

  pub joint-le : joint_ones op (members a) (members b) ≤ 65536
  unfolding read
  joint-le =
      omega (arith, count-le (max a.length b.length) (λ p. joined op ((members a).has p) ((members b).has p)), (valid _ _ a.sound.asked).small, (valid _ _ b.sound.asked).small)
