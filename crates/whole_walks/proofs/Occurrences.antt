-- How often a position stands in the lists of the walks, and in which order. Assumes nothing.
use mathlib.Core.Path.{◌≡◌, refl, sym, ap, ap₂, ◌∙◌}
use mathlib.Core.Bool.{Bool, true, false, cond, not, ◌&&◌, and-true, and-false}
use mathlib.Core.List.{List, [], ◌∷◌, ◌++◌, append_assoc, append-nil}
use mathlib.Core.Logic.{◌⊎◌, inl, inr}
use Prim.Native.Nat.{ℕ, zero, suc, ◌+◌, ◌≤◌, ◌<◌}
use native.Mathlib.Nat.{add-zero, zero-add, not-suc-le-zero, le_refl}
use native.Mathlib.Omega.{arith}
use borrow.Author.Tests.{lt-ltb, eq-eqb, ne_eqb}
use lib.Dec.{eqb, ltb}
use Rattle.word_bits.specs.Digits.{one}
use Rattle.word_bits.proofs.Order.{lt-or-le}
use Rattle.sets.specs.Members.{Members}
use Rattle.sets.proofs.WriteLaws.{Clipped}
use Rattle.two_set_counts.specs.Lists.{positions}
use Rattle.two_set_counts.proofs.ListLaws.{either, one_alone}
use Rattle.walks.specs.Rules.{without}
use Rattle.whole_walks.specs.Walks.{walk_list, wanted}
use Rattle.whole_walks.specs.Walked.{occurrences, rising}
use Rattle.whole_walks.specs.declared.walk.Walk.{Walk}
use Rattle.whole_walks.specs.declared.walk.Walk.TheVariants.{Ones, Intersection, Difference, Union, SymmetricDifference}

-- ---- how often

occurrences-append : (p : ℕ) (xs ys : List ℕ) → occurrences p (xs ++ ys) ≡ occurrences p xs + occurrences p ys
occurrences-append p [] ys = sym (zero-add (occurrences p ys))
occurrences-append p (x ∷ xs) ys = let ih = occurrences-append p xs ys in omega arith

module _ (p : ℕ) (f : ℕ → Bool) where
  -- one more place
  last : (n : ℕ) → occurrences p (positions (suc n) f) ≡ occurrences p (positions n f) + one (f n && eqb p n)
  unfolding positions
  last n = occurrences-append p (positions n f) (cond (f n) (n ∷ []) []) ∙ ap (λ (k : ℕ). occurrences p (positions n f) + k) (go (f n))
    where
      go : (b : Bool) → occurrences p (cond b (n ∷ []) []) ≡ one (b && eqb p n)
      go true = add-zero (one (eqb p n))
      go false = refl

  other : (n : ℕ) → (p ≡ n → ⊥) → one (f n && eqb p n) ≡ 0
  other n d = ap (λ (t : Bool). one (f n && t)) (ne_eqb p n d) ∙ ap one (and-false (f n))

  occurs_above : (n : ℕ) → n ≤ p → occurrences p (positions n f) ≡ 0
  unfolding positions
  occurs_above zero h = refl
  occurs_above (suc n) h = last n ∙ ap₂ ◌+◌ (occurs_above n (omega arith)) (other n (λ e. omega arith))

  occurs_below : (n : ℕ) → p < n → occurrences p (positions n f) ≡ one (f p)
  occurs_below zero h = absurd (not-suc-le-zero h)
  occurs_below (suc n) h = last n ∙ go (lt-or-le p n) (occurs_below n)
    where
      go : (p < n) ⊎ (n ≤ p) → (p < n → occurrences p (positions n f) ≡ one (f p)) → occurrences p (positions n f) + one (f n && eqb p n) ≡ one (f p)
      go (inl l) ih = omega (arith, ih l, other n (λ e. omega arith))
      go (inr g) ih =
          let e : p ≡ n = omega arith in
          let here : one (f n && eqb p n) ≡ one (f p) = ap₂ (λ (q : ℕ) (t : Bool). one (f q && t)) (sym e) (eq-eqb p n e) ∙ ap one (and-true (f p)) in
          omega (arith, occurs_above n g)

  -- where f names no position from the length up
  occurs : (n : ℕ) → (n ≤ p → f p ≡ false) → occurrences p (positions n f) ≡ one (f p)
  occurs n z = go (lt-or-le p n)
    where
      go : (p < n) ⊎ (n ≤ p) → occurrences p (positions n f) ≡ one (f p)
      go (inl l) = occurs_below n l
      go (inr g) = occurs_above n g ∙ sym (ap one (z g))

-- of a list over the members of s
occurs_in : (s : Members) → Clipped s → (g : ℕ → Bool) (p : ℕ) → occurrences p (positions s.len (λ q. s.has q && g q)) ≡ one (s.has p && g p)
occurs_in s cs g p = occurs p (λ q. s.has q && g q) s.len (λ l. ap (λ (b : Bool). b && g p) (cs.above p l))

module _ (a b : Members) (ca : Clipped a) (cb : Clipped b) (p : ℕ) where
  pub exact : (walk : Walk) → occurrences p (walk_list walk a b) ≡ one (wanted walk a b p)
  exact Ones = occurs p a.has a.len (ca.above p)
  exact Intersection = occurs_in a ca b.has p
  exact Difference = occurs_in a ca (λ q. not (b.has q)) p
  exact Union =
      occurrences-append p (positions a.len a.has) (positions b.len (without b a))
      ∙ ap₂ ◌+◌ (occurs p a.has a.len (ca.above p)) (occurs_in b cb (λ q. not (a.has q)) p) ∙ either (a.has p) (b.has p)
  exact SymmetricDifference =
      occurrences-append p (positions a.len (without a b)) (positions b.len (without b a))
      ∙ ap₂ ◌+◌ (occurs_in a ca (λ q. not (b.has q)) p) (occurs_in b cb (λ q. not (a.has q)) p) ∙ one_alone (a.has p) (b.has p)

-- ---- in which order

rising_snoc : (xs : List ℕ) (n m : ℕ) → n < m → rising (xs ++ (n ∷ m ∷ [])) ≡ rising (xs ++ (n ∷ []))
rising_snoc [] n m h = ap (λ (t : Bool). t && true) (lt-ltb n m h)
rising_snoc (x ∷ []) n m h = ap (λ (t : Bool). ltb x n && t) (rising_snoc [] n m h)
rising_snoc (x ∷ y ∷ ys) n m h = ap (λ (t : Bool). ltb x y && t) (rising_snoc (y ∷ ys) n m h)

module _ (f : ℕ → Bool) where
  -- the positions below n, and after them one from n up
  rises_to : (n m : ℕ) → n ≤ m → rising (positions n f ++ (m ∷ [])) ≡ true
  unfolding positions
  rises_to zero m h = refl
  rises_to (suc n) m h = go (f n) (rises_to n n (le_refl n)) (rises_to n m (omega arith))
    where
      go : (b : Bool) → rising (positions n f ++ (n ∷ [])) ≡ true → rising (positions n f ++ (m ∷ [])) ≡ true
          → rising (positions n f ++ cond b (n ∷ []) [] ++ (m ∷ [])) ≡ true
      go true here past = ap rising (append_assoc (positions n f) (n ∷ []) (m ∷ [])) ∙ rising_snoc (positions n f) n m h ∙ here
      go false here past = ap (λ (xs : List ℕ). rising (xs ++ (m ∷ []))) (append-nil (positions n f)) ∙ past

  pub rises : (n : ℕ) → rising (positions n f) ≡ true
  unfolding positions
  rises zero = refl
  rises (suc n) = go (f n) (rises n)
    where
      go : (b : Bool) → rising (positions n f) ≡ true → rising (positions n f ++ cond b (n ∷ []) []) ≡ true
      go true before = rises_to n n (le_refl n)
      go false before = ap rising (append-nil (positions n f)) ∙ before
