-- The sizes of the lists of positions. Assumes nothing.
use mathlib.Core.Path.{◌≡◌, refl, sym, ap, ap₂, ◌∙◌}
use mathlib.Core.Bool.{Bool, true, false, cond, not, xor, ◌&&◌, ◌||◌}
use mathlib.Core.List.{[], ◌∷◌}
use Prim.Native.Nat.{ℕ, zero, suc, ◌+◌, ◌≤◌, max}
use native.Mathlib.Omega.{arith}
use lib.ListN.{length, length-append}
use Rattle.word_bits.specs.Counts.{count}
use Rattle.word_bits.specs.Digits.{one}
use Rattle.sets.specs.Members.{Members}
use Rattle.sets.proofs.WriteLaws.{Clipped}
use Rattle.operations.specs.declared.operation.Operation.TheVariants.{Union, Intersection, Difference, SymmetricDifference}
use Rattle.tests.proofs.RowLaws.{count_clip}
use Rattle.two_set_counts.specs.Lists.{positions, union_list, intersection_list, difference_list, symmetric_difference_list}
use Rattle.two_set_counts.specs.Helpers.{joint_ones}

pub length-positions : (n : ℕ) (f : ℕ → Bool) → length (positions n f) ≡ count n f
unfolding positions count
length-positions zero f = refl
length-positions (suc n) f =
    length-append (positions n f) (cond (f n) (n ∷ []) []) ∙ ap₂ ◌+◌ (length-positions n f) (last (f n))
  where
    last : (b : Bool) → length (cond b (n ∷ []) []) ≡ one b
    last true = refl
    last false = refl

-- two rows that share no place, and the row of both
count-both : (n : ℕ) (f g h : ℕ → Bool) → ((p : ℕ) → one (f p) + one (g p) ≡ one (h p)) → count n f + count n g ≡ count n h
unfolding count
count-both zero f g h e = refl
count-both (suc n) f g h e = let ih = count-both n f g h e in omega (arith, ih, e n)

pub either : (a b : Bool) → one a + one (b && not a) ≡ one (a || b)
either true true = refl
either true false = refl
either false true = refl
either false false = refl

pub one_alone : (a b : Bool) → one (a && not b) + one (b && not a) ≡ one (xor a b)
unfolding xor
one_alone true true = refl
one_alone true false = refl
one_alone false true = refl
one_alone false false = refl

-- a list over the members of s, counted up to a larger length
size-to : (s : Members) (f : Bool → ℕ → Bool) → Clipped s → ((p : ℕ) → f false p ≡ false) → (n : ℕ) → s.len ≤ n
    → length (positions s.len (λ p. f (s.has p) p)) ≡ count n (λ p. f (s.has p) p)
size-to s f cs z n h =
    length-positions s.len (λ p. f (s.has p) p)
    ∙ sym (count_clip (λ p. f (s.has p) p) s.len (λ p l. ap (λ (b : Bool). f b p) (cs.above p l) ∙ z p) n h)

module _ (s o : Members) (cs : Clipped s) where
  abbrev wide : ℕ
  wide = max s.len o.len

  pub intersection_size : joint_ones Intersection s o ≡ length (intersection_list s o)
  intersection_size = sym (size-to s (λ b p. b && o.has p) cs (λ p. refl) wide (omega arith))

  pub difference_size : joint_ones Difference s o ≡ length (difference_list s o)
  difference_size = sym (size-to s (λ b p. b && not (o.has p)) cs (λ p. refl) wide (omega arith))

  module _ (co : Clipped o) where
    back : length (difference_list o s) ≡ count wide (λ p. o.has p && not (s.has p))
    back = size-to o (λ b p. b && not (s.has p)) co (λ p. refl) wide (omega arith)

    pub union_size : joint_ones Union s o ≡ length (union_list s o)
    union_size =
        sym (length-append (positions s.len s.has) (difference_list o s)
        ∙ ap₂ ◌+◌ (size-to s (λ b p. b) cs (λ p. refl) wide (omega arith)) back
        ∙ count-both wide s.has (λ p. o.has p && not (s.has p)) (λ p. s.has p || o.has p) (λ p. either (s.has p) (o.has p)))

    pub symmetric_difference_size : joint_ones SymmetricDifference s o ≡ length (symmetric_difference_list s o)
    symmetric_difference_size =
        sym (length-append (difference_list s o) (difference_list o s) ∙ ap₂ ◌+◌ (sym difference_size) back
        ∙ count-both wide (λ p. s.has p && not (o.has p)) (λ p. o.has p && not (s.has p)) (λ p. xor (s.has p) (o.has p)) (λ p. one_alone (s.has p) (o.has p)))
