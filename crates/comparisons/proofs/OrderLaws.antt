-- Order of two sets, from the language's order of their lengths and of their words. Assumes nothing.
use mathlib.Core.Path.{◌≡◌, refl, sym, ap, ap₂, fun_ext, ◌∙◌}
use mathlib.Core.Bool.{Bool, cond}
use mathlib.Core.List.{List, [], ◌∷◌}
use mathlib.Core.Logic.{◌⊎◌, inl, inr}
use Prim.Native.Nat.{ℕ, suc, ◌+◌, ◌≤◌, ◌<◌}
use native.Mathlib.Nat.{add-zero, zero-add}
use native.Mathlib.Omega.{arith}
use borrow.Author.Tests.{lt-ltb, le-ltb}
use lib.Dec.{ltb}
use lib.ListN.{length, get_or}
use Rattle.std.specs.Cmp.{nat_cmp_is}
use Rattle.std.specs.Cmp.Lexicographic.{slice_cmp}
use Rattle.std.specs.Ordering.{nat_cmp, ordering_then}
use Rattle.std.specs.declared.cmp.Ordering.{Ordering}
use Rattle.std.specs.declared.cmp.Ordering.TheVariants.{Less, Equal, Greater}
use Rattle.word_bits.specs.Digits.{word_of}
use Rattle.word_bits.proofs.Digits.{word_is}
use Rattle.word_bits.proofs.Order.{lt-or-le}
use Rattle.sets.specs.CheckedSets.{members}
use Rattle.sets.specs.declared.checked.Checked.{Checked}
use Rattle.sets.specs.Members.{words_of, bit_of, read}
use Rattle.sets.proofs.WordLaws.{bit_at}
use Rattle.operations.proofs.BlockJoins.{Words}
use Rattle.comparisons.specs.Compares.{order_number}
use Rattle.comparisons.specs.Orders.{order_of, words_order, order}
use Rattle.comparisons.proofs.RelationLaws.{own_bit}

-- ---- two numbers

order_same : (x y rest : ℕ) → x ≡ y → order_of x y rest ≡ rest
order_same x y rest e = ap₂ (λ (s t : Bool). cond s 1 (cond t 2 rest)) (le-ltb x y (omega arith)) (le-ltb y x (omega arith))

order_below : (x y rest : ℕ) → x < y → order_of x y rest ≡ 1
order_below x y rest h = ap (λ (s : Bool). cond s 1 (cond (ltb y x) 2 rest)) (lt-ltb x y h)

order_above : (x y rest : ℕ) → y < x → order_of x y rest ≡ 2
order_above x y rest h = ap₂ (λ (s t : Bool). cond s 1 (cond t 2 rest)) (le-ltb x y (omega arith)) (lt-ltb y x h)

-- the first numbers, and then what follows
step : (x y : ℕ) (o : Ordering) → order_number (ordering_then (nat_cmp x y) o) ≡ order_of x y (order_number o)
step x y o = go (lt-or-le x y) (lt-or-le y x)
  where
    at : {c : Ordering} → c ≡ nat_cmp x y → order_number (ordering_then (nat_cmp x y) o) ≡ order_number (ordering_then c o)
    at e = ap (λ (c : Ordering). order_number (ordering_then c o)) (sym e)

    go : (x < y) ⊎ (y ≤ x) → (y < x) ⊎ (x ≤ y) → order_number (ordering_then (nat_cmp x y) o) ≡ order_of x y (order_number o)
    go (inl l) w = at (nat_cmp_is x y Less l) ∙ sym (order_below x y (order_number o) l)
    go (inr a) (inl l) = at (nat_cmp_is x y Greater l) ∙ sym (order_above x y (order_number o) l)
    go (inr a) (inr b) = let e : x ≡ y = omega arith in at (nat_cmp_is x y Equal e) ∙ sym (order_same x y (order_number o) e)

-- numbers that are not equal decide
unequal : (x y rest : ℕ) → (nat_cmp x y ≡ Equal → ⊥) → order_number (nat_cmp x y) ≡ order_of x y rest
unequal x y rest n = go (lt-or-le x y) (lt-or-le y x)
  where
    go : (x < y) ⊎ (y ≤ x) → (y < x) ⊎ (x ≤ y) → order_number (nat_cmp x y) ≡ order_of x y rest
    go (inl l) w = ap order_number (sym (nat_cmp_is x y Less l)) ∙ sym (order_below x y rest l)
    go (inr a) (inl l) = ap order_number (sym (nat_cmp_is x y Greater l)) ∙ sym (order_above x y rest l)
    go (inr a) (inr b) = absurd (n (sym (nat_cmp_is x y Equal (omega arith))))

pub equal_numbers : (x y : ℕ) → nat_cmp x y ≡ Equal → x ≡ y
equal_numbers x y e = go (lt-or-le x y) (lt-or-le y x)
  where
    apart : (c : Ordering) → c ≡ Equal → order_number c ≡ 0
    apart c q = ap order_number q

    go : (x < y) ⊎ (y ≤ x) → (y < x) ⊎ (x ≤ y) → x ≡ y
    go (inl l) w = let z = apart Less (nat_cmp_is x y Less l ∙ e) in absurd (omega (arith, z))
    go (inr a) (inl l) = let z = apart Greater (nat_cmp_is x y Greater l ∙ e) in absurd (omega (arith, z))
    go (inr a) (inr b) = omega arith

-- ---- words

words_by : (f g : ℕ → Bool) (ws vs : List ℕ) (k : ℕ) → length ws ≡ length vs → ((i : ℕ) → i < length ws → get_or ws i 0 ≡ word_of f (k + i))
    → ((i : ℕ) → i < length vs → get_or vs i 0 ≡ word_of g (k + i)) → order_number (slice_cmp nat_cmp ws vs) ≡ words_order k (length ws) f g
unfolding words_order
words_by f g [] [] k e hf hg = refl
words_by f g [] (y ∷ ys) k e hf hg = absurd (omega (arith, e))
words_by f g (x ∷ xs) [] k e hf hg = absurd (omega (arith, e))
words_by f g (x ∷ xs) (y ∷ ys) k e hf hg =
    step x y (slice_cmp nat_cmp xs ys)
    ∙ ap₂ (λ (p q : ℕ). order_of p q (order_number (slice_cmp nat_cmp xs ys))) (hf 0 (omega arith) ∙ ap (word_of f) (add-zero k)) (hg 0 (omega arith) ∙ ap (word_of g) (add-zero k))
    ∙ ap (order_of (word_of f k) (word_of g k))
    (words_by f g xs ys (suc k) (omega (arith, e)) (λ i l. hf (suc i) (omega arith) ∙ ap (word_of f) (omega arith)) (λ i l. hg (suc i) (omega arith) ∙ ap (word_of g) (omega arith)))

-- the language's order of two rows of words is that of their bits
pub order_bits : (ws vs : List ℕ) → Words ws → Words vs → length ws ≡ length vs → order_number (slice_cmp nat_cmp ws vs) ≡ words_order 0 (length ws) (bit_of ws) (bit_of vs)
order_bits ws vs fw fv e =
    words_by (bit_of ws) (bit_of vs) ws vs 0 e
    (λ i l. word_is (bit_of ws) i (get_or ws i 0) (fw.fits i) (λ j h. sym (bit_at ws i j h)) ∙ ap (word_of (bit_of ws)) (sym (zero-add i)))
    (λ i l. word_is (bit_of vs) i (get_or vs i 0) (fv.fits i) (λ j h. sym (bit_at vs i j h)) ∙ ap (word_of (bit_of vs)) (sym (zero-add i)))

pub as_long : (a b : Checked) → a.length ≡ b.length → (m : ℕ) → (length a.words.now ≡ length b.words.now → m ≡ words_order 0 (length a.words.now) (bit_of a.words.now) (bit_of b.words.now)) → m ≡ order (members a) (members b)
unfolding read
as_long a b e m h =
    h (a.sound.own ∙ ap words_of e ∙ sym b.sound.own)
    ∙ ap₂ (words_order 0 (length a.words.now)) (fun_ext (own_bit a)) (fun_ext (own_bit b))
    ∙ ap (λ (n : ℕ). words_order 0 n (members a).has (members b).has) a.sound.own
    ∙ sym (order_same a.length b.length (words_order 0 (words_of a.length) (members a).has (members b).has) e)

pub lengths_differ : (a b : Checked) → (nat_cmp a.length b.length ≡ Equal → ⊥) → order_number (nat_cmp a.length b.length) ≡ order (members a) (members b)
unfolding read
lengths_differ a b n = unequal a.length b.length (words_order 0 (words_of a.length) (members a).has (members b).has) n
