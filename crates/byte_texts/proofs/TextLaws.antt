-- Texts written one after the other: two are their join, and a text that has room is there whole. Assumes nothing.
use mathlib.Core.Path.{◌≡◌, refl, sym, ap, ap₂, ◌∙◌}
use mathlib.Core.List.{List, [], ◌∷◌, ◌++◌}
use mathlib.Core.Logic.{◌⊎◌, inl, inr}
use Prim.Native.Nat.{ℕ, suc, ◌+◌, ◌≤◌, ◌<◌, min}
use native.Mathlib.Nat.{add-zero}
use native.Mathlib.Omega.{arith}
use lib.ListN.{length, take, drop, set, length-append}
use lib.Seq.{sets, sets-eq, length-sets, set_out, take-set-le, take_at, length-take-le}
use Rattle.word_bits.proofs.Order.{lt-or-le}
use Rattle.byte_texts.specs.Texts.{Written, written}

-- ---- stores in a row

pub sets_out : (vs l : List ℕ) (i : ℕ) → length l ≤ i → sets l i vs ≡ l
sets_out [] l i h = refl
sets_out (v ∷ vs) l i h = ap (λ (r : List ℕ). sets r (suc i) vs) (set_out l i v h) ∙ sets_out vs l (suc i) (omega arith)

pub sets_append : (xs ys l : List ℕ) (i : ℕ) → sets (sets l i xs) (i + length xs) ys ≡ sets l i (xs ++ ys)
sets_append [] ys l i = ap (λ (k : ℕ). sets l k ys) (add-zero i)
sets_append (x ∷ xs) ys l i =
    let e : i + suc (length xs) ≡ suc i + length xs = omega arith in
    ap (λ (k : ℕ). sets (sets (set l i x) (suc i) xs) k ys) e ∙ sets_append xs ys (set l i x) (suc i)

sets_end : (vs l : List ℕ) (i : ℕ) → sets l (min (length l) i) vs ≡ sets l i vs
sets_end vs l i = go (lt-or-le i (length l))
  where
    go : (i < length l) ⊎ (length l ≤ i) → sets l (min (length l) i) vs ≡ sets l i vs
    go (inl h) =
        let e : min (length l) i ≡ i = omega arith in
        ap (λ (k : ℕ). sets l k vs) e
    go (inr h) = sets_out vs l (min (length l) i) (omega arith) ∙ sym (sets_out vs l i h)

take_sets : (vs l : List ℕ) (i n : ℕ) → n ≤ i → take n (sets l i vs) ≡ take n l
take_sets [] l i n h = refl
take_sets (v ∷ vs) l i n h = take_sets vs (set l i v) (suc i) n (omega arith) ∙ take-set-le n l i v h

-- ---- a text

module _ (out : List ℕ) (at : ℕ) where
  pub written_none : at ≤ length out → written out at [] ≡ record { end = at; out = out }
  unfolding written
  written_none h =
      let e : min (length out) (at + 0) ≡ at = omega arith in
      ap (λ (k : ℕ). record { end = k; out = out }) e

  -- a text behind a text is their join
  pub written_more : (x y : List ℕ) → written (written out at x).out (written out at x).end y ≡ written out at (x ++ y)
  unfolding written
  written_more x y =
      let n : length (sets out at x) ≡ length out = length-sets out at x in
      let e : min (length (sets out at x)) (min (length out) (at + length x) + length y) ≡ min (length out) (at + length (x ++ y)) = omega (arith, length-append x y) in
      ap₂ (λ (k : ℕ) (r : List ℕ). record { end = k; out = r }) e
      (ap (λ (k : ℕ). sets (sets out at x) (min k (at + length x)) y) (sym n) ∙ sets_end y (sets out at x) (at + length x) ∙ sets_append x y out at)

  -- the same of two calls in a row
  pub written_then : (x y : List ℕ) {one two : Written} → one ≡ written out at x → two ≡ written one.out one.end y → two ≡ written out at (x ++ y)
  written_then x y e f = f ∙ ap (λ (w : Written). written w.out w.end y) e ∙ written_more x y

  module _ (text : List ℕ) where
    pub written-length : length (written out at text).out ≡ length out
    unfolding written
    written-length = length-sets out at text

    pub written_same : {w : Written} → w ≡ written out at text → length w.out ≡ length out
    written_same e = ap (λ (w : Written). length w.out) e ∙ written-length

    pub written_within : (written out at text).end ≤ length out
    unfolding written
    written_within = omega arith

    pub written_inside : {w : Written} → w ≡ written out at text → w.end ≤ length w.out
    written_inside e = omega (arith, ap (λ (w : Written). w.end) e, written_same e, written_within)

    -- the bytes before it are as they were
    pub written_kept : (n : ℕ) → n ≤ at → take n (written out at text).out ≡ take n out
    unfolding written
    written_kept n h = take_sets text out at n h

    -- a text that ends before the buffer does has room
    pub written_room : (written out at text).end < length out → at + length text ≤ length out
    unfolding written
    written_room h = omega arith

    -- and is there whole
    module _ (room : at + length text ≤ length out) where
      pub written_end : (written out at text).end ≡ at + length text
      unfolding written
      written_end = omega arith

      pub written-whole : take (written out at text).end (written out at text).out ≡ take at out ++ text
      written-whole = ap (λ (k : ℕ). take k (written out at text).out) written_end ∙ go
        where
          go : take (at + length text) (written out at text).out ≡ take at out ++ text
          go = unfold written in
              ap (take (at + length text)) (sets-eq text out at room)
              ∙ take_at (take at out ++ text) (drop (at + length text) out) (at + length text)
              (length-append (take at out) text ∙ ap (λ (k : ℕ). k + length text) (length-take-le at out (omega arith)))
