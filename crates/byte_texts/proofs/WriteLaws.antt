-- A text is stored at once as far as it fits, and its bytes are shown where they stand. Assumes nothing.
use mathlib.Core.Path.{◌≡◌, refl, sym, ap, ap₂, ◌∙◌}
use mathlib.Core.List.{List, [], ◌∷◌, ◌++◌, map, append_assoc}
use mathlib.Core.Logic.{◌⊎◌, inl, inr}
use Prim.Native.Nat.{ℕ, suc, ◌+◌, ◌-◌, ◌≤◌, ◌<◌, min}
use native.Mathlib.Numerals.{add-one}
use native.Mathlib.Omega.{arith}
use borrow.Author.Tests.{le-leb, lt-leb}
use borrow.Rule.Slice.PartMut.{put_mid, take_put}
use lib.ListN.{length, get_or, take, drop, set, length-map, length-drop, drop_of_length-le, take-append-drop}
use lib.Seq.{sets, sets-eq, length-sets, drop-cons, drop-drop, take-suc, take-suc-set, take_all, take_at, drop_at, length-take-le}
use Rattle.std.proofs.lemmas.List.{take-map, map-append, drop-set-lt}
use Rattle.word_bits.proofs.Order.{lt-or-le}
use Rattle.byte_texts.specs.Texts.{Written, written, visible, dots, shown_text, shown_name}
use Rattle.byte_texts.proofs.TextLaws.{sets_out, sets_append}

-- a text and a name as they are shown, by how long they are
module _ (text : List ℕ) where
  module _ (h : length text ≤ 40) where
    pub text_short : map visible text ≡ shown_text text
    unfolding shown_text
    text_short = rw (le-leb (length text) 40 h)

    pub name_short : map visible text ≡ shown_name text
    unfolding shown_name
    name_short = rw (le-leb (length text) 40 h)

  module _ (h : 40 < length text) where
    pub text_long : map visible (take 40 text) ++ (46 ∷ 46 ∷ 46 ∷ []) ≡ shown_text text
    unfolding shown_text dots
    text_long = rw (lt-leb (length text) 40 h)

    pub name_long : (46 ∷ 46 ∷ 46 ∷ []) ++ map visible (take (length text - (length text - 40)) (drop (length text - 40) text)) ≡ shown_name text
    unfolding shown_name dots
    name_long =
        rw (lt-leb (length text) 40 h)
        (ap (λ (xs : List ℕ). 46 ∷ 46 ∷ 46 ∷ map visible xs) (take_all (length text - (length text - 40)) (drop (length text - 40) text) (rw (length-drop (length text - 40) text) (omega arith))))

-- ---- a text is stored at once: from `start` up to `stop` as many of its bytes as fit

-- what does not fit changes nothing
sets_part : (out xs ys : List ℕ) (at : ℕ) → (length out ≤ at + length xs) ⊎ (ys ≡ []) → sets out at (xs ++ ys) ≡ sets out at xs
sets_part out xs ys at h = sym (sets_append xs ys out at) ∙ go h
  where
    go : (length out ≤ at + length xs) ⊎ (ys ≡ []) → sets (sets out at xs) (at + length xs) ys ≡ sets out at xs
    go (inl h) = sets_out ys (sets out at xs) (at + length xs) (omega (arith, h, length-sets out at xs))
    go (inr e) = ap (sets (sets out at xs) (at + length xs)) e

module _ (out : List ℕ) (at start stop : ℕ) where
  pub record Fits (size : ℕ) : Type 0 where
    pub from : start ≡ min at (length out)
    pub until : stop ≡ start + min size (length out - start)

  pub fits_end : (text : List ℕ) → start ≡ min at (length out) → stop ≡ (written out at text).end → Fits (length text)
  unfolding written
  fits_end text h e = record { from = h; until = omega (arith, h, e) }

  pub written_fits : (text : List ℕ) {part : List ℕ} → Fits (length text) → part ≡ take (stop - start) text
      → record { end = stop; out = put_mid start (stop - start) out part } ≡ written out at text
  unfolding written
  written_fits text {part} f p =
      ap₂ (λ (k : ℕ) (r : List ℕ). record { end = k; out = r }) (omega (arith, f.from, f.until))
      (ap (put_mid start (stop - start) out) p ∙ stored (lt-or-le at (length out)))
    where
      count : length (take (stop - start) text) ≡ stop - start
      count = length-take-le (stop - start) text (omega (arith, f.from, f.until))

      stored : (at < length out) ⊎ (length out ≤ at) → put_mid start (stop - start) out (take (stop - start) text) ≡ sets out at text
      stored (inl h) =
          let e : start ≡ at = omega (arith, f.from) in
          let g : start + (stop - start) ≡ at + length (take (stop - start) text) = omega (arith, count, f.from, f.until) in
          let room : at + length (take (stop - start) text) ≤ length out = omega (arith, count, f.from, f.until) in
          let none : (length out ≤ at + length (take (stop - start) text)) ⊎ (drop (stop - start) text ≡ []) = over (lt-or-le (stop - start) (length text)) in
          sym (append_assoc (take start out) (take (stop - start) text) (drop (stop - start) (drop start out)))
          ∙ ap₂ (λ (k : ℕ) (r : List ℕ). take k out ++ take (stop - start) text ++ r) e (drop-drop (stop - start) start out ∙ ap (λ (k : ℕ). drop k out) g)
          ∙ sym (sets-eq (take (stop - start) text) out at room)
          ∙ sym (sets_part out (take (stop - start) text) (drop (stop - start) text) at none)
          ∙ ap (sets out at) (take-append-drop (stop - start) text)
        where
          over : ((stop - start) < length text) ⊎ (length text ≤ (stop - start)) → (length out ≤ at + length (take (stop - start) text)) ⊎ (drop (stop - start) text ≡ [])
          over (inl i) = inl (omega (arith, count, f.from, f.until))
          over (inr g) = inr (drop_of_length-le text {i = stop - start} g)
      stored (inr h) =
          let none : stop - start ≡ 0 = omega (arith, f.from, f.until) in
          ap (λ (k : ℕ). put_mid start k out (take k text)) none ∙ take-append-drop start out ∙ sym (sets_out text out at h)

  -- its bytes, where they stand, each changed by f
  pub written_shown : (f : ℕ → ℕ) (text : List ℕ) {now part : List ℕ} → Fits (length text) → now ≡ (written out at text).out
      → part ≡ map f (take (stop - start) (drop start now)) → record { end = stop; out = put_mid start (stop - start) now part } ≡ written out at (map f text)
  written_shown f text {now} {part} h e p =
      ap (λ (xs : List ℕ). record { end = stop; out = xs }) (ap (put_mid start (stop - start) now) p ∙ same)
      ∙ written_fits (map f text) (record { from = h.from; until = h.until ∙ ap (λ (k : ℕ). start + min k (length out - start)) (sym (length-map text f)) }) refl
    where
      inside : start ≤ length out
      inside = omega (arith, h.from)

      count : length (take (stop - start) text) ≡ stop - start
      count = length-take-le (stop - start) text (omega (arith, h.from, h.until))

      is : now ≡ put_mid start (stop - start) out (take (stop - start) text)
      is = e ∙ sym (ap (λ (w : Written). w.out) (written_fits text h refl))

      before : take start now ≡ take start out
      before = ap (take start) is ∙ take_put start (stop - start) out (take (stop - start) text) inside

      behind : drop start now ≡ take (stop - start) text ++ drop (stop - start) (drop start out)
      behind =
          ap (drop start) is
          ∙ drop_at (take start out) (take (stop - start) text ++ drop (stop - start) (drop start out)) start (length-take-le start out inside)

      same : put_mid start (stop - start) now (map f (take (stop - start) (drop start now))) ≡ put_mid start (stop - start) out (take (stop - start) (map f text))
      same =
          ap₂ (λ (r z : List ℕ). r ++ (map f (take (stop - start) z) ++ drop (stop - start) z)) before behind
          ∙ ap₂ (λ (z r : List ℕ). take start out ++ (map f z ++ r)) (take_at (take (stop - start) text) (drop (stop - start) (drop start out)) (stop - start) count) (drop_at (take (stop - start) text) (drop (stop - start) (drop start out)) (stop - start) count)
          ∙ ap (λ (z : List ℕ). take start out ++ (z ++ drop (stop - start) (drop start out))) (sym (take-map f (stop - start) text))

-- ---- the loop that shows bytes where they stand: those below i are shown

pub shown_more : (f : ℕ → ℕ) (xs now : List ℕ) (i b : ℕ) → i < length now → b ≡ f (get_or now i 0)
    → (take i now ≡ map f (take i xs)) × (drop i now ≡ drop i xs)
    → (take (i + 1) (set now i b) ≡ map f (take (i + 1) xs)) × (drop (i + 1) (set now i b) ≡ drop (i + 1) xs)
shown_more f xs now i b l e h = (rw add-one done, rw add-one (drop-set-lt (suc i) now i b (omega arith) ∙ rest))
  where
    m : length now - i ≡ length xs - i
    m = sym (length-drop i now) ∙ ap (λ (r : List ℕ). length r) h.1 ∙ length-drop i xs

    n : i < length xs
    n = omega (arith, m)

    d : get_or now i 0 ∷ drop (suc i) now ≡ get_or xs i 0 ∷ drop (suc i) xs
    d = sym (drop-cons now i 0 l) ∙ h.1 ∙ drop-cons xs i 0 n

    rest : drop (suc i) now ≡ drop (suc i) xs
    rest = ap (drop 1) d

    done : take (suc i) (set now i b) ≡ map f (take (suc i) xs)
    done =
        take-suc-set now i b l
        ∙ ap₂ (λ (r : List ℕ) (v : ℕ). r ++ (v ∷ [])) h.0 (e ∙ ap f (ap (λ (r : List ℕ). get_or r 0 0) d))
        ∙ sym (map-append f (take i xs) (get_or xs i 0 ∷ [])) ∙ sym (ap (map f) (take-suc xs i 0 n))
