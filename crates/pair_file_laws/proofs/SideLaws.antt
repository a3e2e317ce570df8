-- What a table says of one side of a list of pairs, and of the list with one pair more. Assumes nothing.
use mathlib.Core.Path.{◌≡◌, refl, sym, ap, ap₂, ◌∙◌}
use mathlib.Core.Bool.{Bool, true, false, not, ◌&&◌, ◌||◌, or-false, true≢false}
use mathlib.Core.List.{List, [], ◌∷◌, ◌++◌}
use Prim.Native.Nat.{ℕ, ◌+◌, ◌*◌, ◌%◌, ◌<◌}
use native.Mathlib.Omega.{arith}
use borrow.Author.Tests.{eqb-true, eqb-false, eq-eqb, ne_eqb}
use lib.Dec.{eqb}
use Rattle.edits.specs.Edits.{is_in}
use Rattle.renumber_steps.specs.Pairs.{repeats}
use Rattle.pair_files.specs.Files.{with_word}
use Rattle.pair_files.specs.Good.{has_word, names}
use Rattle.pair_file_laws.proofs.ListLaws.{in_more, once_more}

-- keys are the offsets of this side, and `paired p q` says whether p of this side and q of the other are a pair
pub record Side (keys : List ℕ) (paired : ℕ → ℕ → Bool) (table : ℕ → ℕ) : Type 0 where
  pub once : repeats keys ≡ false
  pub below : (p : ℕ) → is_in keys p ≡ true → p < 65536
  pub some : (p : ℕ) → p < 65536 → has_word (table p) ≡ is_in keys p
  pub word : (p : ℕ) → p < 65536 → (q : ℕ) → names (table p) q ≡ paired p q

-- ---- a word

none-names : (q : ℕ) → names 0 q ≡ false
unfolding names has_word
none-names q = refl

module _ (k other : ℕ) (line : 0 < k) (small : other < 65536) where
  word_some : has_word (k * 65536 + other) ≡ true
  unfolding has_word
  word_some = ap not (ne_eqb (k * 65536 + other) 0 (λ z. omega arith))

  word_names : (q : ℕ) → names (k * 65536 + other) q ≡ eqb other q
  unfolding names
  word_names q =
      let e : (k * 65536 + other) % 65536 ≡ other = omega arith in
      ap₂ (λ (t : Bool) (x : ℕ). t && eqb x q) word_some e

-- ---- one pair more

module _ (keys : List ℕ) (paired : ℕ → ℕ → Bool) (table : ℕ → ℕ) (s : Side keys paired table) (key other k : ℕ) (l : key < 65536) (m : other < 65536) (line : 0 < k)
    (free : table key ≡ 0) where
  at_key : (p : ℕ) → eqb p key ≡ true → with_word table key (k * 65536 + other) p ≡ k * 65536 + other
  unfolding with_word
  at_key p e = rw (e, free) refl

  at_other : (p : ℕ) → eqb p key ≡ false → with_word table key (k * 65536 + other) p ≡ table p
  unfolding with_word
  at_other p e = rw e refl

  new_key : is_in keys key ≡ false
  unfolding has_word
  new_key = sym (s.some key l) ∙ ap has_word free

  in_keys : (p : ℕ) → is_in (keys ++ (key ∷ [])) p ≡ true → p < 65536
  in_keys p e = go (is_in keys p) refl (sym (in_more keys key p) ∙ e)
    where
      go : (t : Bool) → is_in keys p ≡ t → (t || eqb key p) ≡ true → p < 65536
      go true a b = s.below p a
      go false a b = let z = eqb-true key p b in omega arith

  key_some : (p : ℕ) → p < 65536 → (t : Bool) → eqb p key ≡ t → has_word (with_word table key (k * 65536 + other) p) ≡ (is_in keys p || eqb key p)
  key_some p n true e =
      ap has_word (at_key p e) ∙ word_some k other line m
      ∙ sym (ap (λ (t : Bool). is_in keys p || t) (eq-eqb key p (sym (eqb-true p key e))) ∙ or-true (is_in keys p))
    where
      or-true : (t : Bool) → (t || true) ≡ true
      or-true true = refl
      or-true false = refl
  key_some p n false e =
      ap has_word (at_other p e) ∙ s.some p n
      ∙ sym (ap (λ (t : Bool). is_in keys p || t) (ne_eqb key p (λ z. eqb-false p key e (sym z))) ∙ or-false (is_in keys p))

  key_word : (p : ℕ) → p < 65536 → (q : ℕ) (t : Bool) → eqb p key ≡ t → names (with_word table key (k * 65536 + other) p) q ≡ (paired p q || (eqb key p && eqb other q))
  key_word p n q true e =
      let here = eqb-true p key e in
      let none : paired p q ≡ false = sym (s.word p n q) ∙ ap (λ (w : ℕ). names w q) (ap table here ∙ free) ∙ none-names q in
      ap (λ (w : ℕ). names w q) (at_key p e) ∙ word_names k other line m q
      ∙ sym (ap₂ (λ (t u : Bool). t || (u && eqb other q)) none (eq-eqb key p (sym here)))
  key_word p n q false e =
      ap (λ (w : ℕ). names w q) (at_other p e) ∙ s.word p n q
      ∙ sym (ap (λ (u : Bool). paired p q || (u && eqb other q)) (ne_eqb key p (λ z. eqb-false p key e (sym z))) ∙ or-false (paired p q))

  pub side_more : (keys' : List ℕ) (paired' : ℕ → ℕ → Bool) → keys' ≡ keys ++ (key ∷ []) → ((p q : ℕ) → paired' p q ≡ (paired p q || (eqb key p && eqb other q)))
      → Side keys' paired' (with_word table key (k * 65536 + other))
  side_more keys' paired' a b = record {
    once = ap repeats a ∙ once_more keys key s.once new_key;
    below = λ p e. in_keys p (sym (ap (λ (ps : List ℕ). is_in ps p) a) ∙ e);
    some = λ p n. key_some p n (eqb p key) refl ∙ sym (ap (λ (ps : List ℕ). is_in ps p) a ∙ in_more keys key p);
    word = λ p n q. key_word p n q (eqb p key) refl ∙ sym (b p q);
  }

-- ---- an offset of this side that is in no pair, and one that is in one

module _ (keys : List ℕ) (paired : ℕ → ℕ → Bool) (table : ℕ → ℕ) (s : Side keys paired table) (p : ℕ) (l : p < 65536) where
  pub absent : is_in keys p ≡ false → table p ≡ 0
  unfolding has_word
  absent e = go (eqb (table p) 0) refl (s.some p l ∙ e)
    where
      go : (t : Bool) → eqb (table p) 0 ≡ t → not t ≡ false → table p ≡ 0
      go true a b = eqb-true (table p) 0 a
      go false a b = absurd (true≢false b)

  pub present : is_in keys p ≡ true → (table p ≡ 0 → ⊥) × (paired p (table p % 65536) ≡ true)
  unfolding has_word names
  present e =
      let some : not (eqb (table p) 0) ≡ true = s.some p l ∙ e in (
        λ z. true≢false (sym some ∙ ap (λ (w : ℕ). not (eqb w 0)) z),
        sym (s.word p l (table p % 65536)) ∙ ap₂ (λ (t u : Bool). t && u) some (eq-eqb (table p % 65536) (table p % 65536) refl),
      )
