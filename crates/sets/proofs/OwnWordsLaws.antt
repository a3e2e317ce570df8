-- The own words of a set that passes questions 1 to 3. Assumes nothing.
use mathlib.Core.Path.{◌≡◌, refl, sym, ap, fun_ext, ◌∙◌}
use mathlib.Core.Bool.{Bool, ◌&&◌}
use mathlib.Core.List.{List}
use mathlib.Core.Logic.{◌⊎◌, inl, inr}
use Prim.Native.Nat.{ℕ, ◌/◌, ◌%◌, ◌*◌, ◌≤◌, ◌<◌}
use native.Mathlib.Omega.{arith}
use lib.Dec.{ltb}
use lib.ListN.{length, get_or, take}
use lib.Seq.{get_or-take, length-take-le}
use borrow.Author.Tests.{lt-ltb, le-ltb}
use Rattle.word_bits.specs.Digits.{digit}
use Rattle.word_bits.proofs.Order.{lt-or-le}
use Rattle.sets.specs.Members.{Members, words_of, bit_of, read}
use Rattle.sets.specs.Questions.{questions}
use Rattle.sets.specs.Checks.{Sound}
use Rattle.sets.specs.declared.fixed_bit_set.FixedBitSet.{FixedBitSet}
use Rattle.sets.proofs.QuestionLaws.{Valid, valid, valid_yes}
use Rattle.sets.proofs.WordLaws.{words_hold}

module _ (set : FixedBitSet) (ws : List ℕ) where
  bits_within : (p : ℕ) → p / 64 < words_of set.length → bit_of (take (words_of set.length) ws) p ≡ bit_of ws p
  unfolding bit_of
  bits_within p h = ap (λ (x : ℕ). digit x (p % 64)) (get_or-take (words_of set.length) ws (p / 64) 0 h)

  pub own_sound : questions set ws ≡ 0 → Sound set.length (take (words_of set.length) ws)
  own_sound e =
      let v = valid set ws e in
      let l = length-take-le (words_of set.length) ws v.enough in
      record {
        asked = valid_yes _ _ (record {
          small = v.small;
          enough = omega (arith, l);
          clean = λ p a b. bits_within p (omega arith) ∙ v.clean p a b;
        });
        own = l;
      }

  pub own_members : read (take (words_of set.length) ws) set ≡ read ws set
  unfolding read words_of
  own_members = ap (λ (f : ℕ → Bool). record { len = set.length; has = f }) (fun_ext at)
    where
      at : (p : ℕ) → (ltb p set.length && bit_of (take (words_of set.length) ws) p) ≡ (ltb p set.length && bit_of ws p)
      at p = go (lt-or-le p set.length)
        where
          go : (p < set.length) ⊎ (set.length ≤ p) → (ltb p set.length && bit_of (take (words_of set.length) ws) p) ≡ (ltb p set.length && bit_of ws p)
          go (inl h) = ap (λ (t : Bool). ltb p set.length && t) (bits_within p (let w = words_hold set.length in omega (arith, w.0)))
          go (inr g) = rw (le-ltb p set.length g) refl
