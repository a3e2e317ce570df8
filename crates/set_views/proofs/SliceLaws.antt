-- A set's own words as a part of the lent slice. Assumes nothing.
use mathlib.Core.Path.{◌≡◌, refl, sym, ap, ◌∙◌}
use mathlib.Core.List.{List}
use Prim.Native.Nat.{ℕ}
use denote.Ref.{Bor}
use lib.ListN.{take}
use Rattle.sets.specs.Members.{words_of}
use Rattle.sets.specs.Rules.{SlicePart, first_words, as_slice_rule}
use Rattle.sets.specs.declared.fixed_bit_set.FixedBitSet.{FixedBitSet}
use Rattle.sets.proofs.OutcomeLaws.{given_yes}
use Rattle.sets.proofs.QuestionLaws.{Valid, valid_yes}

module _ (set : FixedBitSet) (slice : Bor (List ℕ)) (v : Valid set slice.now) where
  pub own_part : as_slice_rule set slice ≡ first_words slice (words_of set.length)
  own_part = sym (given_yes (λ m. first_words slice 0) (sym (valid_yes set slice.now v)) refl)

  pub own_words : {part : SlicePart} → part ≡ as_slice_rule set slice → part.words ≡ take (words_of set.length) slice.now
  own_words e = ap (λ (s : SlicePart). s.words) (e ∙ own_part)
