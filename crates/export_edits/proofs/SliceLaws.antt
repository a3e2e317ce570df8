-- The words of a set, by offset and count. Assumes nothing.
use mathlib.Core.Path.{◌≡◌, refl, ap}
use mathlib.Core.List.{List}
use Prim.Native.Nat.{ℕ, zero, suc, ◌≤◌}
use denote.Ref.{Bor}
use lib.ListN.{length}
use lib.Seq.{length-take-le}
use Rattle.sets.specs.Outcomes.{given}
use Rattle.sets.specs.Rules.{first_words}
use Rattle.export_answers.specs.declared.answers.FbsSlice.{FbsSlice}

-- the first k words of a slice by offset and count, and no word where refused
pub slice_counts : (n k : ℕ) (slice : Bor (List ℕ)) → (n ≡ 0 → k ≤ length slice.now)
    → ◌≡◌ {A = FbsSlice} (record { offset = 0; count = length (given n (λ m. first_words slice 0) (first_words slice k)).words })
    (given n (λ m. record { offset = 0; count = 0 }) (record { offset = 0; count = k }))
unfolding given
slice_counts zero k slice h = ap (λ (c : ℕ). record { offset = 0; count = c }) (length-take-le k slice.now (h refl))
slice_counts (suc n) k slice h = refl
