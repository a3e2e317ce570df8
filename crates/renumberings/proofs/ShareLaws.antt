-- What the marks of a list of offsets tell of it. Assumes nothing.
use mathlib.Core.Path.{◌≡◌, sym, ap, ◌∙◌}
use mathlib.Core.Bool.{Bool, true, false, ◌||◌}
use mathlib.Core.List.{List}
use Prim.Native.Nat.{ℕ, ◌*◌, min}
use lib.ListN.{length, replicate}
use Rattle.word_bits.specs.Counts.{count}
use Rattle.sets.specs.Members.{bit_of}
use Rattle.renumber_steps.specs.Pairs.{repeats}
use Rattle.renumber_steps.specs.Passes.{Taken, marking_all, aboves, no_marks, shared}
use Rattle.renumber_steps.proofs.AllMarked.{kept_size, none_above}

module _ (xs : List ℕ) {ms zs : List ℕ} (fresh : ms ≡ no_marks) where
  -- an offset that was marked already
  pub found_is : record { found = true; words = zs } ≡ marking_all ms xs → record { found = true; words = zs } ≡ shared xs
  unfolding shared
  found_is run = ap (λ (t : Taken). record { found = t.found || repeats (aboves xs); words = t.words }) (run ∙ ap (λ (l : List ℕ). marking_all l xs) fresh)

  -- none was, and what is said of the offsets above
  pub none_is : {b : Bool} → record { found = false; words = zs } ≡ marking_all ms xs → b ≡ repeats (aboves xs) → record { found = b; words = zs } ≡ shared xs
  unfolding shared
  none_is run e =
      ap (λ (b : Bool). record { found = b; words = zs }) e
      ∙ ap (λ (t : Taken). record { found = t.found || repeats (aboves xs); words = t.words }) (run ∙ ap (λ (l : List ℕ). marking_all l xs) fresh)

  -- as many marks as offsets
  pub all_is : {n : ℕ} → record { found = false; words = zs } ≡ marking_all ms xs → n ≡ count (min (length zs) 1024 * 64) (bit_of zs) → n ≡ length xs
      → record { found = false; words = zs } ≡ shared xs
  all_is run counted full =
      let e : record { found = false; words = zs } ≡ marking_all no_marks xs = run ∙ ap (λ (l : List ℕ). marking_all l xs) fresh in
      let none = sym (ap (λ (t : Taken). t.found) e) in
      let long : length zs ≡ 1024 = ap (λ (t : Taken). length t.words) e ∙ kept_size xs none in
      let all : count 65536 (bit_of zs) ≡ length xs = ap (λ (l : ℕ). count (min l 1024 * 64) (bit_of zs)) (sym long) ∙ sym counted ∙ full in
      none_is run (sym (none_above xs none (ap (λ (t : Taken). count 65536 (bit_of t.words)) (sym e) ∙ all)))

-- 1,024 words that are all 0
pub filled : (marks : List ℕ) {ms : List ℕ} → length marks ≡ 1024 → ms ≡ replicate (length marks) 0 → ms ≡ no_marks
unfolding no_marks
filled marks size e = e ∙ ap (λ (n : ℕ). replicate n 0) size
