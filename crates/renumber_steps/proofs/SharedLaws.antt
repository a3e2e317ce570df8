-- Whether an offset stands twice in a list: what its marks tell. Assumes nothing.
use mathlib.Core.Path.{◌≡◌, refl, ap, ◌∙◌}
use mathlib.Core.Bool.{false, ◌||◌}
use mathlib.Core.List.{List}
use Prim.Native.Nat.{ℕ}
use native.Mathlib.Omega.{arith}
use lib.ListN.{length}
use Rattle.std.proofs.lemmas.List.{length-replicate, get_or-replicate}
use Rattle.sets.specs.Members.{words_of, write, empty}
use Rattle.sets.proofs.WriteLaws.{Clipped, write_is}
use Rattle.sets.proofs.ZeroLaws.{no_members}
use Rattle.renumber_steps.specs.Pairs.{repeats}
use Rattle.renumber_steps.specs.Passes.{Taken, aboves, marking_all, no_marks, shared}
use Rattle.renumber_steps.proofs.HeldLaws.{hits, marks}
use Rattle.renumber_steps.proofs.RepeatLaws.{hits_repeats}
use Rattle.renumber_steps.proofs.RunLaws.{marked_run}

pub no_marks_long : length no_marks ≡ 1024
unfolding no_marks
no_marks_long = length-replicate {A = ℕ} 1024 0

unmarked : no_marks ≡ write no_marks (empty 65536)
unfolding no_marks words_of
unmarked =
    write_is no_marks (empty 65536) no_marks (rw no_marks_long (omega arith)) refl
    (λ k h. get_or-replicate 1024 k 0 0 (omega arith) ∙ no_members (λ p. false) k (λ j l. refl)) (λ k h. refl)

pub none_clipped : (n : ℕ) → Clipped (empty n)
none_clipped n = record { above = λ p h. refl }

module _ (xs : List ℕ) where
  pub run : marking_all no_marks xs ≡ record { found = hits (empty 65536) xs; words = write no_marks (marks (empty 65536) xs) }
  run = ap (λ (l : List ℕ). marking_all l xs) unmarked ∙ marked_run no_marks xs (empty 65536) (none_clipped 65536) refl no_marks_long

  pub shared-found : (shared xs).found ≡ repeats xs
  unfolding shared
  shared-found = ap (λ (t : Taken). t.found || repeats (aboves xs)) run ∙ hits_repeats xs

  pub shared-words : (shared xs).words ≡ write no_marks (marks (empty 65536) xs)
  unfolding shared
  shared-words = ap (λ (t : Taken). t.words) run
