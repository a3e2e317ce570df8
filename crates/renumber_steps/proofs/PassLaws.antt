-- What the passes say of the pairs from a place on, by the pair that stands there. Assumes nothing.
use mathlib.Core.Path.{◌≡◌, refl, sym, ◌∙◌, ap, ap₂}
use Prim.Native.Nat.{ℕ, ◌+◌, ◌-◌, ◌≤◌, ◌<◌}
use native.Mathlib.Numerals.{add-one}
use mathlib.Core.Bool.{Bool, true, false, cond, ◌||◌}
use mathlib.Core.List.{List, [], ◌∷◌}
use borrow.Author.Tests.{lt-leb, le-leb}
use lib.Dec.{eqb}
use lib.ListN.{length, get_or, take, drop, drop_of_length-le}
use lib.Seq.{drop-cons, take-length}
use Rattle.std.specs.List.{list_any}
use Rattle.std.proofs.Common.{length-drop}
use Rattle.sets.specs.Members.{Members, bit_of}
use Rattle.edits.specs.Edits.{is_in}
use Rattle.renumber_steps.specs.Pairs.{sided_pair, sided, olds, repeats}
use Rattle.renumber_steps.specs.Passes.{Taken, aboves, marked, marking_all, moved}
use Rattle.renumber_steps.specs.declared.pair.Pair.{Pair}
use Rattle.renumber_steps.proofs.RepeatLaws.{in_aboves}

-- an offset from 65,536 up stands twice where one behind it is the same; one below says nothing
above_more : (x : ℕ) (xs : List ℕ) → 65536 ≤ x → repeats (aboves (x ∷ xs)) ≡ is_in xs x || repeats (aboves xs)
unfolding repeats aboves
above_more x xs l = rw (le-leb 65536 x l) (ap (λ (b : Bool). b || repeats (aboves xs)) (in_aboves x xs l))

above_same : (x : ℕ) (xs : List ℕ) → x < 65536 → repeats (aboves (x ∷ xs)) ≡ repeats (aboves xs)
unfolding aboves
above_same x xs l = rw (lt-leb 65536 x l)

-- an offset that a pair has is an old one
found_olds : (back : Bool) (x : ℕ) (ps : List Pair) → list_any (λ p. eqb (sided_pair back p).old x) ps ≡ is_in (olds (sided back ps)) x
unfolding is_in olds sided
found_olds back x [] = refl
found_olds back x (p ∷ ps) = ap (λ (b : Bool). eqb (sided_pair back p).old x || b) (found_olds back x ps)

-- a pair past the end of a list
abbrev pub none : Pair
none = record { old = 0; new = 0 }

module _ (back : Bool) (ps : List Pair) (k : ℕ) where
  -- the pairs behind a place
  abbrev behind : List Pair
  behind = sided back (drop (k + 1) ps)

  here : k < length ps → sided back (drop k ps) ≡ sided_pair back (get_or ps k none) ∷ behind
  unfolding sided
  here l = ap (sided back) (drop-cons ps k none l ∙ ap (λ (j : ℕ). get_or ps k none ∷ drop j ps) (sym (add-one k)))

  over : length ps ≤ k → sided back (drop k ps) ≡ []
  unfolding sided
  over l = ap (sided back) (drop_of_length-le ps l)

  -- marks
  abbrev pub marks_from : List ℕ → Taken
  marks_from ws = marking_all ws (olds (sided back (drop k ps)))

  pub marks_here : (ws : List ℕ) {zs : List ℕ} {p : Pair} {b : Bool} → k < length ps → p ≡ sided_pair back (get_or ps k none) → b ≡ bit_of ws p.old
      → zs ≡ marked ws p.old → marks_from ws ≡ cond b (record { found = true; words = zs }) (marking_all zs (olds behind))
  unfolding marking_all olds
  marks_here ws {zs} {p} l q e z =
      ap (λ (qs : List Pair). marking_all ws (olds qs)) (here l) ∙ ap (λ (p : Pair). marking_all ws (p.old ∷ olds behind)) (sym q)
      ∙ ap₂ (λ (b : Bool) (l : List ℕ). cond b (record { found = true; words = l }) (marking_all l (olds behind))) (sym e) (sym z)

  pub marks_over : (ws : List ℕ) → length ps ≤ k → marks_from ws ≡ record { found = false; words = ws }
  unfolding marking_all olds
  marks_over ws l = ap (λ (qs : List Pair). marking_all ws (olds qs)) (over l)

  -- moves
  module _ (s : Members) where
    abbrev pub moved_from : List ℕ → List ℕ
    moved_from ws = moved s ws (sided back (drop k ps))

    one : (ws : List ℕ) {p : Pair} {b : Bool} → k < length ps → p ≡ sided_pair back (get_or ps k none) → s.has p.old ≡ b
        → moved_from ws ≡ moved s (cond b (marked ws p.new) ws) behind
    unfolding moved
    one ws {p} l q e =
        ap (moved s ws) (here l) ∙ ap (λ (p : Pair). moved s (cond (s.has p.old) (marked ws p.new) ws) behind) (sym q)
        ∙ ap (λ (b : Bool). moved s (cond b (marked ws p.new) ws) behind) e

    -- a member moves, what is none does not
    pub moved_in : (ws : List ℕ) {p : Pair} → k < length ps → p ≡ sided_pair back (get_or ps k none) → s.has p.old ≡ true → moved_from ws ≡ moved s (marked ws p.new) behind
    moved_in ws l q e = one ws l q e

    pub moved_out : (ws : List ℕ) {p : Pair} → k < length ps → p ≡ sided_pair back (get_or ps k none) → s.has p.old ≡ false → moved_from ws ≡ moved s ws behind
    moved_out ws l q e = one ws l q e

    pub moved_over : (ws : List ℕ) → length ps ≤ k → moved_from ws ≡ ws
    unfolding moved
    moved_over ws l = ap (moved s ws) (over l)

  -- whether an old offset from 65,536 up stands twice
  abbrev pub repeated_from : Bool
  repeated_from = repeats (aboves (olds (sided back (drop k ps))))

  pub repeated_here : {p : Pair} {b : Bool} → k < length ps → p ≡ sided_pair back (get_or ps k none) → 65536 ≤ p.old
      → b ≡ list_any (λ q. eqb (sided_pair back q).old p.old) (take (length ps - (k + 1)) (drop (k + 1) ps)) → repeated_from ≡ b || repeats (aboves (olds behind))
  unfolding olds
  repeated_here {p} l q g e =
      ap (λ (qs : List Pair). repeats (aboves (olds qs))) (here l) ∙ ap (λ (p : Pair). repeats (aboves (p.old ∷ olds behind))) (sym q)
      ∙ above_more p.old (olds behind) g ∙ ap (λ (b : Bool). b || repeats (aboves (olds behind))) (sym (e ∙ found))
    where
      found : list_any (λ q. eqb (sided_pair back q).old p.old) (take (length ps - (k + 1)) (drop (k + 1) ps)) ≡ is_in (olds behind) p.old
      found = rw (← length-drop (k + 1) ps, take-length) (found_olds back p.old (drop (k + 1) ps))

  pub repeated_below : {p : Pair} → k < length ps → p ≡ sided_pair back (get_or ps k none) → p.old < 65536 → repeated_from ≡ repeats (aboves (olds behind))
  unfolding olds
  repeated_below {p} l q g =
      ap (λ (qs : List Pair). repeats (aboves (olds qs))) (here l) ∙ ap (λ (p : Pair). repeats (aboves (p.old ∷ olds behind))) (sym q)
      ∙ above_same p.old (olds behind) g

  pub repeated_over : length ps ≤ k → repeated_from ≡ false
  unfolding olds aboves repeats
  repeated_over l = ap (λ (qs : List Pair). repeats (aboves (olds qs))) (over l)

-- the steps of each pass, for the functions that make it
pub ruleset mark_steps = (marks_here, marks_over)

pub ruleset move_steps = (moved_in, moved_out, moved_over)

pub ruleset repeat_steps = (repeated_here, repeated_below, repeated_over)
