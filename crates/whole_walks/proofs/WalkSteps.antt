-- What a step takes from what is left of a walk, and that what is left decides every answer. Assumes nothing.
use mathlib.Core.Path.{◌≡◌, refl, sym, ap, ap₂, subst, ◌∙◌}
use mathlib.Core.Bool.{Bool, true, false}
use mathlib.Core.List.{List, [], ◌∷◌, ◌++◌, append_assoc, append-nil}
use Prim.Native.Nat.{ℕ}
use native.Mathlib.Omega.{arith}
use lib.ListN.{length, take, drop, length-append}
use lib.Seq.{take_at, drop_at}
use Rattle.sets.specs.declared.answers.Part.{Part}
use Rattle.std.specs.Prelude.{Option}
use Rattle.std.specs.Prelude.{Some, None}
use Rattle.parts.specs.Steps.{front, back}
use Rattle.parts.specs.declared.records.End.{End}
use Rattle.parts.specs.declared.records.End.TheVariants.{Front, Back}
use Rattle.walks.specs.Helpers.{tried, row_step, placed}
use Rattle.walks.specs.Rules.{pair_step}
use Rattle.walks.specs.declared.answers.PairStep.{PairStep}
use Rattle.walks.proofs.PairLaws.{placed_is}
use Rattle.walks.specs.declared.rows.RowStep.{RowStep}
use Rattle.whole_walks.specs.Helpers.{nothing_left, records_after}
use Rattle.whole_walks.specs.Walks.{answers_from}
use Rattle.whole_walks.proofs.PartLists.{between, part_left}
use Rattle.whole_walks.proofs.PartSteps.{Taken, step-taken}

-- what is left of two parts
abbrev pub both_left : (ℕ → Bool) → (ℕ → Bool) → Part → Part → List ℕ
both_left f g one two = part_left f one ++ part_left g two

pub nothing_left_lem : (f : ℕ → Bool) → part_left f nothing_left ≡ []
unfolding between
nothing_left_lem f = refl

-- ---- a step of two parts: the part that is tried first, then, where that has none, the other

module _ (f g : ℕ → Bool) (one two : Part) where
  -- it takes a position from what is left, and the records of a whole walk leave as much
  abbrev Good : End → RowStep → PairStep → Type 0
  Good end r s =
      Taken s.at end (both_left f g one two) (both_left f g s.one s.two)
      × (both_left f g (records_after one two end r).one (records_after one two end r).two ≡ both_left f g s.one s.two)

  abbrev GoodRow : End → RowStep → Type 0
  GoodRow end r = Good end r (placed one two r)

  at_front : (x : Option ℕ) (s : Part) (y : Option ℕ) (t : Part) → Taken x Front (part_left f one) (part_left f s) → Taken y Front (part_left g two) (part_left g t)
      → GoodRow Front (tried false (record { at = x; part = s }) (record { at = y; part = t }))
  at_front (Some p) s y t h k = (ap (λ (xs : List ℕ). xs ++ part_left g two) h, refl)
  at_front None s (Some p) t h k = (
    ap (λ (xs : List ℕ). xs ++ part_left g two) h.0 ∙ k ∙ ap (λ (xs : List ℕ). p ∷ (xs ++ part_left g t)) (sym h.0),
    ap (λ (xs : List ℕ). xs ++ part_left g t) (nothing_left_lem f ∙ sym h.0),
  )
  at_front None s None t h k = ((ap₂ ◌++◌ h.0 k.0, ap₂ ◌++◌ h.0 k.1), ap₂ ◌++◌ (nothing_left_lem f ∙ sym h.0) (nothing_left_lem g ∙ sym k.1))

  at_back : (x : Option ℕ) (s : Part) (y : Option ℕ) (t : Part) → Taken x Back (part_left g two) (part_left g s) → Taken y Back (part_left f one) (part_left f t)
      → GoodRow Back (tried true (record { at = x; part = s }) (record { at = y; part = t }))
  at_back (Some p) s y t h k = (ap (λ (xs : List ℕ). part_left f one ++ xs) h ∙ sym (append_assoc (part_left f one) (part_left g s) (p ∷ [])), refl)
  at_back None s (Some p) t h k = (
    ap₂ ◌++◌ k h.0 ∙ append-nil (part_left f t ++ (p ∷ []))
        ∙ ap (λ (xs : List ℕ). xs ++ (p ∷ [])) (sym (ap (λ (xs : List ℕ). part_left f t ++ xs) h.0 ∙ append-nil (part_left f t))),
    ap (λ (xs : List ℕ). part_left f t ++ xs) (nothing_left_lem g ∙ sym h.0),
  )
  at_back None s None t h k = ((ap₂ ◌++◌ k.0 h.0, ap₂ ◌++◌ k.1 h.0), ap₂ ◌++◌ (nothing_left_lem f ∙ sym k.1) (nothing_left_lem g ∙ sym h.0))

  row-placed : (end : End) → GoodRow end (row_step end f g one two)
  row-placed Front = at_front (front f one).at (front f one).part (front g two).at (front g two).part (step-taken f one Front) (step-taken g two Front)
  row-placed Back = at_back (back g two).at (back g two).part (back f one).at (back f one).part (step-taken g two Back) (step-taken f one Back)

  pub row-good : (end : End) → Good end (row_step end f g one two) (pair_step end f g one two)
  row-good end = subst (Good end (row_step end f g one two)) (placed_is f g one two end) (row-placed end)

-- ---- two results of one step of the same list are equal

module _ (whole rest other : List ℕ) where
  same_taken : (x y : Option ℕ) (end : End) → Taken x end whole rest → Taken y end whole other → (x ≡ y) × (rest ≡ other)
  same_taken (Some p) (Some q) Front h k = (cc, cc)
  same_taken (Some p) (Some q) Back h k =
      let n : length other ≡ length rest = omega (arith, simp length-append at (ap length h), simp length-append at (ap length k)) in
      let r : rest ≡ other = sym (take_at rest (p ∷ []) (length rest) refl) ∙ ap (take (length rest)) (sym h ∙ k) ∙ take_at other (q ∷ []) (length rest) n in
      let l : p ∷ [] ≡ q ∷ [] = sym (drop_at rest (p ∷ []) (length rest) refl) ∙ ap (drop (length rest)) (sym h ∙ k) ∙ drop_at other (q ∷ []) (length rest) n in
      (cc, r)
  same_taken (Some p) None Front h k = absurd (omega (arith, ap length h, ap length k.0))
  same_taken (Some p) None Back h k = absurd (omega (arith, simp length-append at (ap length h), ap length k.0))
  same_taken None (Some q) Front h k = absurd (omega (arith, ap length k, ap length h.0))
  same_taken None (Some q) Back h k = absurd (omega (arith, simp length-append at (ap length k), ap length h.0))
  same_taken None None end h k = (refl, h.1 ∙ sym k.1)

module _ (f g f' g' : ℕ → Bool) where
  pub same_answers : (ends : List End) (one two one' two' : Part) → both_left f g one two ≡ both_left f' g' one' two'
      → answers_from f g ends one two ≡ answers_from f' g' ends one' two'
  unfolding answers_from
  same_answers [] one two one' two' e = refl
  same_answers (end ∷ ends) one two one' two' e =
      let s = pair_step end f g one two in
      let t = pair_step end f' g' one' two' in
      let both = same_taken (both_left f g one two) (both_left f g s.one s.two) (both_left f' g' t.one t.two) s.at t.at end
      (row-good f g one two end).0 (rw e (row-good f' g' one' two' end).0) in
      ap₂ {C = List (Option ℕ)} (λ x xs. x ∷ xs) both.0 (same_answers ends s.one s.two t.one t.two both.1)
