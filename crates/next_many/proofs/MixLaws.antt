-- A call that gives many positions is front steps in a row, so that what holds of every mix of steps holds of every mix of steps and calls. Assumes nothing.
use mathlib.Core.Path.{◌≡◌, refl, sym, ap, ap₂, ◌∙◌}
use mathlib.Core.Bool.{Bool}
use mathlib.Core.List.{List, [], ◌∷◌, ◌++◌, reverse, append_assoc}
use Prim.Native.Nat.{ℕ, zero, suc, min}
use lib.ListN.{length}
use Rattle.sets.specs.Members.{Members, set_of}
use Rattle.sets.specs.Outcomes.{position_of}
use Rattle.sets.specs.declared.answers.Part.{Part}
use Rattle.sets.proofs.WriteLaws.{Clipped}
use Rattle.parts.specs.declared.records.End.{End}
use Rattle.parts.specs.declared.records.End.TheVariants.{Front, Back}
use Rattle.walks.specs.Rules.{first_part, pair_step}
use Rattle.whole_walks.specs.Walks.{first_row, second_row, answers_from}
use Rattle.whole_walks.specs.Walked.{fronts, backs}
use Rattle.whole_walks.specs.declared.walk.Walk.{Walk}
use Rattle.whole_walks.proofs.PartLists.{left_first}
use Rattle.whole_walks.proofs.WalkedLaws.{walked}
use Rattle.next_many.specs.Many.{front_pairs}
use Rattle.next_many.specs.Mixes.{Taking, single, many, fronts_of, backs_of, front_times, steps_of, asked, MixInOrder}
use Rattle.next_many.proofs.LeftLaws.{mix_gives}

module _ (f g : ℕ → Bool) where
  -- n front steps, and those after them
  fronts-after : (n : ℕ) (ends : List End) (one two : Part)
      → fronts (front_times n ends) (answers_from f g (front_times n ends) one two)
      ≡ (front_pairs n f g one two).positions ++ fronts ends (answers_from f g ends (front_pairs n f g one two).one (front_pairs n f g one two).two)
  unfolding answers_from front_pairs
  fronts-after zero ends one two = refl
  fronts-after (suc n) ends one two =
      let s = pair_step Front f g one two in
      let m = front_pairs n f g s.one s.two in
      ap (λ (xs : List ℕ). position_of s.at ++ xs) (fronts-after n ends s.one s.two)
      ∙ sym (append_assoc (position_of s.at) m.positions (fronts ends (answers_from f g ends m.one m.two)))

  backs-after : (n : ℕ) (ends : List End) (one two : Part)
      → backs (front_times n ends) (answers_from f g (front_times n ends) one two) ≡ backs ends (answers_from f g ends (front_pairs n f g one two).one (front_pairs n f g one two).two)
  unfolding answers_from front_pairs
  backs-after zero ends one two = refl
  backs-after (suc n) ends one two = backs-after n ends (pair_step Front f g one two).one (pair_step Front f g one two).two

  -- a mix gives what its steps give one by one
  pub fronts_are : (ts : List Taking) (one two : Part) → fronts_of f g ts one two ≡ fronts (steps_of ts) (answers_from f g (steps_of ts) one two)
  unfolding fronts_of answers_from
  fronts_are [] one two = refl
  fronts_are (single Front ∷ ts) one two =
      ap (λ (xs : List ℕ). position_of (pair_step Front f g one two).at ++ xs) (fronts_are ts (pair_step Front f g one two).one (pair_step Front f g one two).two)
  fronts_are (single Back ∷ ts) one two = fronts_are ts (pair_step Back f g one two).one (pair_step Back f g one two).two
  fronts_are (many n ∷ ts) one two =
      ap (λ (xs : List ℕ). (front_pairs n f g one two).positions ++ xs) (fronts_are ts (front_pairs n f g one two).one (front_pairs n f g one two).two)
      ∙ sym (fronts-after n (steps_of ts) one two)

  pub backs_are : (ts : List Taking) (one two : Part) → backs_of f g ts one two ≡ backs (steps_of ts) (answers_from f g (steps_of ts) one two)
  unfolding backs_of answers_from
  backs_are [] one two = refl
  backs_are (single Front ∷ ts) one two = backs_are ts (pair_step Front f g one two).one (pair_step Front f g one two).two
  backs_are (single Back ∷ ts) one two =
      ap (λ (xs : List ℕ). position_of (pair_step Back f g one two).at ++ xs) (backs_are ts (pair_step Back f g one two).one (pair_step Back f g one two).two)
  backs_are (many n ∷ ts) one two = backs_are ts (front_pairs n f g one two).one (front_pairs n f g one two).two ∙ sym (backs-after n (steps_of ts) one two)

pub mix_walked : (walk : Walk) (a b : Members) → Clipped a → Clipped b → (ts : List Taking) → MixInOrder walk a b ts
mix_walked walk a b ca cb ts =
    let w = walked walk a b ca cb (steps_of ts) in
    record {
      middle = w.middle;
      in_order =
          ap₂ (λ (xs ys : List ℕ). xs ++ w.middle ++ reverse ys) (fronts_are (first_row walk a b) (second_row walk a b) ts (first_part (set_of a)) (first_part (set_of b)))
          (backs_are (first_row walk a b) (second_row walk a b) ts (first_part (set_of a)) (first_part (set_of b))) ∙ w.in_order;
      gives = mix_gives (first_row walk a b) (second_row walk a b) ts (first_part (set_of a)) (first_part (set_of b))
          ∙ ap (λ (xs : List ℕ). min (asked ts) (length xs)) (ap₂ ◌++◌ (left_first a (first_row walk a b)) (left_first b (second_row walk a b)) ∙ w.parts);
    }
