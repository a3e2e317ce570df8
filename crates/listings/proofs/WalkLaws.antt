-- What a call that gives many offsets of a walk takes from what is left of it. Assumes nothing.
use mathlib.Core.Path.{◌≡◌, refl, sym, ap, ap₂, ◌∙◌}
use mathlib.Core.Bool.{Bool, false}
use mathlib.Core.List.{List, [], ◌++◌}
use Prim.Native.Nat.{ℕ}
use lib.ListN.{length, drop}
use Rattle.sets.specs.Members.{Members, set_of}
use Rattle.sets.specs.Questions.{questions, part_question, both_questions, part_questions, two_questions, pair_questions}
use Rattle.sets.specs.declared.answers.Part.{Part}
use Rattle.sets.proofs.OutcomeLaws.{given-accepted, given-number}
use Rattle.sets.proofs.QuestionLaws.{first-both, first-yes}
use Rattle.sets.proofs.WriteLaws.{Clipped}
use Rattle.walks.specs.Rules.{first_part}
use Rattle.whole_walks.specs.Walks.{walk_list, first_row, second_row}
use Rattle.whole_walks.specs.declared.walk.Walk.{Walk}
use Rattle.whole_walks.proofs.PartLists.{left_first}
use Rattle.whole_walks.proofs.WalkedLaws.{walked}
use Rattle.next_many.specs.Many.{ManyPair, front_steps, front_pairs}
use Rattle.next_many.specs.Rules.{ManyOutcome, written, many, ManyPairOutcome, many_pair_outcome, written_pair, many_pair}
use Rattle.next_many.specs.declared.answers.NextManyPair.{NextManyPair}
use Rattle.next_many.proofs.LeftLaws.{pairs-take, pairs-drop, pairs-asked}
use Rattle.next_many.proofs.ManyLaws.{pairs_alone}
use Rattle.listing_lines.proofs.TakeLaws.{Took, took}
use Rattle.listings.specs.Fills.{Asked, records_of}
use Rattle.whole_walks.specs.declared.whole.Records.{Records}
use Rattle.listing_lines.specs.Offsets.{all_offsets}
use Rattle.listings.specs.Pages.{walk_left}

-- ---- an accepted call

module _ (out : List ℕ) (one two : Part) where
  pub pair_given : (n : ℕ) (f g : ℕ → Bool) {x : ManyPairOutcome} → x ≡ many_pair n f g one two out → x.number ≡ 0 → x ≡ written_pair out (front_pairs (length out) f g one two)
  pair_given n f g e z =
      (given-accepted (λ (x : ManyPairOutcome). x.number) (λ m. record { number = m; count = 0; one = one; two = two; out = out }) (written_pair out (front_pairs (length out) f g one two)) n (λ m. refl) e z).1

  -- of a walk of one part
  pub alone_given : (n : ℕ) (f : ℕ → Bool) {x : ManyOutcome} {s : NextManyPair} → x ≡ many n f one out
      → s ≡ record { number = x.number; count = x.count; one = x.part; two = two } → s.number ≡ 0
      → many_pair_outcome s x.out ≡ written_pair out (front_pairs (length out) f (λ p. false) one two)
  alone_given n f {x} {s} e d z =
      ap (λ (t : NextManyPair). many_pair_outcome t x.out) d
      ∙ ap (λ (y : ManyOutcome). record { number = y.number; count = y.count; one = y.part; two = two; out = y.out })
      (given-accepted (λ (y : ManyOutcome). y.number) (λ m. record { number = m; count = 0; part = one; out = out }) (written out (front_steps (length out) f one)) n (λ m. refl) e (sym (ap (λ (t : NextManyPair). t.number) d) ∙ z)).1
      ∙ ap (written_pair out) (sym (pairs_alone f (length out) one two))

  -- it is accepted where its questions pass
  pub pair_accepted : (n : ℕ) (f g : ℕ → Bool) {x : ManyPairOutcome} → x ≡ many_pair n f g one two out → n ≡ 0 → x.number ≡ 0
  pair_accepted n f g e z =
      given-number (λ (x : ManyPairOutcome). x.number) (λ m. record { number = m; count = 0; one = one; two = two; out = out }) (written_pair out (front_pairs (length out) f g one two)) n (λ m. refl) refl e ∙ z

  pub alone_accepted : (n : ℕ) (f : ℕ → Bool) {x : ManyOutcome} {s : NextManyPair} → x ≡ many n f one out
      → s ≡ record { number = x.number; count = x.count; one = x.part; two = two } → n ≡ 0 → s.number ≡ 0
  alone_accepted n f e d z =
      ap (λ (t : NextManyPair). t.number) d
      ∙ given-number (λ (y : ManyOutcome). y.number) (λ m. record { number = m; count = 0; part = one; out = out }) (written out (front_steps (length out) f one)) n (λ m. refl) refl e ∙ z

-- ---- the questions of a call

module _ {ws vs : List ℕ} {p : Records} (h : Asked ws vs p) where
  pub ones_asked : part_questions all_offsets ws p.one ≡ 0
  unfolding both_questions
  ones_asked = sym (first-yes (first-both (questions all_offsets ws) (questions all_offsets vs) h.sets).0 (sym h.first))

  pub two-asked : two_questions all_offsets ws all_offsets vs p.one ≡ 0
  two-asked = sym (first-yes h.sets (sym h.first))

  pub pair_asked : pair_questions all_offsets ws all_offsets vs p.one p.two ≡ 0
  pair_asked = sym (first-yes h.sets (first-yes h.first (sym h.second)))

-- ---- the next 64 offsets

module _ (walk : Walk) (a b : Members) (p : Records) where
  pub record Given (after : List ℕ) (r : NextManyPair) : Type 0 where
    pub took : Took 64 (walk_left walk a b p) r.count after
    pub rest : walk_left walk a b (records_of r) ≡ drop 64 (walk_left walk a b p)
    pub again : part_question all_offsets p.one ≡ 0 → part_question all_offsets p.two ≡ 0 → (part_question all_offsets r.one ≡ 0) × (part_question all_offsets r.two ≡ 0)

  pub given_64 : (out : List ℕ) {after : List ℕ} {r : NextManyPair} → length out ≡ 64
      → many_pair_outcome r after ≡ written_pair out (front_pairs (length out) (first_row walk a b) (second_row walk a b) p.one p.two) → Given after r
  unfolding walk_left
  given_64 out {after} {r} n e = record {
    took = took 64 left m.positions out n (pairs-take f g (length out) p.one p.two) (ap (λ (x : ManyPairOutcome). x.count) e) (ap (λ (x : ManyPairOutcome). x.out) e);
    rest = ap₂ (λ (x y : Part). walk_left walk a b (record { one = x; two = y })) (ap (λ (x : ManyPairOutcome). x.one) e) (ap (λ (x : ManyPairOutcome). x.two) e) ∙ pairs-drop f g (length out) p.one p.two ∙ ap (λ (k : ℕ). drop k left) n;
    again = λ x y.
        let g = pairs-asked f g all_offsets all_offsets (length out) p.one p.two x y in
        (ap (λ (x : ManyPairOutcome). part_question all_offsets x.one) e ∙ g.0, ap (λ (x : ManyPairOutcome). part_question all_offsets x.two) e ∙ g.1);
  }
    where
      f : ℕ → Bool
      f = first_row walk a b

      g : ℕ → Bool
      g = second_row walk a b

      left : List ℕ
      left = walk_left walk a b p

      m : ManyPair
      m = front_pairs (length out) f g p.one p.two

-- ---- from the first records on, all of the walk's list is left

pub left_all : (walk : Walk) (a b : Members) → Clipped a → Clipped b → walk_left walk a b (record { one = first_part (set_of a); two = first_part (set_of b) }) ≡ walk_list walk a b
unfolding walk_left
left_all walk a b ca cb = ap₂ ◌++◌ (left_first a (first_row walk a b)) (left_first b (second_row walk a b)) ∙ (walked walk a b ca cb []).parts
