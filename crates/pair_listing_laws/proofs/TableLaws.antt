-- What a table of a list of pairs makes of a set is what the list makes of it. Assumes nothing.
use mathlib.Core.Path.{◌≡◌, refl, sym, ap, ap₂, ◌∙◌, fun_ext}
use mathlib.Core.Bool.{Bool, true, false, cond, not, ◌&&◌, ◌||◌, and-false}
use mathlib.Core.List.{List, [], ◌∷◌, ◌++◌, append-nil}
use Prim.Native.Nat.{ℕ, zero, suc, ◌+◌, ◌-◌, ◌≤◌, ◌<◌}
use native.Mathlib.Nat.{add-zero, add-suc, add-sub_of_le}
use native.Mathlib.Omega.{arith}
use borrow.Author.Tests.{ne_eqb}
use lib.Dec.{eqb}
use Rattle.word_bits.specs.Counts.{some}
use Rattle.sets.specs.Members.{Members, set_of, empty}
use Rattle.sets.specs.Questions.{position_question, positions_question}
use Rattle.sets.proofs.QuestionLaws.{first-both, position_below}
use Rattle.sets.proofs.WriteLaws.{Clipped}
use Rattle.edits.specs.Edits.{is_in}
use Rattle.two_set_counts.specs.Lists.{positions, ones_list}
use Rattle.renumber_steps.specs.Pairs.{olds, news, arrives, renumbered}
use Rattle.renumber_steps.specs.Rules.{members_question}
use Rattle.renumber_steps.specs.declared.pair.Pair.{Pair}
use Rattle.pair_listings.specs.Tables.{is_named, partner, moves_to, moved_below, moved_by, is_unpaired}
use Rattle.pair_listing_laws.specs.Lists.{new_of, TableOf}
use Rattle.pair_listing_laws.proofs.SomeLaws.{some_ext}
use Rattle.pair_listing_laws.proofs.ArriveLaws.{arrives_is}

-- no position from n on is in a list
positions_clip : (f : ℕ → Bool) (n : ℕ) → ((q : ℕ) → n ≤ q → f q ≡ false) → (k : ℕ) → positions (n + k) f ≡ positions n f
unfolding positions
positions_clip f n z zero = ap (λ (m : ℕ). positions m f) (add-zero n)
positions_clip f n z (suc k) =
    ap (λ (m : ℕ). positions m f) (add-suc n k)
    ∙ ap (λ (t : Bool). positions (n + k) f ++ cond t ((n + k) ∷ []) []) (z (n + k) (omega arith)) ∙ append-nil (positions (n + k) f) ∙ positions_clip f n z k

-- nothing arrives from n on where every new offset is below n
arrives_below : (n : ℕ) (s : Members) (pairs : List Pair) → positions_question (set_of (empty n)) (news pairs) ≡ 0 → (q : ℕ) → n ≤ q → arrives pairs s q ≡ false
unfolding news positions_question arrives
arrives_below n s [] e q g = refl
arrives_below n s (x ∷ xs) e q g =
    let yes = first-both (position_question (set_of (empty n)) x.new) (positions_question (set_of (empty n)) (news xs)) e in
    let l = position_below (set_of (empty n)) x.new yes.0 in
    ap₂ ◌||◌ (ap (λ (t : Bool). s.has x.old && t) (ne_eqb x.new q (λ z. omega arith)) ∙ and-false (s.has x.old)) (arrives_below n s xs yes.1 q g)

module _ {pairs : List Pair} {to : ℕ → ℕ} (h : TableOf pairs to) where
  named_is : (p : ℕ) → p < 65536 → is_named to p ≡ is_in (olds pairs) p
  named_is p l = go (is_in (olds pairs) p) refl
    where
      go : (t : Bool) → is_in (olds pairs) p ≡ t → is_named to p ≡ is_in (olds pairs) p
      go true e = unfold is_named in ap not (ne_eqb (to p) 0 (h.present p l e).0) ∙ sym e
      go false e = unfold is_named in ap (λ (x : ℕ). not (eqb x 0)) (h.absent p l e) ∙ sym e

  moves_is : (p q : ℕ) → p < 65536 → moves_to to p q ≡ (is_in (olds pairs) p && eqb (new_of pairs p) q)
  unfolding moves_to partner
  moves_is p q l = ap (λ (t : Bool). t && eqb (partner to p) q) (named_is p l) ∙ go (is_in (olds pairs) p) refl
    where
      go : (t : Bool) → is_in (olds pairs) p ≡ t → (t && eqb (partner to p) q) ≡ (t && eqb (new_of pairs p) q)
      go true e = ap (λ (x : ℕ). eqb x q) (h.present p l e).1
      go false e = refl

  module _ (s : Members) (clip : Clipped s) (small : s.len ≤ 65536) where
    -- q is moved to where it arrives by the list
    pub moved-arrives : (q : ℕ) → (moved_by to s).has q ≡ arrives pairs s q
    unfolding moved_below
    moved-arrives q =
        some_ext s.len (λ p. s.has p && moves_to to p q) (λ p. s.has p && (is_in (olds pairs) p && eqb (new_of pairs p) q)) (λ p l. ap (λ (t : Bool). s.has p && t) (moves_is p q (omega arith)))
        ∙ arrives_is s s.len clip.above q pairs h.once

    -- question 12 asks whether some member has no pair in the table
    pub members_asked : members_question pairs s ≡ cond (some s.len (is_unpaired to s)) 12 0
    unfolding members_question is_unpaired
    members_asked =
        ap (λ (t : Bool). cond t 12 0)
        (some_ext s.len (λ p. s.has p && not (is_in (olds pairs) p)) (λ p. s.has p && not (is_named to p)) (λ p l. ap (λ (t : Bool). s.has p && not t) (sym (named_is p (omega arith)))))

    -- ---- the new set as it is listed, where every new offset is below its length

    pub moved_list : (n : ℕ) → positions_question (set_of (empty n)) (news pairs) ≡ 0 → n ≤ 65536 → ones_list (moved_by to s) ≡ ones_list (renumbered pairs n s)
    unfolding moved_below renumbered
    moved_list n below most =
        ap (positions 65536) (fun_ext moved-arrives) ∙ ap (λ (k : ℕ). positions k (arrives pairs s)) (sym (add-sub_of_le most))
        ∙ positions_clip (arrives pairs s) n (arrives_below n s pairs below) (65536 - n)
