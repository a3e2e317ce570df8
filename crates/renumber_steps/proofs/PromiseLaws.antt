-- The counts of both sets are equal, and the way back gives the old set. Assumes nothing.
use mathlib.Core.Path.{◌≡◌, refl, sym, ap, ap₂, ◌∙◌, fun_ext}
use mathlib.Core.Bool.{Bool, true, false, cond, not, ◌&&◌}
use mathlib.Core.List.{List, [], ◌∷◌}
use mathlib.Core.Logic.{◌⊎◌, inl, inr}
use Prim.Native.Nat.{ℕ, zero, suc, ◌^◌, ◌≤◌, ◌<◌}
use native.Mathlib.Omega.{arith}
use Rattle.std.proofs.Math.Bool.{and-false, and_comm}
use lib.ListN.{length, get_or, take, drop}
use lib.Seq.{take_at, drop_at}
use Rattle.word_bits.proofs.Order.{lt-or-le}
use Rattle.sets.specs.Members.{Members, words_of, words_from, read, write, empty, set_of}
use Rattle.sets.specs.Questions.{first, position_question, positions_question}
use Rattle.sets.specs.Outcomes.{Outcome}
use Rattle.sets.specs.declared.fixed_bit_set.FixedBitSet.{FixedBitSet}
use Rattle.sets.proofs.QuestionLaws.{valid_yes, first-yes, first_no, Room, room_yes, position_yes, position_no}
use Rattle.sets.proofs.OutcomeLaws.{given_yes, given-number}
use Rattle.sets.proofs.ReadLaws.{read_above, write_read}
use Rattle.edits.specs.Edits.{is_in}
use Rattle.renumber_steps.specs.Pairs.{olds, news, repeats, arrives, renumbered, swapped}
use Rattle.renumber_steps.specs.Rules.{olds_question, news_question, renumber_questions, renumber_rule}
use Rattle.renumber_steps.specs.Promises.{size, leaves, SameCount, way_back, WayBack}
use Rattle.renumber_steps.specs.declared.pair.Pair.{Pair}
use Rattle.renumber_steps.proofs.PairListLaws.{swapped-olds, swapped-news, arrives_in, there_and_back}
use Rattle.renumber_steps.proofs.NewSetLaws.{has_pair, new_valid, new_read, new_count}
use Rattle.renumber_steps.proofs.AcceptLaws.{Accepted, accepted, accepts, accepted_by}

module _ (set : FixedBitSet) (ws : List ℕ) (ps : List Pair) (n : ℕ) (vs : List ℕ) where
  pub counts_equal : SameCount set ws ps n vs
  counts_equal e =
      let q = accepted_by set ws ps n vs e in
      let a = accepted set ws ps n (length vs) q.0 in
      ap (λ (o : Outcome). size (leaves o)) q.1 ∙ ap size (new_read set ws ps n vs a) ∙ new_count set ws ps n vs a

-- ---- the way back

-- a list that 4 refuses
refused_4 : (set : FixedBitSet) (xs : List ℕ) → (positions_question set xs ≡ 0 → ⊥) → positions_question set xs ≡ 4
unfolding positions_question
refused_4 set [] h = absurd (h refl)
refused_4 set (x ∷ xs) h = go (lt-or-le x set.length) (λ k. refused_4 set xs k)
  where
    go : (x < set.length) ⊎ (set.length ≤ x) → ((positions_question set xs ≡ 0 → ⊥) → positions_question set xs ≡ 4)
        → first (position_question set x) (positions_question set xs) ≡ 4
    go (inl l) k =
        let yes = position_yes set x l in
        sym (first-yes yes (sym (k (λ e. h (sym (first-yes yes (sym e)))))))
    go (inr g) k = sym (first_no (positions_question set xs) (sym (position_no set x g)) (λ z. omega arith))

words-length : (f : ℕ → Bool) (k n : ℕ) → length (words_from f k n) ≡ n
words-length f k zero = refl
words-length f k (suc n) = ap suc (words-length f (suc k) n)

-- the first words of a set written are the same whatever they are written into, and the others stay
module _ (us ws : List ℕ) (m : Members) where
  first-words : take (words_of m.len) (write us m) ≡ take (words_of m.len) (write ws m)
  unfolding write
  first-words = take_at _ _ _ (words-length m.has 0 (words_of m.len)) ∙ sym (take_at _ _ _ (words-length m.has 0 (words_of m.len)))

  later_words : drop (words_of m.len) (write us m) ≡ drop (words_of m.len) us
  unfolding write
  later_words = drop_at _ _ _ (words-length m.has 0 (words_of m.len))

module _ (set : FixedBitSet) (ws : List ℕ) (ps : List Pair) (n : ℕ) (vs us : List ℕ) (a : Accepted set ws ps n (length vs)) (space : words_of set.length ≤ length us) where
  abbrev old : Members
  old = read ws set

  abbrev new : Members
  new = renumbered ps n old

  abbrev back_set : FixedBitSet
  back_set = set_of new

  -- what every question but 4 asks of the way back holds
  back_paired : (x : ℕ) → x < n → ((read (write vs new) (set_of new)).has x && not (is_in (olds (swapped ps)) x)) ≡ false
  unfolding renumbered
  back_paired x l =
      ap₂ (λ (m : Members) (xs : List ℕ). m.has x && not (is_in xs x)) (new_read set ws ps n vs a) (swapped-olds ps) ∙ go (is_in (news ps) x) refl
    where
      go : (b : Bool) → is_in (news ps) x ≡ b → (arrives ps old x && not b) ≡ false
      go true e = and-false (arrives ps old x)
      go false e = ap (λ (b : Bool). b && true) (arrives_in ps old x e)

  back_room : Room set.length (length us)
  back_room = record { small = a.good.small; enough = space }

  -- the members come back
  back_members : renumbered (swapped ps) set.length (read (write vs new) (set_of new)) ≡ old
  unfolding renumbered read
  back_members = ap (λ (h : ℕ → Bool). record { len = set.length; has = h }) (fun_ext (λ x. same x (lt-or-le x set.length)))
    where
      same : (x : ℕ) → (x < set.length) ⊎ (set.length ≤ x) → arrives (swapped ps) (read (write vs new) (set_of new)) x ≡ old.has x
      same x w =
          there_and_back old (read (write vs new) (set_of new)) ps x (λ q. ap (λ (m : Members). m.has q) (new_read set ws ps n vs a)) a.news-once
          ∙ and_comm (is_in (olds ps) x) (old.has x) ∙ end w
        where
          end : (x < set.length) ⊎ (set.length ≤ x) → (old.has x && is_in (olds ps) x) ≡ old.has x
          end (inl l) = has_pair set ws ps n vs a x l
          end (inr g) = ap (λ (b : Bool). b && is_in (olds ps) x) (read_above ws set x g) ∙ sym (read_above ws set x g)

  back-accepted : positions_question set (olds ps) ≡ 0 → Accepted (set_of new) (write vs new) (swapped ps) set.length (length us)
  unfolding renumbered
  back-accepted e = record {
    good = new_valid set ws ps n vs a;
    enough = back_room;
    olds-once = ap repeats (swapped-olds ps) ∙ a.news-once;
    news-once = ap repeats (swapped-news ps) ∙ a.olds-once;
    below = ap (positions_question set) (swapped-news ps) ∙ e;
    paired = back_paired;
  }

  -- where every old offset is below the old length
  back_restored : positions_question set (olds ps) ≡ 0
      → ◌≡◌ {A = Outcome} (renumber_rule (set_of new) (write vs new) (swapped ps) set.length us) (record { number = 0; set = set; words = write us old })
  unfolding read
  back_restored e =
      sym (given_yes (λ m. record { number = m; set = set_of (empty 0); words = us }) (sym (accepts (set_of new) (write vs new) (swapped ps) set.length (length us) (back-accepted e)))
      (ap (λ (m : Members). record { number = 0; set = set_of m; words = write us m }) (sym back_members)))

  -- where one is not
  back-refused : (positions_question set (olds ps) ≡ 0 → ⊥) → renumber_questions (set_of new) (write vs new) (swapped ps) set.length (length us) ≡ 4
  unfolding olds_question news_question
  back-refused h =
      sym (first-yes (sym (first-yes (valid_yes (set_of new) (write vs new) (new_valid set ws ps n vs a)) (sym (room_yes set.length (length us) back_room))))
      (first-yes (ap (λ (xs : List ℕ). cond (repeats xs) 10 0) (swapped-olds ps) ∙ ap (λ (b : Bool). cond b 10 0) a.news-once)
      (first-yes (ap (λ (xs : List ℕ). cond (repeats xs) 11 0) (swapped-news ps) ∙ ap (λ (b : Bool). cond b 11 0) a.olds-once)
      (first_no _ (sym (ap (positions_question set) (swapped-news ps) ∙ refused_4 set (olds ps) h)) (λ z. omega arith)))))

-- the way back, where it is promised
pub back_is : (set : FixedBitSet) (ws : List ℕ) (ps : List Pair) (n : ℕ) (vs us : List ℕ) → (renumber_rule set ws ps n vs).number ≡ 0
    → words_of set.length ≤ length us → positions_question set (olds ps) ≡ 0
    → ◌≡◌ {A = Outcome} (way_back set ws ps n vs us) (record { number = 0; set = set; words = write us (read ws set) })
back_is set ws ps n vs us e space below =
    let q = accepted_by set ws ps n vs e in
    ap (λ (o : Outcome). renumber_rule o.set o.words (swapped ps) set.length us) q.1
    ∙ back_restored set ws ps n vs us (accepted set ws ps n (length vs) q.0) space below

pub way_back_lem : (set : FixedBitSet) (ws : List ℕ) (ps : List Pair) (n : ℕ) (vs us : List ℕ) → ((k : ℕ) → get_or ws k 0 < 2 ^ 64)
    → (renumber_rule set ws ps n vs).number ≡ 0 → words_of set.length ≤ length us → WayBack set ws ps n vs us
unfolding read
way_back_lem set ws ps n vs us fit e space = record {
  restored = λ below.
      let is = back_is set ws ps n vs us e space below in
      record {
        accepted = ap (λ (o : Outcome). o.number) is;
        same_set = ap (λ (o : Outcome). o.set) is;
        same_words = ap (λ (o : Outcome). take (words_of set.length) o.words) is ∙ first-words us ws (read ws set)
            ∙ ap (take (words_of set.length)) (write_read set ws a.good fit);
        rest = ap (λ (o : Outcome). drop (words_of set.length) o.words) is ∙ later_words us ws (read ws set);
      };
  beyond = λ h. ap (λ (o : Outcome). o.number) there
      ∙ given-number (λ (o : Outcome). o.number) (λ m. record { number = m; set = set_of (empty 0); words = us }) _
      (renumber_questions (set_of (renumbered ps n (read ws set))) (write vs (renumbered ps n (read ws set))) (swapped ps) set.length (length us)) (λ m. refl) refl refl
      ∙ back-refused set ws ps n vs us a space h;
}
  where
    q : (renumber_questions set ws ps n (length vs) ≡ 0)
        × (◌≡◌ {A = Outcome} (renumber_rule set ws ps n vs) (record { number = 0; set = set_of (renumbered ps n (read ws set)); words = write vs (renumbered ps n (read ws set)) }))
    q = accepted_by set ws ps n vs e

    a : Accepted set ws ps n (length vs)
    a = accepted set ws ps n (length vs) q.0

    there : way_back set ws ps n vs us ≡ renumber_rule (set_of (renumbered ps n (read ws set))) (write vs (renumbered ps n (read ws set))) (swapped ps) set.length us
    there = ap (λ (o : Outcome). renumber_rule o.set o.words (swapped ps) set.length us) q.1
