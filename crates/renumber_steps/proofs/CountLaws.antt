-- As many members before as after: both are as many as the pairs of members. Assumes nothing.
use mathlib.Core.Path.{◌≡◌, refl, sym, ap, ap₂, ◌∙◌}
use mathlib.Core.Bool.{Bool, true, false, cond, ◌&&◌, ◌||◌, true≢false}
use mathlib.Core.List.{List, [], ◌∷◌}
use mathlib.Core.Logic.{◌⊎◌, inl, inr}
use Prim.Native.Nat.{ℕ, zero, suc, ◌+◌, ◌≤◌, ◌<◌}
use native.Mathlib.Nat.{add-zero, suc-add, not-suc-le-zero}
use native.Mathlib.Numerals.{add-one}
use native.Mathlib.Omega.{arith}
use borrow.Author.Tests.{ne_eqb, eqb-true, eqb-false}
use lib.Dec.{eqb}
use Rattle.std.proofs.Math.Bool.{and-false}
use lib.ListN.{length}
use Rattle.word_bits.specs.Digits.{one}
use Rattle.word_bits.specs.Counts.{count}
use Rattle.word_bits.proofs.Ones.{count_ext, count_none}
use Rattle.word_bits.proofs.Order.{lt-or-le}
use Rattle.sets.specs.Members.{Members}
use Rattle.sets.specs.Questions.{position_question, positions_question}
use Rattle.sets.specs.declared.fixed_bit_set.FixedBitSet.{FixedBitSet}
use Rattle.sets.proofs.ListQuestionLaws.{positions-both}
use Rattle.sets.proofs.QuestionLaws.{first-yes, first-both, position_yes}
use Rattle.edits.specs.Edits.{is_in}
use Rattle.renumber_steps.specs.Pairs.{olds, news, repeats, arrives}
use Rattle.renumber_steps.specs.declared.pair.Pair.{Pair}
use Rattle.renumber_steps.proofs.PairListLaws.{repeats-both, arrives_in}

-- ---- counting a list with no repeats

-- one place more
count-more : (n x : ℕ) (f : ℕ → Bool) → x < n → f x ≡ false → count n (λ p. eqb x p || f p) ≡ suc (count n f)
unfolding count
count-more zero x f h e = absurd (not-suc-le-zero h)
count-more (suc n) x f h e = go (eqb x n) refl (λ l. count-more n x f l e)
  where
    go : (t : Bool) → eqb x n ≡ t → (x < n → count n (λ p. eqb x p || f p) ≡ suc (count n f))
        → (count n (λ p. eqb x p || f p) + one (t || f n)) ≡ suc (count n f + one (f n))
    go true z k =
        let same = eqb-true x n z in
        ap₂ ◌+◌ (count_ext n (λ p. eqb x p || f p) f (λ p l. ap (λ (b : Bool). b || f p) (ne_eqb x p (λ y. omega arith)))) refl
        ∙ add-one (count n f) ∙ ap suc (sym (add-zero (count n f))) ∙ sym (ap (λ (b : Bool). suc (count n f + one b)) (ap f (sym same) ∙ e))
    go false z k =
        let other = eqb-false x n z in
        ap (λ (a : ℕ). a + one (f n)) (k (omega (arith, h, other))) ∙ suc-add (count n f) (one (f n))

pub count_list : (set : FixedBitSet) (xs : List ℕ) → repeats xs ≡ false → positions_question set xs ≡ 0 → count set.length (is_in xs) ≡ length xs
unfolding is_in
count_list set [] e q = count_none set.length (is_in []) (λ j l. refl)
count_list set (x ∷ xs) e q =
    let twice = repeats-both x xs e in
    let below = positions-both set x xs q in
    count-more set.length x (is_in xs) below.0 twice.0 ∙ ap suc (count_list set xs twice.1 below.1)

-- ---- the pairs of members

unfoldable kept : List Pair → Members → List Pair
kept [] s = []
kept (p ∷ ps) s = cond (s.has p.old) (p ∷ kept ps s) (kept ps s)

-- the old offsets of those are the members that have a pair
kept_olds : (ps : List Pair) (s : Members) (x : ℕ) → is_in (olds (kept ps s)) x ≡ (s.has x && is_in (olds ps) x)
unfolding kept olds is_in
kept_olds [] s x = sym (and-false (s.has x))
kept_olds (p ∷ ps) s x = go (s.has p.old) refl (kept_olds ps s x)
  where
    one_in : (t : Bool) → eqb p.old x ≡ t → s.has p.old ≡ true → (b : Bool) → (t || (s.has x && b)) ≡ (s.has x && (t || b))
    one_in true z h b = sym (ap (λ (c : Bool). c && true) (sym (ap s.has (eqb-true p.old x z)) ∙ h))
    one_in false z h b = refl

    one_out : (t : Bool) → eqb p.old x ≡ t → s.has p.old ≡ false → (b : Bool) → (s.has x && b) ≡ (s.has x && (t || b))
    one_out true z h b = ap (λ (c : Bool). c && b) no ∙ sym (ap (λ (c : Bool). c && true) no)
      where
        no : s.has x ≡ false
        no = ap s.has (sym (eqb-true p.old x z)) ∙ h
    one_out false z h b = refl

    go : (t : Bool) → s.has p.old ≡ t → is_in (olds (kept ps s)) x ≡ (s.has x && is_in (olds ps) x)
        → is_in (olds (cond t (p ∷ kept ps s) (kept ps s))) x ≡ (s.has x && (eqb p.old x || is_in (olds ps) x))
    go true h e = ap (λ (b : Bool). eqb p.old x || b) e ∙ one_in (eqb p.old x) refl h (is_in (olds ps) x)
    go false h e = e ∙ one_out (eqb p.old x) refl h (is_in (olds ps) x)

-- their new offsets are what arrives
kept_news : (ps : List Pair) (s : Members) (q : ℕ) → is_in (news (kept ps s)) q ≡ arrives ps s q
unfolding kept news is_in arrives
kept_news [] s q = refl
kept_news (p ∷ ps) s q = go (s.has p.old) (kept_news ps s q)
  where
    go : (t : Bool) → is_in (news (kept ps s)) q ≡ arrives ps s q → is_in (news (cond t (p ∷ kept ps s) (kept ps s))) q ≡ ((t && eqb p.new q) || arrives ps s q)
    go true e = ap (λ (b : Bool). eqb p.new q || b) e
    go false e = e

kept_within : (ps : List Pair) (s : Members) (q : ℕ) → is_in (news ps) q ≡ false → is_in (news (kept ps s)) q ≡ false
kept_within ps s q e = kept_news ps s q ∙ arrives_in ps s q e

-- they are part of the list
kept_olds-once : (ps : List Pair) (s : Members) → repeats (olds ps) ≡ false → repeats (olds (kept ps s)) ≡ false
unfolding kept olds repeats
kept_olds-once [] s e = refl
kept_olds-once (p ∷ ps) s e =
    let both = repeats-both p.old (olds ps) e in
    go (s.has p.old) (kept_olds-once ps s both.1) (kept_olds ps s p.old ∙ ap (λ (b : Bool). s.has p.old && b) both.0 ∙ and-false (s.has p.old))
  where
    go : (t : Bool) → repeats (olds (kept ps s)) ≡ false → is_in (olds (kept ps s)) p.old ≡ false → repeats (olds (cond t (p ∷ kept ps s) (kept ps s))) ≡ false
    go true r i = ap₂ ◌||◌ i r
    go false r i = r

kept_news-once : (ps : List Pair) (s : Members) → repeats (news ps) ≡ false → repeats (news (kept ps s)) ≡ false
unfolding kept news repeats
kept_news-once [] s e = refl
kept_news-once (p ∷ ps) s e =
    let both = repeats-both p.new (news ps) e in
    go (s.has p.old) (kept_news-once ps s both.1) (kept_within ps s p.new both.0)
  where
    go : (t : Bool) → repeats (news (kept ps s)) ≡ false → is_in (news (kept ps s)) p.new ≡ false → repeats (news (cond t (p ∷ kept ps s) (kept ps s))) ≡ false
    go true r i = ap₂ ◌||◌ i r
    go false r i = r

kept_below : (set : FixedBitSet) (ps : List Pair) (s : Members) → positions_question set (news ps) ≡ 0 → positions_question set (news (kept ps s)) ≡ 0
unfolding kept news positions_question
kept_below set [] s e = refl
kept_below set (p ∷ ps) s e =
    let both = first-both (position_question set p.new) (positions_question set (news ps)) e in
    go (s.has p.old) both.0 (kept_below set ps s both.1)
  where
    go : (t : Bool) → position_question set p.new ≡ 0 → positions_question set (news (kept ps s)) ≡ 0 → positions_question set (news (cond t (p ∷ kept ps s) (kept ps s))) ≡ 0
    go true a b = sym (first-yes a (sym b))
    go false a b = b

-- their old offsets are members, so they are below the length
kept_members : (set : FixedBitSet) (ps : List Pair) (s : Members) → ((x : ℕ) → set.length ≤ x → s.has x ≡ false) → positions_question set (olds (kept ps s)) ≡ 0
unfolding kept olds positions_question
kept_members set [] s c = refl
kept_members set (p ∷ ps) s c = go (s.has p.old) refl (kept_members set ps s c) (lt-or-le p.old set.length)
  where
    go : (t : Bool) → s.has p.old ≡ t → positions_question set (olds (kept ps s)) ≡ 0 → (p.old < set.length) ⊎ (set.length ≤ p.old)
        → positions_question set (olds (cond t (p ∷ kept ps s) (kept ps s))) ≡ 0
    go true h e (inl l) = sym (first-yes (position_yes set p.old l) (sym e))
    go true h e (inr g) = absurd (true≢false (sym h ∙ c p.old g))
    go false h e w = e

sides_length : (ps : List Pair) → length (olds ps) ≡ length (news ps)
unfolding olds news
sides_length [] = refl
sides_length (p ∷ ps) = ap suc (sides_length ps)

-- ---- the counts

pub same_count : (set new : FixedBitSet) (ps : List Pair) (s : Members) → repeats (olds ps) ≡ false → repeats (news ps) ≡ false → positions_question new (news ps) ≡ 0
    → ((x : ℕ) → set.length ≤ x → s.has x ≡ false) → ((x : ℕ) → x < set.length → (s.has x && is_in (olds ps) x) ≡ s.has x)
    → count new.length (arrives ps s) ≡ count set.length s.has
same_count set new ps s once twice below clip paired =
    count_ext new.length (arrives ps s) (is_in (news (kept ps s))) (λ q l. sym (kept_news ps s q))
    ∙ count_list new (news (kept ps s)) (kept_news-once ps s twice) (kept_below new ps s below)
    ∙ sym (sides_length (kept ps s))
    ∙ sym (count_list set (olds (kept ps s)) (kept_olds-once ps s once) (kept_members set ps s clip))
    ∙ count_ext set.length (is_in (olds (kept ps s))) s.has (λ x l. kept_olds ps s x ∙ paired x l)
