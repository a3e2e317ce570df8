-- The new offset of a pair, and the table of a list of good pairs. Assumes nothing.
use mathlib.Core.Path.{◌≡◌, refl, sym, ap, ◌∙◌}
use mathlib.Core.Bool.{Bool, true, false, cond, ◌&&◌, ◌||◌, true≢false}
use mathlib.Core.List.{List, [], ◌∷◌}
use Prim.Native.Nat.{ℕ, ◌%◌, ◌<◌}
use borrow.Author.Tests.{eqb-true, eq-eqb}
use lib.Dec.{eqb}
use Rattle.sets.specs.Members.{set_of, empty}
use Rattle.sets.specs.Questions.{positions_question}
use Rattle.sets.proofs.QuestionLaws.{first-yes, position_yes}
use Rattle.edits.specs.Edits.{is_in}
use Rattle.renumber_steps.specs.Pairs.{olds, news, repeats, sided_pair, sided, swapped}
use Rattle.renumber_steps.specs.declared.pair.Pair.{Pair}
use Rattle.renumber_steps.proofs.PairListLaws.{swapped-olds}
use Rattle.pair_files.specs.Good.{is_pair, GoodPairs}
use Rattle.pair_file_laws.proofs.ListLaws.{neither}
use Rattle.pair_file_laws.proofs.SideLaws.{absent, present}
use Rattle.pair_file_laws.proofs.GoodLaws.{to_side, from_side}
use Rattle.pair_listing_laws.specs.Lists.{new_of, TableOf}

-- the old offset of a pair is an old offset
pair_in : (list : List Pair) (p q : ℕ) → is_pair list p q ≡ true → is_in (olds list) p ≡ true
unfolding is_pair olds is_in
pair_in [] p q e = absurd (true≢false (sym e))
pair_in (x ∷ xs) p q e = go (eqb x.old p) (eqb x.new q) (pair_in xs p q) e
  where
    go : (s t : Bool) → (is_pair xs p q ≡ true → is_in (olds xs) p ≡ true) → ((s && t) || is_pair xs p q) ≡ true → (s || is_in (olds xs) p) ≡ true
    go true t later d = refl
    go false t later d = later d

-- where no old offset stands twice, the new offset of a pair is that of the first pair with its old offset
pub new_is : (list : List Pair) → repeats (olds list) ≡ false → (p q : ℕ) → is_pair list p q ≡ true → new_of list p ≡ q
unfolding is_pair olds repeats new_of
new_is [] once p q e = absurd (true≢false (sym e))
new_is (x ∷ xs) once p q e =
    let h = neither (is_in (olds xs) x.old) (repeats (olds xs)) once in
    go (eqb x.old p) (eqb x.new q) refl refl h.0 (new_is xs h.1 p q) e
  where
    go : (s t : Bool) → eqb x.old p ≡ s → eqb x.new q ≡ t → is_in (olds xs) x.old ≡ false → (is_pair xs p q ≡ true → new_of xs p ≡ q)
        → ((s && t) || is_pair xs p q) ≡ true → cond s x.new (new_of xs p) ≡ q
    go true true a b alone later d = eqb-true x.new q b
    go true false a b alone later d = absurd (true≢false (sym (pair_in xs p q d) ∙ ap (is_in (olds xs)) (sym (eqb-true x.old p a)) ∙ alone))
    go false t a b alone later d = later d

-- a pair that is swapped
pair_swapped : (list : List Pair) (p q : ℕ) → is_pair list p q ≡ true → is_pair (swapped list) q p ≡ true
unfolding is_pair sided sided_pair
pair_swapped [] p q e = e
pair_swapped (x ∷ xs) p q e = go (eqb x.old p) (eqb x.new q) (pair_swapped xs p q) e
  where
    go : (s t : Bool) → (is_pair xs p q ≡ true → is_pair (swapped xs) q p ≡ true) → ((s && t) || is_pair xs p q) ≡ true → ((t && s) || is_pair (swapped xs) q p) ≡ true
    go true true later d = refl
    go true false later d = later d
    go false true later d = later d
    go false false later d = later d

-- 4 is passed by offsets below the length
below_length : (size : ℕ) (qs : List ℕ) → ((q : ℕ) → is_in qs q ≡ true → q < size) → positions_question (set_of (empty size)) qs ≡ 0
unfolding positions_question is_in
below_length size [] h = refl
below_length size (x ∷ xs) h =
    sym (first-yes (position_yes (set_of (empty size)) x (h x (ap (λ (t : Bool). t || is_in xs x) (eq-eqb x x refl)))) (sym (below_length size xs (λ q e. h q (later (eqb x q) e)))))
  where
    later : (t : Bool) {u : Bool} → u ≡ true → (t || u) ≡ true
    later true e = refl
    later false e = e

module _ {list : List Pair} {to from : ℕ → ℕ} {size : ℕ} (g : GoodPairs list to from size) where
  -- their table
  pub good-table : TableOf list to
  good-table = record {
    once = g.olds-once;
    absent = λ p l e. absent (olds list) (is_pair list) to (to_side list to from size g) p l e;
    present = λ p l e.
        let r = present (olds list) (is_pair list) to (to_side list to from size g) p l e in
        (r.0, sym (new_is list g.olds-once p (to p % 65536) r.1));
  }

  -- the table of the way back, with every pair swapped
  pub back-table : TableOf (swapped list) from
  back-table = record {
    once = ap repeats (swapped-olds list) ∙ g.news-once;
    absent = λ q l e. absent (news list) (λ q p. is_pair list p q) from (from_side list to from size g) q l (same_side q e);
    present = λ q l e.
        let r = present (news list) (λ q p. is_pair list p q) from (from_side list to from size g) q l (same_side q e) in
        (r.0, sym (new_is (swapped list) (ap repeats (swapped-olds list) ∙ g.news-once) q (from q % 65536) (pair_swapped list (from q % 65536) q r.1)));
  }
    where
      same_side : (q : ℕ) {t : Bool} → is_in (olds (swapped list)) q ≡ t → is_in (news list) q ≡ t
      same_side q e = ap (λ (qs : List ℕ). is_in qs q) (sym (swapped-olds list)) ∙ e

  -- 4 is passed by every new offset
  pub good_fit : positions_question (set_of (empty size)) (news list) ≡ 0
  good_fit = below_length size (news list) g.news_fit
