-- From a file of pairs that may be used to what is listed with its table. Assumes nothing.
use mathlib.Core.Path.{◌≡◌, refl, sym, ap, ap₂, ◌∙◌}
use mathlib.Core.Bool.{Bool, true, false, cond, ◌||◌}
use mathlib.Core.List.{List}
use Prim.Native.Nat.{ℕ, zero, suc, ◌+◌, ◌≤◌}
use native.Mathlib.Omega.{arith}
use borrow.Author.Tests.{eqb-true}
use lib.Dec.{eqb}
use lib.ListN.{length}
use Rattle.word_bits.specs.Counts.{some, count}
use Rattle.word_bits.specs.Digits.{one}
use Rattle.sets.specs.Members.{words_of, read, write, set_of, empty}
use Rattle.sets.specs.Questions.{first, questions, new_questions}
use Rattle.sets.specs.Outcomes.{Outcome}
use Rattle.sets.proofs.QuestionLaws.{valid_yes, first-yes, room_yes}
use Rattle.sets.proofs.OutcomeLaws.{given_yes}
use Rattle.sets.proofs.ReadLaws.{read_clipped}
use Rattle.sets.proofs.WriteLaws.{Clipped, read-write}
use Rattle.edits.specs.Edits.{is_in}
use Rattle.two_set_counts.specs.Lists.{ones_list}
use Rattle.renumber_steps.specs.Pairs.{news, renumbered, swapped}
use Rattle.renumber_steps.specs.Promises.{leaves}
use Rattle.renumber_steps.specs.Rules.{olds_question, news_question, members_question, renumber_questions, renumber_rule}
use Rattle.renumber_steps.specs.declared.pair.Pair.{Pair}
use Rattle.renumber_steps.proofs.PairListLaws.{arrives_in}
use Rattle.pair_files.specs.Files.{pair_file_of}
use Rattle.pair_files.specs.Good.{GoodPairs, has_word, names}
use Rattle.pair_file_laws.proofs.GoodLaws.{good-file}
use Rattle.listing_lines.specs.Offsets.{all_offsets, offsets_of}
use Rattle.pair_listings.specs.Tables.{entry_of, is_unpaired, unpaired_count}
use Rattle.pair_listing_laws.specs.Lists.{TableOf}
use Rattle.pair_listing_laws.proofs.TableLaws.{moved-arrives, members_asked, moved_list}
use Rattle.tool_files.specs.Loading.{UsablePairs}
use Rattle.renumbering_laws.specs.Listed.{Listed}
use Rattle.renumbering_laws.proofs.PairLaws.{good-table, back-table, good_fit}

-- where none is counted there is none
none-counted : (n : ℕ) (f : ℕ → Bool) → count n f ≡ 0 → some n f ≡ false
unfolding count some
none-counted zero f e = refl
none-counted (suc n) f e = go (f n) (none-counted n f) e
  where
    go : (t : Bool) → (count n f ≡ 0 → some n f ≡ false) → count n f + one t ≡ 0 → (some n f || t) ≡ false
    go true below d = absurd (omega arith)
    go false below d = ap (λ (t : Bool). t || false) (below (omega arith))

module _ {list : List Pair} {to from : ℕ → ℕ} {size : ℕ} (g : GoodPairs list to from size) (ws : List ℕ) (long : length ws ≡ 1024) where
  -- 1 to 3 are passed by any 1,024 words
  words_pass : questions all_offsets ws ≡ 0
  unfolding words_of
  words_pass = valid_yes all_offsets ws (record { small = omega arith; enough = omega arith; clean = λ p a b. absurd (omega arith) })

  -- of the questions of `renumber` 6, 7 and 12 are left
  pub asked_last : (room : ℕ) → renumber_questions all_offsets ws list size room ≡ first (new_questions size room) (members_question list (offsets_of ws))
  unfolding olds_question news_question
  asked_last room =
      ap₂ (λ (a b : ℕ). first a b) (sym (first-yes words_pass refl))
      (sym (first-yes (ap (λ (t : Bool). cond t 10 0) g.olds-once) (first-yes (ap (λ (t : Bool). cond t 11 0) g.news-once) (first-yes (good_fit g) refl))))

  small : (offsets_of ws).len ≤ 65536
  unfolding read
  small = omega arith

  renumbered_clipped : Clipped (renumbered list size (offsets_of ws))
  unfolding renumbered
  renumbered_clipped = record { above = λ q l. arrives_in list (offsets_of ws) q (beyond q l (is_in (news list) q) refl) }
    where
      beyond : (q : ℕ) → size ≤ q → (t : Bool) → is_in (news list) q ≡ t → is_in (news list) q ≡ false
      beyond q l true e = absurd (let m = g.news_fit q e in omega arith)
      beyond q l false e = e

  module _ (none : unpaired_count to (offsets_of ws) ≡ 0) where
    12_passes : members_question list (offsets_of ws) ≡ 0
    12_passes =
        members_asked (good-table g) (offsets_of ws) (read_clipped ws all_offsets) small
        ∙ ap (λ (t : Bool). cond t 12 0) (none-counted (offsets_of ws).len (is_unpaired to (offsets_of ws)) none)

    asked : (room : ℕ) → renumber_questions all_offsets ws list size room ≡ new_questions size room
    asked room = asked_last room ∙ ap (λ (b : ℕ). first (new_questions size room) b) 12_passes ∙ or-zero (new_questions size room)
      where
        or-zero : (a : ℕ) → first a 0 ≡ a
        or-zero a = go (eqb a 0) refl
          where
            go : (t : Bool) → eqb a 0 ≡ t → cond t 0 a ≡ a
            go true e = sym (eqb-true a 0 e)
            go false e = refl

    module _ (vs : List ℕ) (most : size ≤ 65536) (room : words_of size ≤ length vs) where
      given_set : ◌≡◌ {A = Outcome} (record { number = 0; set = set_of (renumbered list size (offsets_of ws)); words = write vs (renumbered list size (offsets_of ws)) }) (renumber_rule all_offsets ws list size vs)
      given_set = given_yes (λ m. record { number = m; set = set_of (empty 0); words = vs }) (sym (asked (length vs) ∙ room_yes size (length vs) (record { small = most; enough = room }))) refl

      leaves_set : renumbered list size (offsets_of ws) ≡ leaves (renumber_rule all_offsets ws list size vs)
      leaves_set = sym (read-write vs (renumbered list size (offsets_of ws)) renumbered_clipped) ∙ ap leaves given_set

    pub good-listed : Listed list size to ws
    unfolding renumbered
    good-listed = record {
      asked = asked;
      moved = moved-arrives (good-table g) (offsets_of ws) (read_clipped ws all_offsets) small;
      accepted = λ vs most room. sym (ap (λ (o : Outcome). o.number) (given_set vs most room));
      left = λ vs most room.
          moved_list (good-table g) (offsets_of ws) (read_clipped ws all_offsets) small size (good_fit g) most ∙ ap ones_list (leaves_set vs most room);
    }

-- ---- a file of pairs that may be used

module _ {name : List ℕ} {size : ℕ} {to from : List ℕ} (u : UsablePairs name size to from) where
  -- the pairs that its lines name
  abbrev pub list_of : List Pair
  list_of = (pair_file_of name size u.text).list

  -- no offset of a side stands twice, and every new offset is below the length
  pub usable_good : GoodPairs list_of (entry_of to) (entry_of from) size
  usable_good =
      let g = good-file name size u.text u.good in
      record {
        olds-once = g.olds-once;
        news-once = g.news-once;
        olds_below = g.olds_below;
        news_below = g.news_below;
        news_fit = g.news_fit;
        to_some = λ p l. ap has_word (u.to-words p l) ∙ g.to_some p l;
        to_new = λ p l q. ap (λ (w : ℕ). names w q) (u.to-words p l) ∙ g.to_new p l q;
        from_some = λ q l. ap has_word (u.from-words q l) ∙ g.from_some q l;
        from_old = λ q l p. ap (λ (w : ℕ). names w p) (u.from-words q l) ∙ g.from_old q l p;
      }

  -- `to` is the table of the pairs, and `from` that of the pairs swapped
  pub usable_table : TableOf list_of (entry_of to)
  usable_table = good-table usable_good

  pub usable_back : TableOf (swapped list_of) (entry_of from)
  usable_back = back-table usable_good

  -- so what is listed with that table, where every member has a pair, is what `renumber` gives
  pub what_is_listed : (ws : List ℕ) → length ws ≡ 1024 → unpaired_count (entry_of to) (offsets_of ws) ≡ 0 → Listed list_of size (entry_of to) ws
  what_is_listed ws long none = good-listed usable_good ws long none
