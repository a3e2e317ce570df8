-- The pairs of a file without a bad line, and its tables. Assumes nothing.
use mathlib.Core.Path.{◌≡◌, refl, sym, ap, ◌∙◌}
use mathlib.Core.Bool.{Bool, true, false, cond, ◌&&◌, ◌||◌, and_comm, true≢false}
use mathlib.Core.List.{List, [], ◌∷◌, ◌++◌}
use Prim.Native.Nat.{ℕ, ◌+◌, ◌*◌, ◌≤◌, ◌<◌}
use native.Mathlib.Omega.{arith}
use borrow.Author.Tests.{eqb-true, ltb-true}
use lib.Dec.{eqb, ltb}
use lib.ListN.{length, get_or, length-append}
use Rattle.byte_texts.specs.Ascii.{ascii}
use Rattle.edits.specs.Edits.{is_in}
use Rattle.renumber_steps.specs.Pairs.{olds, news, repeats}
use Rattle.renumber_steps.specs.declared.pair.Pair as Pairs
use Rattle.text_lines.specs.Texts.{more, body_of}
use Rattle.text_lines.specs.Messages.{bad_text}
use Rattle.pair_lines.specs.Lines.{pair_line_of}
use Rattle.std.specs.Prelude.{Result, Ok, Err}
use Rattle.offset_lines.specs.declared.entry.Entry.{Entry}
use Rattle.offset_lines.specs.declared.entry.Entry.TheVariants.{Blank, Item, Says}
use Rattle.offset_lines.specs.declared.entry.Fault.{Fault}
use Rattle.pair_lines.specs.declared.pair.Pair.{Pair}
use Rattle.pair_lines.proofs.LineLaws.{pair_below}
use Rattle.pair_files.specs.Messages.{faults_text, wrong_count}
use Rattle.pair_files.specs.Files.{PairFile, no_pairs, no_text, blank_line, bad, bad_line, with_word, named, accepted, pair_line, said_line, entry_line, take_pair, pair_file_of}
use Rattle.pair_files.specs.Holds.{HoldsPairs}
use Rattle.pair_files.specs.Good.{is_pair, has_word, names, GoodPairs}
use Rattle.pair_files.specs.declared.reader.PairReader.{PairReader}
use Rattle.pair_file_laws.proofs.ListLaws.{in_more, olds-more, news-more, pair_more, at_most, length-olds}
use Rattle.pair_file_laws.proofs.SideLaws.{Side, side_more}
use Rattle.pair_file_laws.proofs.KeepLaws.{text_keeps}

-- ---- the two sides, and one pair more

module _ (list : List Pairs.Pair) (to from : ℕ → ℕ) (size : ℕ) (g : GoodPairs list to from size) where
  pub to_side : Side (olds list) (is_pair list) to
  to_side = record { once = g.olds-once; below = g.olds_below; some = g.to_some; word = g.to_new }

  pub from_side : Side (news list) (λ q p. is_pair list p q) from
  from_side = record { once = g.news-once; below = g.news_below; some = g.from_some; word = g.from_old }

  module _ (k old new : ℕ) (line : 0 < k) (l : old < 65536) (m : new < 65536) (a : to old ≡ 0) (b : from new ≡ 0) (fits : new < size) where
    abbrev added : List Pairs.Pair
    added = list ++ (record { old = old; new = new } ∷ [])

    to_added : Side (olds added) (is_pair added) (with_word to old (k * 65536 + new))
    to_added =
        side_more (olds list) (is_pair list) to to_side old new k l m line a (olds added) (is_pair added) (olds-more list (record { old = old; new = new }))
        (pair_more list (record { old = old; new = new }))

    from_added : Side (news added) (λ q p. is_pair added p q) (with_word from new (k * 65536 + old))
    from_added =
        side_more (news list) (λ q p. is_pair list p q) from from_side new old k m l line b (news added) (λ q p. is_pair added p q) (news-more list (record { old = old; new = new }))
        (λ q p. pair_more list (record { old = old; new = new }) p q ∙ ap (λ (t : Bool). is_pair list p q || t) (and_comm (eqb old p) (eqb new q)))

    fits_added : (q : ℕ) → is_in (news added) q ≡ true → q < size
    fits_added q e = go (is_in (news list) q) refl (sym (ap (λ (ps : List ℕ). is_in ps q) (news-more list (record { old = old; new = new })) ∙ in_more (news list) new q) ∙ e)
      where
        go : (t : Bool) → is_in (news list) q ≡ t → (t || eqb new q) ≡ true → q < size
        go true d c = g.news_fit q d
        go false d c = let z = eqb-true new q c in omega arith

    pub good_more : GoodPairs added (with_word to old (k * 65536 + new)) (with_word from new (k * 65536 + old)) size
    good_more = record {
      olds-once = to_added.once;
      news-once = from_added.once;
      olds_below = to_added.below;
      news_below = from_added.below;
      news_fit = fits_added;
      to_some = to_added.some;
      to_new = to_added.word;
      from_some = from_added.some;
      from_old = from_added.word;
    }

  -- they are at most 65,536
  pub list_short : length list ≤ 65536
  list_short = let e = length-olds list in let l = at_most 65536 (olds list) g.olds-once g.olds_below in omega arith

-- ---- line by line

pub record Fair (size : ℕ) (f : PairFile) : Type 0 where
  pub good : f.bads ≡ 0 → GoodPairs f.list f.to f.from size
  pub counted : f.bads ≡ 0 → f.pairs ≡ length f.list

module _ (size : ℕ) where
  fair_none : Fair size no_pairs
  unfolding olds news repeats is_in is_pair has_word names
  fair_none = record {
    good = λ z. record {
      olds-once = refl;
      news-once = refl;
      olds_below = λ p e. absurd (true≢false (sym e));
      news_below = λ q e. absurd (true≢false (sym e));
      news_fit = λ q e. absurd (true≢false (sym e));
      to_some = λ p l. refl;
      to_new = λ p l q. refl;
      from_some = λ q l. refl;
      from_old = λ q l p. refl;
    };
    counted = λ z. refl;
  }

  fair_blank : (f : PairFile) → Fair size f → Fair size (blank_line f)
  unfolding blank_line
  fair_blank f h = record { good = h.good; counted = h.counted }

  fair_bad : (text : List ℕ) (f : PairFile) → Fair size (bad text f)
  unfolding bad more
  fair_bad text f = record { good = λ z. absurd (omega arith); counted = λ z. absurd (omega arith) }

  fair_bad-line : (name body reason : List ℕ) (f : PairFile) → Fair size (bad_line name body reason f)
  unfolding bad_line
  fair_bad-line name body reason f = fair_bad (bad_text name (more f.lines) reason body) (blank_line f)

  fair_accepted : (f : PairFile) (old new : ℕ) → old < 65536 → new < 65536 → f.to old ≡ 0 → f.from new ≡ 0 → new < size → Fair size f → Fair size (accepted old new (named old new f))
  unfolding accepted named more
  fair_accepted f old new l m a b fits h = record {
    good = λ z. good_more f.list f.to f.from size (h.good z) (more f.lines) old new (omega arith) l m a b fits;
    counted = λ z.
        let c = h.counted z in
        let s = list_short f.list f.to f.from size (h.good z) in
        let e = length-append f.list (record { old = old; new = new } ∷ []) in
        omega arith;
  }

  module _ (name body : List ℕ) (f : PairFile) (h : Fair size f) where
    fair_pair : (old new : ℕ) → old < 65536 → new < 65536 → Fair size (pair_line name body size old new f)
    unfolding pair_line
    fair_pair old new l m = go f.said (eqb (f.to old) 0) (eqb (f.from new) 0) (ltb new size) refl refl refl
      where
        go : (said a b c : Bool) → eqb (f.to old) 0 ≡ a → eqb (f.from new) 0 ≡ b → ltb new size ≡ c
            → Fair size
            (cond said (bad_line name body (ascii "a pair behind the last line of a list") f)
            (cond (a && (b && c)) (accepted old new (named old new f)) (bad (faults_text name (more f.lines) size old new (f.to old) (f.from new)) (named old new f))))
        go true a b c d e g = fair_bad-line name body (ascii "a pair behind the last line of a list") f
        go false true true true d e g = fair_accepted f old new l m (eqb-true (f.to old) 0 d) (eqb-true (f.from new) 0 e) (ltb-true new size g) h
        go false true true false d e g = fair_bad _ (named old new f)
        go false true false c d e g = fair_bad _ (named old new f)
        go false false b c d e g = fair_bad _ (named old new f)

    fair_said : (n : ℕ) → Fair size (said_line name body n f)
    unfolding said_line
    fair_said n = closed (go (eqb n f.pairs))
      where
        closed : {g : PairFile} → Fair size g
            → Fair size (record { lines = g.lines; to = g.to; from = g.from; list = g.list; pairs = g.pairs; said = true; bads = g.bads; report = g.report })
        closed k = record { good = k.good; counted = k.counted }

        go : (t : Bool) → Fair size (cond t (blank_line f) (bad_line name body (wrong_count n f.pairs) f))
        go true = fair_blank f h
        go false = fair_bad-line name body (wrong_count n f.pairs) f

    fair_entry : (e : Result (Entry Pair) Fault) → ((x : Pair) → e ≡ Ok (Item x) → (x.old < 65536) × (x.new < 65536)) → Fair size (entry_line name body size e f)
    unfolding entry_line
    fair_entry (Ok Blank) small = fair_blank f h
    fair_entry (Ok (Item x)) small = let s = small x refl in fair_pair x.old x.new s.0 s.1
    fair_entry (Ok (Says n)) small = fair_said n
    fair_entry (Err fault) small = fair_bad-line name body _ f

  fair_line : (name line : List ℕ) (f : PairFile) → Fair size f → Fair size (take_pair name size line f)
  unfolding take_pair
  fair_line name line f h = fair_entry name (body_of f.lines line) f h (pair_line_of (body_of f.lines line)) (pair_below (body_of f.lines line))

  fair_file : (name text : List ℕ) → Fair size (pair_file_of name size text)
  unfolding pair_file_of
  fair_file name text = text_keeps (take_pair name size) (Fair size) (fair_line name) no_text text fair_none

-- ---- the whole file

module _ (name : List ℕ) (size : ℕ) (text : List ℕ) (none : (pair_file_of name size text).bads ≡ 0) where
  -- no offset of a side stands twice, every new offset is below the length, and the tables have the other offset of each pair
  pub good-file : GoodPairs (pair_file_of name size text).list (pair_file_of name size text).to (pair_file_of name size text).from size
  good-file = (fair_file size name text).good none

  -- and the pairs are counted
  pub pairs-counted : (pair_file_of name size text).pairs ≡ length (pair_file_of name size text).list
  pairs-counted = (fair_file size name text).counted none

-- the tables that are held are as good
pub held_good : {f : PairFile} {r : PairReader} (size : ℕ) → HoldsPairs f r → GoodPairs f.list f.to f.from size
    → GoodPairs f.list (λ p. get_or r.to.now p 0) (λ q. get_or r.from.now q 0) size
held_good size h g = record {
  olds-once = g.olds-once;
  news-once = g.news-once;
  olds_below = g.olds_below;
  news_below = g.news_below;
  news_fit = g.news_fit;
  to_some = λ p l. ap has_word (h.to-words p l) ∙ g.to_some p l;
  to_new = λ p l q. ap (λ (w : ℕ). names w q) (h.to-words p l) ∙ g.to_new p l q;
  from_some = λ q l. ap has_word (h.from-words q l) ∙ g.from_some q l;
  from_old = λ q l p. ap (λ (w : ℕ). names w p) (h.from-words q l) ∙ g.from_old q l p;
}
