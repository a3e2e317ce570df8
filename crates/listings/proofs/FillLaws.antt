-- What the loop that fills a buffer keeps: what is written, and the lines of what is left, are the lines of the whole. Assumes nothing.
use mathlib.Core.Path.{◌≡◌, refl, sym, ap, ap₂, subst, subst⁻¹, ◌∙◌}
use mathlib.Core.Bool.{true, false≢true}
use mathlib.Core.List.{List, ◌++◌, append_assoc}
use Prim.Native.Nat.{ℕ, ◌+◌, ◌-◌, ◌≤◌, ◌<◌, min}
use native.Mathlib.Omega.{arith}
use lib.ListN.{length, take, drop, length-take, length-drop, take-append-drop}
use Rattle.byte_texts.specs.Texts.{Written, written}
use Rattle.byte_texts.specs.declared.texts.Text.{Text}
use Rattle.byte_texts.proofs.GrowthLaws.{appended_is}
use Rattle.byte_texts.proofs.TextLaws.{written_same, written_room, written-whole}
use Rattle.next_many.specs.declared.answers.NextManyPair.{NextManyPair}
use Rattle.whole_walks.specs.declared.whole.Records.{Records}
use Rattle.sets.specs.Members.{Members}
use Rattle.sets.specs.declared.refusal.Refusal.{Refusal}
use Rattle.std.specs.Prelude.{None, Some, Result}
use Rattle.std.specs.Result.{result_ok}
use Rattle.next_many.specs.Calls.{accepted_pair}
use Rattle.next_many.specs.declared.answers.ManyPair.{ManyPair}
use Rattle.listing_lines.proofs.OkLaws.{taken}
use Rattle.whole_walks.specs.declared.walk.Walk.{Walk}
use Rattle.listing_lines.specs.Listings.{is_missing, has_of, lacks_of, listed}
use Rattle.listings.specs.Fills.{Asked, given_of, records_of, BatchRight, BatchSure, Sure, Filled, filled_of, FilledRight, FilledSure}
use Rattle.listing_lines.specs.Offsets.{offsets_of}
use Rattle.listings.specs.Pages.{walk_left}
use Rattle.listing_lines.specs.declared.lines.Listing.{Listing}
use Rattle.listing_lines.proofs.LengthLaws.{lines_most}
use Rattle.listing_lines.proofs.LineLaws.{lines-append}

module _ (walk : Walk) (l : Listing) (ws vs : List ℕ) where
  abbrev a : Members
  a = offsets_of ws

  abbrev b : Members
  b = offsets_of vs

  -- a batch that is taken by `.ok()?`
  pub taken_right : {p : Records} {place : ℕ} {t u : Text} (r : Result ManyPair Refusal) {m : ManyPair} → Some m ≡ result_ok r
      → ((given_of p r).number ≡ 0 → BatchRight walk l a b p place t u (given_of p r)) → BatchRight walk l a b p place t u (accepted_pair m)
  taken_right {p} {place} {t} {u} r e h =
      subst (λ (x : Result ManyPair Refusal). (given_of p x).number ≡ 0 → BatchRight walk l a b p place t u (given_of p x)) (taken r e) h refl

  pub taken_sure : {p : Records} (r : Result ManyPair Refusal) {m : ManyPair} → Some m ≡ result_ok r
      → (Asked ws vs p → BatchSure ws vs (given_of p r)) → Asked ws vs p → BatchSure ws vs (accepted_pair m)
  taken_sure {p} r e h = subst (λ (x : Result ManyPair Refusal). Asked ws vs p → BatchSure ws vs (given_of p x)) (taken r e) h

  abbrev left : Records → List ℕ
  left p = walk_left walk a b p

  -- ---- a batch

  module _ {p : Records} {place : ℕ} {before after : Text} {r : NextManyPair} (h : BatchRight walk l a b p place before after r) where
    split : listed l place (left p) ≡ listed l place (take 64 (left p)) ++ listed l (place + r.count) (left (records_of r))
    split =
        ap (listed l place) (sym (take-append-drop 64 (left p)))
        ∙ lines-append l.places.sheet (is_missing l.missing) (has_of l.missing) (lacks_of l.missing) l.places.total (take 64 (left p)) (drop 64 (left p)) place
        ∙ ap₂ (λ (k : ℕ) (ps : List ℕ). listed l place (take 64 (left p)) ++ listed l (place + k) ps) (sym h.counted) (sym h.rest)

    sizes : (r.count ≡ min 64 (length (left p))) × (length (left (records_of r)) ≡ length (left p) - 64)
    sizes = (h.counted ∙ length-take 64 (left p), ap length h.rest ∙ length-drop 64 (left p))

    pub batch_most : r.count ≤ 64
    batch_most = omega (arith, sizes.0)

    -- one that is not full is the last, and a full one leaves less
    pub batch_last : r.count < 64 → length (left (records_of r)) ≡ 0
    batch_last b = omega (arith, sizes.0, sizes.1)

    pub batch_less : 64 ≤ r.count → length (left (records_of r)) < length (left p)
    batch_less b = omega (arith, sizes.0, sizes.1)

    -- a batch has room
    pub batch_room : (length (has_of l.missing) ≤ 64) × (length (lacks_of l.missing) ≤ 64) → before.end + 16384 ≤ length before.out.now → after.end < length before.out.now
    unfolding written
    batch_room s k =
        let t = lines_most l.places.sheet (is_missing l.missing) (has_of l.missing) (lacks_of l.missing) s.0 s.1 l.places.total (take 64 (left p)) place in
        omega (arith, t, h.text.end, length-take 64 (left p))

    whole_text : after.end < length before.out.now → take after.end after.out.now ≡ take before.end before.out.now ++ listed l place (take 64 (left p))
    whole_text e =
        let t = listed l place (take 64 (left p)) in
        ap (λ (w : Written). take w.end w.out) (appended_is h.text) ∙ written-whole before.out.now before.end t (written_room before.out.now before.end t (omega (arith, h.text.end)))

  -- ---- the loop

  module _ (p : Records) (place size : ℕ) where
    abbrev FilledWell : List ℕ → Filled → Type 0
    FilledWell out r = FilledRight walk l a b p place out r × (Sure walk l ws vs p place → FilledSure ws vs r)

    pub record Filling (t : Text) (q : Records) (next : ℕ) : Type 0 where
      pub same : length t.out.now ≡ size
      pub inside : t.end ≤ size
      pub text : take t.end t.out.now ++ listed l next (left q) ≡ listed l place (left p)
      pub counted : next + length (left q) ≡ place + length (left p)
      pub asked : Sure walk l ws vs p place → Asked ws vs q

    module _ {t : Text} {q : Records} {next : ℕ} (h : Filling t q next) where
      pub filling_more : {u : Text} {r : NextManyPair} → BatchRight walk l a b q next t u r → (Asked ws vs q → BatchSure ws vs r)
          → u.end < size → Filling u (records_of r) (next + r.count)
      filling_more {u} {r} b ask e = record {
        same = written_same t.out.now t.end _ (appended_is b.text) ∙ h.same;
        inside = omega arith;
        text =
            ap (λ (xs : List ℕ). xs ++ listed l (next + r.count) (left (records_of r))) (whole_text b (omega (arith, h.same)))
            ∙ append_assoc (take t.end t.out.now) (listed l next (take 64 (left q))) (listed l (next + r.count) (left (records_of r)))
            ∙ ap (λ (xs : List ℕ). take t.end t.out.now ++ xs) (sym (split b)) ∙ h.text;
        counted = omega (arith, h.counted, (sizes b).0, (sizes b).1);
        asked = λ s. (ask (h.asked s)).asked;
      }

      pub filling_over : {out : List ℕ} → out ≡ t.out.now → length (left q) ≡ 0 → FilledWell out (record { length = t.end; records = q; place = next; over = true; whole = true })
      filling_over e z = subst⁻¹ (λ (xs : List ℕ). FilledWell xs (record { length = t.end; records = q; place = next; over = true; whole = true })) e (
        record {
          fits = omega (arith, h.same, h.inside);
          text = λ w. h.text;
          counted = λ w. h.counted;
          ended = λ w o. z;
          moves = λ w o. absurd (false≢true (sym o));
        },
        λ s. record { whole = refl; asked = h.asked s },
      )

      -- a batch has room, where that is sure
      pub sure_room : {u : Text} {r : NextManyPair} → BatchRight walk l a b q next t u r → 16384 ≤ size - t.end → Sure walk l ws vs p place → u.end < size
      sure_room b m s = let e = batch_room b s.short (omega (arith, h.same)) in omega (arith, h.same)

    -- nothing is claimed of what is not whole, which nothing that is sure comes to
    pub unfilled : {out : List ℕ} → (Sure walk l ws vs p place → ⊥) → FilledWell out (filled_of p place None)
    unfilled f = (
      record {
        fits = omega arith;
        text = λ w. absurd (false≢true w);
        counted = λ w. absurd (false≢true w);
        ended = λ w o. absurd (false≢true w);
        moves = λ w o m. absurd (false≢true w);
      },
      λ s. absurd (f s),
    )
