-- A piece of lines, the last line, and no piece, by the page before it. Assumes nothing.
use mathlib.Core.Path.{◌≡◌, refl, sym, ap, ap₂, subst, subst⁻¹, ◌∙◌}
use mathlib.Core.Bool.{Bool, true, false, cond, false≢true}
use mathlib.Core.List.{List, [], ◌++◌, append_assoc, append-nil}
use mathlib.Core.Logic.{◌⊎◌, inl, inr}
use Prim.Native.Nat.{ℕ, ◌+◌, ◌-◌, ◌≤◌, ◌<◌, min}
use native.Mathlib.Nat.{le_refl}
use native.Mathlib.Omega.{arith}
use borrow.Author.Tests.{lt-ltb, le-ltb}
use lib.Dec.{ltb}
use lib.ListN.{length, take, drop, length-take, length-drop, take-append-drop}
use Rattle.word_bits.proofs.Order.{lt-or-le}
use Rattle.byte_texts.specs.Growth.{Appended}
use Rattle.byte_texts.specs.declared.texts.Text.{Text}
use Rattle.byte_texts.proofs.GrowthLaws.{appended_as}
use Rattle.std.specs.Prelude.{None}
use Rattle.std.proofs.lemmas.List.{drop_all}
use Rattle.sets.specs.Members.{Members}
use Rattle.two_set_counts.specs.Lists.{ones_list}
use Rattle.listing_lines.specs.Offsets.{offsets_of}
use Rattle.listing_lines.specs.Pieces.{piece_of}
use Rattle.listing_lines.proofs.PieceLaws.{short_room, text_end, text_fits, text_whole}
use Rattle.next_many.specs.declared.answers.NextMany.{NextMany}
use Rattle.pair_listings.specs.Lines.{pair_lines_text}
use Rattle.pair_listings.specs.Pages.{last_text, lines_text, members_left, stage_text, rest_text}
use Rattle.pair_listings.specs.Pieces.{stage_number, page_after, Ready, Able, PieceWell}
use Rattle.pair_listings.specs.declared.jobs.Job.{Job}
use Rattle.listing_lines.specs.declared.pages.Page.{Page}
use Rattle.sets.specs.declared.answers.Part.{Part}
use Rattle.pair_listings.specs.declared.jobs.Stage.{Stage}
use Rattle.pair_listings.specs.declared.jobs.Stage.TheVariants.{Lines, Last, Over}
use Rattle.pair_listings.proofs.LengthLaws.{lines_most, lines-least, last_most}
use Rattle.pair_listings.proofs.LineLaws.{lines-append}
use Rattle.pair_listings.proofs.WalkLaws.{Given}

module _ (job : Job) (table : ℕ → ℕ) (ws : List ℕ) (page : Page Stage Part) where
  abbrev s : Members
  s = offsets_of ws

  -- ---- a piece that is not whole, which no page that is ready comes to

  pub no_piece : {out : List ℕ} → (Able s page out → ⊥) → PieceWell job table ws page out (piece_of page None)
  no_piece f = (record { fits = omega arith; text = λ w. absurd (false≢true w); later = λ w. absurd (false≢true w); moves = λ w i. absurd (false≢true w) }, λ a. absurd (f a))

  -- ---- a text that is the start of what is left, of a page at a stage

  text_piece : {before after : Text} {t out : List ℕ} {next : Page Stage Part} {stage : Stage} → Appended before after t → before.end ≡ 0 → out ≡ after.out.now → after.end < length after.out.now
      → page.stage ≡ stage → t ++ rest_text job table s next ≡ stage_text stage job table s page.records page.place → stage_number stage ≤ stage_number next.stage
      → (0 < length t) ⊎ (stage_number stage < stage_number next.stage) → (Ready s page → Ready s next)
      → PieceWell job table ws page out (record { length = after.end; page = next; whole = true })
  text_piece {out = out} {next} d empty o l e text later moves ready = (
    record {
      fits = text_fits d empty o l;
      text = λ w. ap (λ (xs : List ℕ). xs ++ rest_text job table s next) (text_whole d empty o l) ∙ text ∙ sym (ap (λ (x : Stage). stage_text x job table s page.records page.place) e);
      later = λ w. rw e later;
      moves = λ w i. rw (e, text_end d empty o l) moves;
    },
    λ a. record { whole = refl; ready = ready a.ready },
  )

  -- ---- lines

  module _ {offsets : List ℕ} {r : NextMany} (g : Given ws page.records offsets r) where
    abbrev left : List ℕ
    left = members_left s page.records

    abbrev total : ℕ
    total = length (ones_list s)

    abbrev lines : ℕ → List ℕ → List ℕ
    lines place ps = pair_lines_text job.sheet total place table ps

    abbrev next : Page Stage Part
    next = page_after r.part (page.place + r.count) r.count

    sizes : (r.count ≡ min 128 (length left)) × (length (members_left s r.part) ≡ length left - 128)
    sizes = (g.took.counted ∙ length-take 128 left, ap length g.rest ∙ length-drop 128 left)

    -- what is left after them are the lines of the other members, and the last line
    rest_is : rest_text job table s next ≡ lines (page.place + r.count) (drop 128 left) ++ last_text job s
    unfolding page_after
    rest_is = go (lt-or-le r.count 128)
      where
        at : Bool → List ℕ
        at t = stage_text (cond t Last Lines) job table s r.part (page.place + r.count)

        then : List ℕ → List ℕ
        then ps = lines (page.place + r.count) ps ++ last_text job s

        last : at true ≡ then []
        last = unfold stage_text pair_lines_text in refl

        more : at false ≡ then (members_left s r.part)
        more = unfold stage_text lines_text in refl

        go : (r.count < 128) ⊎ (128 ≤ r.count) → at (ltb r.count 128) ≡ then (drop 128 left)
        go (inl l) = ap at (lt-ltb r.count 128 l) ∙ last ∙ sym (ap then (drop_all 128 left (omega (arith, sizes.0))))
        go (inr m) = ap at (le-ltb r.count 128 m) ∙ more ∙ ap then g.rest

    split : lines page.place (take 128 left) ++ lines (page.place + r.count) (drop 128 left) ≡ lines page.place left
    split =
        ap (λ (k : ℕ). lines page.place (take 128 left) ++ lines (page.place + k) (drop 128 left)) g.took.counted
        ∙ sym (lines-append job.sheet total table (take 128 left) (drop 128 left) page.place) ∙ ap (lines page.place) (take-append-drop 128 left)

    module _ {before after : Text} {n : ℕ} (size : n ≡ total) (empty : before.end ≡ 0) (d : Appended before after (pair_lines_text job.sheet n page.place table (take r.count offsets))) {out : List ℕ} (o : out ≡ after.out.now) where
      put : Appended before after (lines page.place (take 128 left))
      put = appended_as d (ap₂ (λ (k : ℕ) (ps : List ℕ). pair_lines_text job.sheet k page.place table ps) size g.took.offsets)

      pub lines_room : 16384 ≤ length out → length after.out.now ≤ after.end → ⊥
      lines_room m n = short_room put empty o (omega (arith, lines_most job.sheet total table (take 128 left) page.place, length-take 128 left)) m n

      pub lines_piece : page.stage ≡ Lines → {p : Page Stage Part} → p ≡ next → after.end < length after.out.now → PieceWell job table ws page out (record { length = after.end; page = p; whole = true })
      lines_piece e {p} f l =
          subst⁻¹ (λ (p : Page Stage Part). PieceWell job table ws page out (record { length = after.end; page = p; whole = true })) f
          (text_piece put empty o l e (ap (λ (t : List ℕ). lines page.place (take 128 left) ++ t) rest_is ∙ text) (omega arith) (on (lt-or-le r.count 128)) ready)
        where
          text : lines page.place (take 128 left) ++ (lines (page.place + r.count) (drop 128 left) ++ last_text job s) ≡ stage_text Lines job table s page.records page.place
          text = unfold stage_text lines_text in
              sym (append_assoc (lines page.place (take 128 left)) (lines (page.place + r.count) (drop 128 left)) (last_text job s)) ∙ ap (λ (t : List ℕ). t ++ last_text job s) split

          on : (r.count < 128) ⊎ (128 ≤ r.count) → (0 < length (lines page.place (take 128 left))) ⊎ (0 < stage_number next.stage)
          on (inl b) = unfold page_after in inr (subst⁻¹ (λ (t : Bool). 0 < stage_number (cond t Last Lines)) (lt-ltb r.count 128 b) (omega arith))
          on (inr m) = inl (omega (arith, lines-least job.sheet total table (take 128 left) page.place, g.took.counted))

          ready : Ready s page → Ready s next
          ready h = unfold page_after in record { asked = g.again h.asked; places = omega (arith, h.places, sizes.0, sizes.1) }

  -- ---- the last line

  module _ {before after : Text} (d : Appended before after (last_text job s)) (empty : before.end ≡ 0) {out : List ℕ} (o : out ≡ after.out.now) where
    pub last_room : 16384 ≤ length out → length after.out.now ≤ after.end → ⊥
    last_room m n = short_room d empty o (omega (arith, last_most job s)) m n

    pub last_piece : page.stage ≡ Last → after.end < length after.out.now
        → PieceWell job table ws page out (record { length = after.end; page = record { stage = Over; records = page.records; place = page.place }; whole = true })
    unfolding stage_text
    last_piece e l = text_piece d empty o l e (append-nil (last_text job s)) (omega arith) (inr (omega arith)) (λ h. record { asked = h.asked; places = h.places })

  -- ---- nothing is left to write

  pub over_piece : {out : List ℕ} → page.stage ≡ Over → PieceWell job table ws page out (record { length = 0; page = page; whole = true })
  over_piece e = (
    record { fits = omega arith; text = λ w. refl; later = λ w. le_refl (stage_number page.stage); moves = λ w i. absurd (none (subst (λ (x : Stage). stage_number x < 2) e i)) },
    λ a. record { whole = refl; ready = a.ready },
  )
    where
      none : 2 < 2 → ⊥
      none i = omega arith
