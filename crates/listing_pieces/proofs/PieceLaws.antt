-- A piece of lines, the last line, and no piece, by the page before it. Assumes nothing.
use mathlib.Core.Path.{◌≡◌, refl, sym, ap, ap₂, subst⁻¹, ◌∙◌}
use mathlib.Core.Bool.{Bool, true, false, false≢true}
use mathlib.Core.List.{List, [], ◌∷◌, ◌++◌, append_assoc, append-nil}
use mathlib.Core.Logic.{◌⊎◌, inl, inr}
use Prim.Native.Nat.{ℕ, ◌+◌, ◌≤◌, ◌<◌}
use native.Mathlib.Omega.{arith}
use lib.ListN.{length, take}
use Rattle.byte_texts.specs.Growth.{Appended}
use Rattle.byte_texts.specs.declared.texts.Text.{Text}
use Rattle.sets.specs.Members.{Members}
use Rattle.listing_lines.specs.Listings.{listed}
use Rattle.whole_walks.specs.declared.walk.Walk.{Walk}
use Rattle.listings.specs.Fills.{FilledRight}
use Rattle.listing_lines.specs.Lines.{lines_text}
use Rattle.listing_lines.proofs.PieceLaws.{text_fits, text_whole}
use Rattle.listings.specs.Pages.{first_records, walk_left, last_text, stage_text, rest_text}
use Rattle.listing_pieces.specs.Pieces.{page_after, stage_number, PieceRight}
use Rattle.listings.specs.Fills.{Filled}
use Rattle.listings.specs.declared.jobs.Job.{Job}
use Rattle.listing_lines.specs.declared.pages.Page.{Page}
use Rattle.whole_walks.specs.declared.whole.Records.{Records}
use Rattle.listings.specs.declared.jobs.Stage.{Stage}
use Rattle.listings.specs.declared.jobs.Stage.TheVariants.{Last, Over}
use Rattle.listing_lines.specs.declared.lines.Listing.{Listing}

-- ---- what a filled buffer and the text behind its walk are

module _ {walk : Walk} {l : Listing} {c d : Members} {p : Records} {place : ℕ} {out : List ℕ} {r : Filled} (h : FilledRight walk l c d p place out r) (w : r.whole ≡ true) (follow : ℕ → List ℕ) where
  abbrev left : Records → List ℕ
  left q = walk_left walk c d q

  goes : take r.length out ++ (listed l r.place (left r.records) ++ follow (r.place + length (left r.records)))
      ≡ listed l place (left p) ++ follow (place + length (left p))
  goes =
      sym (append_assoc (take r.length out) (listed l r.place (left r.records)) (follow (r.place + length (left r.records))))
      ∙ ap₂ (λ (t : List ℕ) (k : ℕ). t ++ follow k) (h.text w) (h.counted w)

  ends : r.over ≡ true → take r.length out ++ follow r.place ≡ listed l place (left p) ++ follow (place + length (left p))
  unfolding lines_text
  ends o =
      let none : left r.records ≡ [] = nothing (left r.records) (h.ended w o) in
      let k : r.place ≡ place + length (left p) = omega (arith, h.counted w, h.ended w o) in
      let t : take r.length out ≡ listed l place (left p) =
      sym (append-nil (take r.length out)) ∙ ap (λ (ps : List ℕ). take r.length out ++ listed l r.place ps) (sym none) ∙ h.text w in
      ap₂ (λ (x : List ℕ) (i : ℕ). x ++ follow i) t k
    where
      nothing : (ps : List ℕ) → length ps ≡ 0 → ps ≡ []
      nothing [] e = refl
      nothing (p ∷ ps) e = absurd (omega arith)

module _ (job : Job) (name other : List ℕ) (a b : Members) where
  -- ---- lines: what is left to write at a stage are the lines of a walk and what follows

  module _ (walk : Walk) (l : Listing) (c d : Members) (stage next : Stage) (follow : ℕ → List ℕ)
      (here : (p : Records) (place : ℕ) → stage_text stage job name other a b p place ≡ listed l place (walk_left walk c d p) ++ follow (place + length (walk_left walk c d p)))
      (then : (place : ℕ) → stage_text next job name other a b first_records place ≡ follow place)
      (later : stage_number stage < stage_number next) where
    pub lines_piece : {page : Page Stage Records} {out : List ℕ} {r : Filled} → FilledRight walk l c d page.records page.place out r → page.stage ≡ stage
        → PieceRight job name other a b page out (record { length = r.length; page = page_after r stage next; whole = r.whole })
    lines_piece {page} {out} {r} h e = record { fits = h.fits; text = λ w. text w r.over refl; later = λ w. on r.over refl; moves = λ w m s. moves w m r.over refl }
      where
        before : rest_text job name other a b page ≡ listed l page.place (walk_left walk c d page.records) ++ follow (page.place + length (walk_left walk c d page.records))
        before = ap (λ (s : Stage). stage_text s job name other a b page.records page.place) e ∙ here page.records page.place

        after : (o : Bool) → r.over ≡ o → Page Stage Records
        after true q = record { stage = next; records = first_records; place = r.place }
        after false q = record { stage = stage; records = r.records; place = r.place }

        after_is : (o : Bool) (q : r.over ≡ o) → page_after r stage next ≡ after o q
        after_is true q = unfold page_after in rw q
        after_is false q = unfold page_after in rw q

        text : r.whole ≡ true → (o : Bool) → r.over ≡ o → take r.length out ++ rest_text job name other a b (page_after r stage next) ≡ rest_text job name other a b page
        text w true q =
            ap (λ (p : Page Stage Records). take r.length out ++ rest_text job name other a b p) (after_is true q)
            ∙ ap (λ (t : List ℕ). take r.length out ++ t) (then r.place) ∙ ends h w follow q ∙ sym before
        text w false q =
            ap (λ (p : Page Stage Records). take r.length out ++ rest_text job name other a b p) (after_is false q)
            ∙ ap (λ (t : List ℕ). take r.length out ++ t) (here r.records r.place) ∙ goes h w follow ∙ sym before

        on : (o : Bool) → r.over ≡ o → stage_number page.stage ≤ stage_number (page_after r stage next).stage
        on o q = subst⁻¹ (λ (p : Page Stage Records). stage_number page.stage ≤ stage_number p.stage) (after_is o q) (subst⁻¹ (λ (s : Stage). stage_number s ≤ stage_number (after o q).stage) e (go o q))
          where
            go : (o : Bool) (q : r.over ≡ o) → stage_number stage ≤ stage_number (after o q).stage
            go true q = omega (arith, later)
            go false q = omega arith

        moves : r.whole ≡ true → 16384 ≤ length out → (o : Bool) → r.over ≡ o → (0 < r.length) ⊎ (stage_number page.stage < stage_number (page_after r stage next).stage)
        moves w m true q = inr (subst⁻¹ (λ (p : Page Stage Records). stage_number page.stage < stage_number p.stage) (after_is true q) (subst⁻¹ (λ (s : Stage). stage_number s < stage_number next) e later))
        moves w m false q = inl (h.moves w q m)

  module _ {page : Page Stage Records} where
    -- ---- the last line, where it is there whole

    pub last_piece : {before after : Text} {out : List ℕ} → Appended before after (last_text job name other a b) → before.end ≡ 0 → out ≡ after.out.now → page.stage ≡ Last
        → after.end < length after.out.now → PieceRight job name other a b page out (record { length = after.end; page = record { stage = Over; records = page.records; place = page.place }; whole = true })
    unfolding stage_text
    last_piece {out = out} h z o e l = record {
      fits = text_fits h z o l;
      text = λ w. append-nil (take _ out) ∙ text_whole h z o l ∙ sym (ap (λ (s : Stage). stage_text s job name other a b page.records page.place) e);
      later = λ w. subst⁻¹ (λ (x : Stage). stage_number x ≤ 3) e (omega arith);
      moves = λ w m s. inr (subst⁻¹ (λ (x : Stage). stage_number x < 3) e (omega arith));
    }

    -- ---- a piece that is not whole

    pub no_piece : {out : List ℕ} {next : Page Stage Records} → PieceRight job name other a b page out (record { length = 0; page = next; whole = false })
    no_piece = record { fits = omega arith; text = λ w. absurd (false≢true w); later = λ w. absurd (false≢true w); moves = λ w m s. absurd (false≢true w) }
