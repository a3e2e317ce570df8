-- The pieces of lines, at either stage: what they write, and that they are whole. Assumes nothing.
use mathlib.Core.Path.{◌≡◌, refl, sym, ap, subst, subst⁻¹, ◌∙◌}
use mathlib.Core.Bool.{Bool, true, false, cond}
use mathlib.Core.List.{List, [], ◌++◌}
use Prim.Native.Nat.{ℕ, ◌+◌, ◌≤◌, ◌<◌}
use lib.ListN.{length}
use Rattle.std.specs.Prelude.{Option}
use Rattle.listing_lines.specs.declared.lines.Missing.{Missing}
use native.Mathlib.Omega.{arith}
use Rattle.sets.specs.Members.{Members}
use Rattle.sets.specs.Questions.{both_questions}
use Rattle.two_set_counts.specs.Lists.{difference_list}
use Rattle.whole_walks.specs.declared.walk.Walk.{Walk}
use Rattle.whole_walks.specs.declared.walk.Walk.TheVariants.{Difference}
use Rattle.listing_lines.specs.Lines.{lines_text}
use Rattle.listing_lines.specs.Listings.{is_missing, has_of, lacks_of, listed}
use Rattle.listing_lines.proofs.LineLaws.{lines_plain}
use Rattle.listings.specs.Fills.{Sure, FilledRight, FilledSure}
use Rattle.listing_lines.specs.Offsets.{all_offsets, offsets_of}
use Rattle.listings.specs.Pages.{first_records, walk_left, first_walk, total_of, last_text, second_text, follow_text, first_text, stage_text}
use Rattle.listing_pieces.specs.Pieces.{MissingOf, after_first, page_after, stage_number, places_left, PieceRight, Able, PieceSure}
use Rattle.listings.specs.Fills.{Filled}
use Rattle.listings.specs.declared.jobs.Job.{Job}
use Rattle.listing_lines.specs.declared.pages.Page.{Page}
use Rattle.whole_walks.specs.declared.whole.Records.{Records}
use Rattle.listings.specs.declared.jobs.Stage.{Stage}
use Rattle.listings.specs.declared.jobs.Stage.TheVariants.{First, Second, Last}
use Rattle.listing_lines.specs.declared.lines.Listing.{Listing}
use Rattle.listing_pieces.proofs.PieceLaws.{lines_piece}
use Rattle.listing_pieces.proofs.SetLaws.{both_swap, all_left}
use Rattle.listing_pieces.proofs.SureLaws.{lines_sure, follow_few, follow_most}

pub stage_later : (job : Job) → stage_number First < stage_number (after_first job)
unfolding after_first
stage_later job = go job.compare
  where
    go : (t : Bool) → 0 < stage_number (cond t Second Last)
    go true = omega arith
    go false = omega arith

module _ (job : Job) (name other ws vs : List ℕ) where
  abbrev a : Members
  a = offsets_of ws

  abbrev b : Members
  b = offsets_of vs

  -- the stage after the first lines
  pub follow_is : (place : ℕ) → stage_text (after_first job) job name other a b first_records place ≡ follow_text job name other a b place
  unfolding after_first follow_text
  follow_is place = go job.compare
    where
      go : (t : Bool) → stage_text (cond t Second Last) job name other a b first_records place ≡ cond t (second_text job name other a b place (difference_list b a)) (last_text job name other a b)
      go true = unfold stage_text in ap (second_text job name other a b place) (all_left vs ws Difference)
      go false = unfold stage_text in refl

  abbrev FilledWell : Page Stage Records → List ℕ → Filled → Walk → Listing → List ℕ → List ℕ → Type 0
  FilledWell page out r walk l us xs =
      FilledRight walk l (offsets_of us) (offsets_of xs) page.records page.place out r
      × (Sure walk l us xs page.records page.place → FilledSure us xs r)

  abbrev PieceWell : Page Stage Records → List ℕ → Filled → Page Stage Records → Type 0
  PieceWell page out r p =
      PieceRight job name other a b page out (record { length = r.length; page = p; whole = r.whole })
      × (Able job name other a b page out → PieceSure job a b (record { length = r.length; page = p; whole = r.whole }))

  -- the lines of a listing of the job, and how long its names are
  listed_is : (l : Listing) → l.places.sheet ≡ job.sheet → l.places.total ≡ total_of job a b → MissingOf job name other l.missing
      → (place : ℕ) (ps : List ℕ) → listed l place ps ≡ lines_text job.sheet job.compare name other (total_of job a b) place ps
  listed_is l s n m place ps = go job.compare refl
    where
      go : (t : Bool) → job.compare ≡ t → listed l place ps ≡ lines_text job.sheet job.compare name other (total_of job a b) place ps
      go true e =
          let h = m.named e in
          rw (s, n, m.missing, h.0, h.1) refl
      go false e =
          let h = m.unnamed e in
          rw (s, n, h.0, h.1)
          (ap (λ (t : Bool). lines_text job.sheet t [] [] (total_of job a b) place ps) (m.missing ∙ e) ∙ sym (lines_plain job.sheet name other (total_of job a b) ps place)
          ∙ ap (λ (t : Bool). lines_text job.sheet t name other (total_of job a b) place ps) (sym e))

  names_short : {m : Option Missing} → MissingOf job name other m → (length name ≤ 64) × (length other ≤ 64) → (length (has_of m) ≤ 64) × (length (lacks_of m) ≤ 64)
  names_short {m} h x = go job.compare refl
    where
      go : (t : Bool) → job.compare ≡ t → (length (has_of m) ≤ 64) × (length (lacks_of m) ≤ 64)
      go true e = let g = h.named e in (rw g.0 x.0, rw g.1 x.1)
      go false e = let g = h.unnamed e in (rw g.0 (omega arith), rw g.1 (omega arith))

  module _ {page : Page Stage Records} {out : List ℕ} {r : Filled} {after : Page Stage Records} (ok : both_questions all_offsets ws all_offsets vs ≡ 0) where
    pub first_piece : {l : Listing} {walk : Walk} {stage : Stage} → l.places.sheet ≡ job.sheet → l.places.total ≡ total_of job a b → MissingOf job name other l.missing
        → walk ≡ first_walk job → FilledWell page out r walk l ws vs
        → page.stage ≡ First → stage ≡ after_first job → after ≡ page_after r First stage → PieceWell page out r after
    unfolding stage_text first_text places_left
    first_piece {l} s n m v h e d q =
        let g : FilledWell page out r (first_walk job) l ws vs = subst (λ (w : Walk). FilledWell page out r w l ws vs) v h in
        subst⁻¹ (PieceWell page out r) (q ∙ ap (page_after r First) d) (
          lines_piece job name other a b (first_walk job) l a b First (after_first job) (follow_text job name other a b)
              (λ p place. ap (λ (t : List ℕ). t ++ follow_text job name other a b (place + length (walk_left (first_walk job) a b p))) (sym (listed_is l s n m place (walk_left (first_walk job) a b p))))
              follow_is (stage_later job) g.0 e,
          λ x. lines_sure job ws vs (first_walk job) l ws vs First (after_first job) (λ p. refl) (follow_few job ws vs) (follow_most job ws vs) (omega arith) g.0 g.1 e ok (names_short m x.short) x.ready,
        )

    pub second_piece : {l : Listing} → l.places.sheet ≡ job.sheet → l.places.total ≡ total_of job a b → (is_missing l.missing ≡ true) × (has_of l.missing ≡ other) × (lacks_of l.missing ≡ name)
        → FilledWell page out r Difference l vs ws
        → page.stage ≡ Second → after ≡ page_after r Second Last → PieceWell page out r after
    unfolding stage_text second_text places_left
    second_piece {l} s n m h e q =
        let here : (place : ℕ) (ps : List ℕ) → listed l place ps ≡ lines_text job.sheet true other name (total_of job a b) place ps = λ place ps. rw (s, n, m.0, m.1, m.2) refl in
        subst⁻¹ (PieceWell page out r) q (
          lines_piece job name other a b Difference l b a Second Last (λ place. last_text job name other a b)
              (λ p place. ap (λ (t : List ℕ). t ++ last_text job name other a b) (sym (here place (walk_left Difference b a p)))) (λ place. refl) (omega arith) h.0 e,
          λ x. lines_sure job ws vs Difference l vs ws Second Last (λ p. refl) (omega arith) (omega arith) (omega arith) h.0 h.1 e (both_swap ws vs ok) (rw m.1 x.short.1, rw m.2 x.short.0) x.ready,
        )
