-- What is left to write on the first page is all that is written, and the pieces of a run are that. Assumes nothing.
use mathlib.Core.Path.{◌≡◌, refl, sym, ap, ◌∙◌}
use mathlib.Core.Bool.{Bool, true, false, false≢true}
use mathlib.Core.List.{List, [], ◌++◌, flatten}
use Prim.Native.Nat.{ℕ, ◌<◌}
use native.Mathlib.Omega.{arith}
use lib.ListN.{length, take}
use Rattle.sets.specs.Members.{Members, read}
use Rattle.listing_lines.specs.Offsets.{offsets_of}
use Rattle.pair_listings.specs.Pages.{pairs_text, lines_text, stage_text, rest_text, first_page}
use Rattle.pair_listings.specs.Pieces.{stage_number, PieceRight, work_left, Ready, Run, done, next}
use Rattle.listing_lines.specs.Pieces.{Piece}
use Rattle.pair_listings.specs.declared.jobs.Job.{Job}
use Rattle.listing_lines.specs.declared.pages.Page.{Page}
use Rattle.sets.specs.declared.answers.Part.{Part}
use Rattle.pair_listings.specs.Stages.{is_over}
use Rattle.pair_listings.specs.declared.jobs.Stage.{Stage}
use Rattle.pair_listings.specs.declared.jobs.Stage.TheVariants.{Lines, Last, Over}
use Rattle.listing_lines.proofs.PieceLaws.{left_less}
use Rattle.listing_lines.proofs.OffsetLaws.{few, first-asked}
use Rattle.pair_listings.proofs.WalkLaws.{all_left}

module _ (job : Job) (table : ℕ → ℕ) (ws : List ℕ) where
  abbrev s : Members
  s = offsets_of ws

  -- ---- the first page

  pub first_is : rest_text job table s (first_page job) ≡ pairs_text job table s
  first_is = go job.sheet job.count
    where
      go : (sheet count : Bool) → let j : Job = record { sheet = sheet; count = count } in rest_text j table s (first_page j) ≡ pairs_text j table s
      go sheet true = unfold first_page stage_text pairs_text in refl
      go sheet false = unfold first_page stage_text pairs_text lines_text in ap (lines_text (record { sheet = sheet; count = false }) table s 1) (all_left ws)

  pub first_ready : Ready s (first_page job)
  unfolding first_page read
  first_ready = record { asked = first-asked; places = omega (arith, ap length (all_left ws), few s.has) }

  -- ---- the last page

  pub nothing_left : (page : Page Stage Part) → is_over page.stage ≡ true → rest_text job table s page ≡ []
  unfolding stage_text
  nothing_left page o = go page.stage o
    where
      go : (stage : Stage) → is_over stage ≡ true → stage_text stage job table s page.records page.place ≡ []
      go Over o = refl
      go Lines o = absurd (false≢true o)
      go Last o = absurd (false≢true o)

  -- ---- a run

  pub run_is : {page : Page Stage Part} {texts : List (List ℕ)} → Run job table s page texts → flatten texts ≡ rest_text job table s page
  unfolding flatten stage_text
  run_is {page} (done e) = sym (ap (λ (x : Stage). stage_text x job table s page.records page.place) e)
  run_is (next out r w h rest) = ap (λ (t : List ℕ). take r.length out ++ t) (run_is rest) ∙ h.text w

  -- pieces that are whole, each from the page that the one before it left, from the first page on until nothing is left to write: joined, they are all that is written
  pub pieces_are : {texts : List (List ℕ)} → Run job table s (first_page job) texts → flatten texts ≡ pairs_text job table s
  pieces_are run = run_is run ∙ first_is

  -- each piece leaves less to do, so that a run ends
  pub piece_less : {page : Page Stage Part} {out : List ℕ} {r : Piece Stage Part} → PieceRight job table s page out r → r.whole ≡ true → stage_number page.stage < 2 → work_left job table s r.page < work_left job table s page
  piece_less {out = out} h w i = left_less out _ 2 h.fits (h.text w) i (h.later w) (h.moves w i)
