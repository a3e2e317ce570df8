-- What is left to write on the first page is all that the command writes, and the pieces of a run are that. Assumes nothing.
use mathlib.Core.Path.{◌≡◌, refl, sym, ap, ◌∙◌}
use mathlib.Core.Bool.{Bool, true, false, false≢true}
use mathlib.Core.List.{List, [], ◌++◌, flatten, append_assoc}
use Prim.Native.Nat.{ℕ, ◌+◌, ◌≤◌, ◌<◌}
use lib.ListN.{length, take}
use Rattle.sets.specs.Members.{Members}
use Rattle.two_set_counts.specs.Lists.{ones_list, difference_list}
use Rattle.whole_walks.specs.Walks.{walk_list}
use Rattle.whole_walks.specs.declared.walk.Walk.{Walk}
use Rattle.whole_walks.specs.declared.walk.Walk.TheVariants.{Difference}
use Rattle.listing_lines.specs.Lines.{lines_text, complete_text, verdict_text}
use Rattle.listing_lines.specs.Offsets.{offsets_of}
use Rattle.listings.specs.Pages.{list_text, compare_text, job_text, first_walk, total_of, last_text, second_text, follow_text, first_text, stage_text, rest_text, first_page}
use Rattle.listing_pieces.specs.Pieces.{stage_number, PieceRight, work_left, Run, done, next}
use Rattle.listings.specs.declared.jobs.Job.{Job}
use Rattle.listing_lines.specs.declared.pages.Page.{Page}
use Rattle.whole_walks.specs.declared.whole.Records.{Records}
use Rattle.listing_lines.specs.Pieces.{Piece}
use Rattle.listings.specs.Stages.{is_over}
use Rattle.listings.specs.declared.jobs.Stage.{Stage}
use Rattle.listings.specs.declared.jobs.Stage.TheVariants.{First, Second, Last, Over}
use Rattle.listing_lines.proofs.LineLaws.{lines_plain}
use Rattle.listing_lines.proofs.PieceLaws.{left_less}
use Rattle.listing_pieces.proofs.SetLaws.{all_left}

module _ (job : Job) (name other ws vs : List ℕ) where
  abbrev a : Members
  a = offsets_of ws

  abbrev b : Members
  b = offsets_of vs

  -- ---- the first page

  first_of : (walk : Walk) (sheet several compare count : Bool)
      → let job : Job = record { walk = walk; compare = compare; sheet = sheet; count = count; several = several } in
      rest_text job name other a b (first_page job) ≡ job_text job name other a b
  unfolding first_page stage_text first_text follow_text second_text last_text first_walk total_of job_text compare_text list_text
  first_of walk sheet several true true = refl
  first_of walk sheet several false true = refl
  first_of walk sheet several true false =
      let total = length (difference_list a b) + length (difference_list b a) in
      let verdict = verdict_text several name other (length (ones_list a)) (length (ones_list b)) (length (difference_list a b)) (length (difference_list b a)) in
      ap (λ (ps : List ℕ). lines_text sheet true name other total 1 ps ++ (lines_text sheet true other name total (1 + length ps) (difference_list b a) ++ verdict)) (all_left ws vs Difference)
      ∙ sym (append_assoc (lines_text sheet true name other total 1 (difference_list a b)) (lines_text sheet true other name total (1 + length (difference_list a b)) (difference_list b a)) verdict)
  first_of walk sheet several false false =
      let total = length (walk_list walk a b) in
      ap (λ (ps : List ℕ). lines_text sheet false name other total 1 ps ++ complete_text total) (all_left ws vs walk)
      ∙ ap (λ (t : List ℕ). t ++ complete_text total) (lines_plain sheet name other total (walk_list walk a b) 1)

  pub first_is : rest_text job name other a b (first_page job) ≡ job_text job name other a b
  first_is = first_of job.walk job.sheet job.several job.compare job.count

  -- ---- the last page

  pub nothing_left : (page : Page Stage Records) → is_over page.stage ≡ true → rest_text job name other a b page ≡ []
  unfolding stage_text
  nothing_left page o = go page.stage o
    where
      go : (stage : Stage) → is_over stage ≡ true → stage_text stage job name other a b page.records page.place ≡ []
      go Over o = refl
      go First o = absurd (false≢true o)
      go Second o = absurd (false≢true o)
      go Last o = absurd (false≢true o)

  -- ---- a run

  pub run_is : {page : Page Stage Records} {texts : List (List ℕ)} → Run job name other a b page texts → flatten texts ≡ rest_text job name other a b page
  unfolding flatten stage_text
  run_is {page} (done e) = sym (ap (λ (s : Stage). stage_text s job name other a b page.records page.place) e)
  run_is (next out r w h rest) = ap (λ (t : List ℕ). take r.length out ++ t) (run_is rest) ∙ h.text w

  -- pieces that are whole, each from the page that the one before it left, from the first page on until nothing is left to write: joined, they are all that the command writes
  pub pieces_are : {texts : List (List ℕ)} → Run job name other a b (first_page job) texts → flatten texts ≡ job_text job name other a b
  pieces_are run = run_is run ∙ first_is

  -- each piece leaves less to do, so that a run ends
  pub piece_less : {page : Page Stage Records} {out : List ℕ} {r : Piece Stage Records} → PieceRight job name other a b page out r → r.whole ≡ true → 16384 ≤ length out → stage_number page.stage < 3
      → work_left job name other a b r.page < work_left job name other a b page
  piece_less {out = out} h w m s = left_less out _ 3 h.fits (h.text w) s (h.later w) (h.moves w m s)
