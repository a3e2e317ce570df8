-- From a page that is ready each piece is whole, and the page after it is ready. Assumes nothing.
use mathlib.Core.Path.{◌≡◌, refl, ap, subst, subst⁻¹}
use mathlib.Core.Bool.{Bool, true, false, cond}
use mathlib.Core.List.{List}
use Prim.Native.Nat.{ℕ, ◌+◌, ◌^◌, ◌≤◌}
use native.Mathlib.Omega.{arith}
use lib.ListN.{length}
use Rattle.sets.specs.Members.{Members}
use Rattle.sets.specs.Questions.{both_questions}
use Rattle.two_set_counts.specs.Lists.{ones_list, difference_list}
use Rattle.whole_walks.specs.Walks.{walk_list}
use Rattle.whole_walks.specs.declared.walk.Walk.TheVariants.{Difference}
use Rattle.byte_texts.specs.Growth.{Appended}
use Rattle.byte_texts.specs.declared.texts.Text.{Text}
use Rattle.listing_lines.specs.Lines.{count_text, complete_text, verdict_text}
use Rattle.listing_lines.specs.Listings.{has_of, lacks_of}
use Rattle.whole_walks.specs.declared.walk.Walk.{Walk}
use Rattle.listings.specs.Fills.{Sure, FilledRight, FilledSure}
use Rattle.listing_lines.specs.Offsets.{all_offsets, offsets_of}
use Rattle.listings.specs.Pages.{first_records, walk_left, first_walk, last_text, first_page}
use Rattle.listing_pieces.specs.Pieces.{after_first, page_after, places_left, places_most, Ready, PieceSure}
use Rattle.listings.specs.Fills.{Filled}
use Rattle.listings.specs.declared.jobs.Job.{Job}
use Rattle.listing_lines.specs.declared.pages.Page.{Page}
use Rattle.whole_walks.specs.declared.whole.Records.{Records}
use Rattle.listings.specs.declared.jobs.Stage.{Stage}
use Rattle.listings.specs.declared.jobs.Stage.TheVariants.{First, Second, Last, Over}
use Rattle.listing_lines.specs.declared.lines.Listing.{Listing}
use Rattle.listing_lines.proofs.LengthLaws.{complete_most, count_most, verdict_most}
use Rattle.listing_lines.proofs.PieceLaws.{short_room}
use Rattle.listing_lines.proofs.OffsetLaws.{first-asked}
use Rattle.listing_pieces.proofs.SetLaws.{difference_small, all_left, walk_small}

-- ---- lines

module _ (job : Job) (ws vs : List ℕ) where
  abbrev a : Members
  a = offsets_of ws

  abbrev b : Members
  b = offsets_of vs

  module _ (walk : Walk) (l : Listing) (us xs : List ℕ) (stage next : Stage)
      (same : (p : Records) → places_left stage job a b p ≡ length (walk_left walk (offsets_of us) (offsets_of xs) p))
      (small : places_left next job a b first_records ≤ 65536)
      (more : places_most stage + 65536 ≤ places_most next) (top : places_most stage ≤ 2 ^ 32) where
    pub lines_sure : {page : Page Stage Records} {out : List ℕ} {r : Filled} → FilledRight walk l (offsets_of us) (offsets_of xs) page.records page.place out r
        → (Sure walk l us xs page.records page.place → FilledSure us xs r) → page.stage ≡ stage
        → both_questions all_offsets us all_offsets xs ≡ 0 → (length (has_of l.missing) ≤ 64) × (length (lacks_of l.missing) ≤ 64) → Ready job a b page
        → PieceSure job a b (record { length = r.length; page = page_after r stage next; whole = r.whole })
    lines_sure {page} {out} {r} h f e q s d = record { whole = sure.whole; ready = go r.over refl }
      where
        before : page.place + length (walk_left walk (offsets_of us) (offsets_of xs) page.records) ≤ places_most stage
        before =
            let p = subst (λ (x : Stage). page.place + places_left x job a b page.records ≤ places_most x) e d.places in
            omega (arith, same page.records)

        sure : FilledSure us xs r
        sure = f (record { asked = record { sets = q; first = d.first; second = d.second }; short = s; places = omega (arith, before) })

        go : (o : Bool) → r.over ≡ o → Ready job a b (page_after r stage next)
        go true o = unfold page_after in rw o record {
          first = first-asked;
          second = first-asked;
          places = omega (arith, before, h.counted sure.whole);
        }
        go false o = unfold page_after in rw o record {
          first = sure.asked.first;
          second = sure.asked.second;
          places = omega (arith, before, h.counted sure.whole, same r.records);
        }

  -- what follows the first lines
  pub follow_few : places_left (after_first job) job a b first_records ≤ 65536
  unfolding after_first places_left
  follow_few = go job.compare
    where
      go : (t : Bool) → places_left (cond t Second Last) job a b first_records ≤ 65536
      go true = subst⁻¹ (λ (ps : List ℕ). length ps ≤ 65536) (all_left vs ws Difference) (difference_small vs ws)
      go false = omega arith

  pub follow_most : places_most First + 65536 ≤ places_most (after_first job)
  unfolding after_first
  follow_most = go job.compare
    where
      go : (t : Bool) → 2 ^ 20 + 65536 ≤ places_most (cond t Second Last)
      go true = omega arith
      go false = omega arith

  -- ---- the last line

  module _ (name other : List ℕ) (s : (length name ≤ 64) × (length other ≤ 64)) where
    last_short : length (last_text job name other a b) ≤ 446
    unfolding last_text
    last_short = go job.compare job.count
      where
        go : (t u : Bool)
            → length (cond t (verdict_text job.several name other (length (ones_list a)) (length (ones_list b)) (length (difference_list a b)) (length (difference_list b a)))
            (cond u (count_text (length (walk_list job.walk a b))) (complete_text (length (walk_list job.walk a b))))) ≤ 446
        go true u = verdict_most name other s.0 s.1 job.several (length (ones_list a)) (length (ones_list b)) (length (difference_list a b)) (length (difference_list b a))
        go false true = omega (arith, count_most (length (walk_list job.walk a b)))
        go false false = omega (arith, complete_most (length (walk_list job.walk a b)))

    pub last_room : {before after : Text} {out : List ℕ} → Appended before after (last_text job name other a b) → before.end ≡ 0 → out ≡ after.out.now → 16384 ≤ length out → length after.out.now ≤ after.end → ⊥
    last_room h z o m n = short_room h z o (omega (arith, last_short)) m n

  module _ {page : Page Stage Records} (d : Ready job a b page) where
    pub last_sure : {end : ℕ} → page.stage ≡ Last → PieceSure job a b (record { length = end; page = record { stage = Over; records = page.records; place = page.place }; whole = true })
    unfolding places_left
    last_sure e = record {
      whole = refl;
      ready = record {
        first = d.first;
        second = d.second;
        places = subst (λ (x : Stage). page.place + places_left x job a b page.records ≤ places_most x) e d.places;
      };
    }

  -- ---- the first page

  pub first_ready : Ready job a b (first_page job)
  unfolding first_page
  first_ready = record { first = first-asked; second = first-asked; places = go job.count }
    where
      go : (t : Bool) → 1 + places_left (cond t Last First) job a b first_records ≤ places_most (cond t Last First)
      go true = unfold places_left in omega arith
      go false = unfold places_left in omega (arith, ap length (all_left ws vs (first_walk job)), walk_small ws vs (first_walk job))
