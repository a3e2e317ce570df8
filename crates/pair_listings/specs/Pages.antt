-- What is written of a set and a table of pairs; and what is left of it on the way.
use Rattle.std.specs.Prelude.{cond, List, [], ◌++◌, ℕ, length}
use Rattle.sets.specs.Members.{Members}
use Rattle.sets.specs.declared.answers.Part.{Part}
use Rattle.two_set_counts.specs.Lists.{ones_list}
use Rattle.walks.specs.Rules.{first_part}
use Rattle.whole_walks.proofs.PartLists.{part_left}
use Rattle.listing_lines.specs.Lines.{count_text}
use Rattle.listing_lines.specs.Offsets.{all_offsets}
use Rattle.pair_listings.specs.Lines.{pair_lines_text, pairs_complete_text}
use Rattle.pair_listings.specs.declared.jobs.Job.{Job}
use Rattle.listing_lines.specs.declared.pages.Page.{Page}
use Rattle.pair_listings.specs.declared.jobs.Stage.{Stage}
use Rattle.pair_listings.specs.declared.jobs.Stage.TheVariants.{Lines, Last, Over}

-- the last line: the count alone, or that the list is complete
unfoldable pub last_text : Job → Members → List ℕ
last_text job s = cond job.count (count_text (length (ones_list s))) (pairs_complete_text (length (ones_list s)))

-- the pair of each member, by rising offsets, and the last line
unfoldable pub pairs_text : Job → (ℕ → ℕ) → Members → List ℕ
pairs_text job table s = cond job.count [] (pair_lines_text job.sheet (length (ones_list s)) 1 table (ones_list s)) ++ last_text job s

-- ---- on the way

-- the lines of a list of members from a place on, and the last line
unfoldable pub lines_text : Job → (ℕ → ℕ) → Members → ℕ → List ℕ → List ℕ
lines_text job table s place ps = pair_lines_text job.sheet (length (ones_list s)) place table ps ++ last_text job s

-- the members that are left at a record
abbrev pub members_left : Members → Part → List ℕ
members_left s part = part_left s.has part

unfoldable pub stage_text : Stage → Job → (ℕ → ℕ) → Members → Part → ℕ → List ℕ
stage_text Lines job table s part place = lines_text job table s place (members_left s part)
stage_text Last job table s part place = last_text job s
stage_text Over job table s part place = []

-- what is left to write on a page
abbrev pub rest_text : Job → (ℕ → ℕ) → Members → Page Stage Part → List ℕ
rest_text job table s page = stage_text page.stage job table s page.records page.place

-- the page before any line: the count alone is the last line
unfoldable pub first_page : Job → Page Stage Part
first_page job = record { stage = cond job.count Last Lines; records = first_part all_offsets; place = 1 }
