-- What a command writes, from the sets of its files, their names as they are shown, and the options; and what is left of it on the way.
use Rattle.std.specs.Prelude.{true, false, cond, List, [], ◌++◌, ℕ, ◌+◌, length}
use Rattle.sets.specs.Members.{Members}
use Rattle.two_set_counts.specs.Lists.{ones_list, difference_list}
use Rattle.walks.specs.Rules.{first_part}
use Rattle.whole_walks.proofs.WalkSteps.{both_left}
use Rattle.whole_walks.specs.Walks.{walk_list, first_row, second_row}
use Rattle.whole_walks.specs.declared.walk.Walk.{Walk}
use Rattle.whole_walks.specs.declared.walk.Walk.TheVariants.{Difference}
use Rattle.listing_lines.specs.Offsets.{all_offsets}
use Rattle.listing_lines.specs.Lines.{lines_text, complete_text, count_text, verdict_text}
use Rattle.listings.specs.declared.jobs.Job.{Job}
use Rattle.listing_lines.specs.declared.pages.Page.{Page}
use Rattle.whole_walks.specs.declared.whole.Records.{Records}
use Rattle.listings.specs.declared.jobs.Stage.{Stage}
use Rattle.listings.specs.declared.jobs.Stage.TheVariants.{First, Second, Last, Over}

-- a list: its offsets are the walk's list
unfoldable pub list_text : Job → Members → Members → List ℕ
list_text job a b =
    cond job.count (count_text (length (walk_list job.walk a b)))
    (lines_text job.sheet false [] [] (length (walk_list job.walk a b)) 1 (walk_list job.walk a b) ++ complete_text (length (walk_list job.walk a b)))

-- a comparison: the offsets that only the first file has, those that only the other has, and the verdict
unfoldable pub compare_text : Job → List ℕ → List ℕ → Members → Members → List ℕ
compare_text job name other a b =
    cond job.count []
    (lines_text job.sheet true name other (length (difference_list a b) + length (difference_list b a)) 1 (difference_list a b)
    ++ lines_text job.sheet true other name (length (difference_list a b) + length (difference_list b a)) (1 + length (difference_list a b)) (difference_list b a))
    ++ verdict_text job.several name other (length (ones_list a)) (length (ones_list b)) (length (difference_list a b)) (length (difference_list b a))

unfoldable pub job_text : Job → List ℕ → List ℕ → Members → Members → List ℕ
job_text job name other a b = cond job.compare (compare_text job name other a b) (list_text job a b)

-- ---- on the way

-- the records before any step, and what is left of a walk at its records
abbrev pub first_records : Records
first_records = record { one = first_part all_offsets; two = first_part all_offsets }

unfoldable pub walk_left : Walk → Members → Members → Records → List ℕ
walk_left walk a b p = both_left (first_row walk a b) (second_row walk a b) p.one p.two

-- the walk of the first lines, and how many lines there are in all
unfoldable pub first_walk : Job → Walk
first_walk job = cond job.compare Difference job.walk

unfoldable pub total_of : Job → Members → Members → ℕ
total_of job a b = cond job.compare (length (difference_list a b) + length (difference_list b a)) (length (walk_list job.walk a b))

-- the last line
unfoldable pub last_text : Job → List ℕ → List ℕ → Members → Members → List ℕ
last_text job name other a b =
    cond job.compare (verdict_text job.several name other (length (ones_list a)) (length (ones_list b)) (length (difference_list a b)) (length (difference_list b a)))
    (cond job.count (count_text (length (walk_list job.walk a b))) (complete_text (length (walk_list job.walk a b))))

-- the second lines from a place on, and the last; what follows the first lines
unfoldable pub second_text : Job → List ℕ → List ℕ → Members → Members → ℕ → List ℕ → List ℕ
second_text job name other a b place ps = lines_text job.sheet true other name (total_of job a b) place ps ++ last_text job name other a b

unfoldable pub follow_text : Job → List ℕ → List ℕ → Members → Members → ℕ → List ℕ
follow_text job name other a b place = cond job.compare (second_text job name other a b place (difference_list b a)) (last_text job name other a b)

unfoldable pub first_text : Job → List ℕ → List ℕ → Members → Members → ℕ → List ℕ → List ℕ
first_text job name other a b place ps = lines_text job.sheet job.compare name other (total_of job a b) place ps ++ follow_text job name other a b (place + length ps)

unfoldable pub stage_text : Stage → Job → List ℕ → List ℕ → Members → Members → Records → ℕ → List ℕ
stage_text First job name other a b p place = first_text job name other a b place (walk_left (first_walk job) a b p)
stage_text Second job name other a b p place = second_text job name other a b place (walk_left Difference b a p)
stage_text Last job name other a b p place = last_text job name other a b
stage_text Over job name other a b p place = []

-- what is left to write on a page
abbrev pub rest_text : Job → List ℕ → List ℕ → Members → Members → Page Stage Records → List ℕ
rest_text job name other a b page = stage_text page.stage job name other a b page.records page.place

-- the page before any line: the counts alone are the last line
unfoldable pub first_page : Job → Page Stage Records
first_page job = record { stage = cond job.count Last First; records = first_records; place = 1 }
