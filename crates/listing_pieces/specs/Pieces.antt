-- What the next piece has to be.
use Rattle.std.specs.Prelude.{◌≡◌, true, false, cond, Option, List, [], ◌∷◌, ◌++◌, ◌⊎◌, ℕ, ◌+◌, ◌-◌, ◌^◌, ◌≤◌, ◌<◌, length, take}
use Rattle.sets.specs.Members.{Members}
use Rattle.sets.specs.Questions.{part_question}
use Rattle.two_set_counts.specs.Lists.{ones_list, difference_list}
use Rattle.whole_walks.specs.declared.whole.Records.{Records}
use Rattle.whole_walks.specs.declared.walk.Walk.TheVariants.{Difference}
use Rattle.listing_lines.specs.Offsets.{all_offsets, offsets_of}
use Rattle.listings.specs.Pages.{first_records, walk_left, first_walk, rest_text}
use Rattle.listings.specs.Fills.{Filled}
use Rattle.listing_lines.specs.Listings.{is_missing, has_of, lacks_of}
use Rattle.listing_lines.specs.declared.lines.Missing.{Missing}
use Rattle.listings.specs.declared.jobs.Job.{Job}
use Rattle.listing_lines.specs.Pieces.{Piece}
use Rattle.listing_lines.specs.declared.pages.Page.{Page}
use Rattle.listings.specs.declared.jobs.Stage.{Stage}
use Rattle.listings.specs.declared.jobs.Stage.TheVariants.{First, Second, Last, Over}
use Rattle.verdict_lines.specs.declared.last_lines.Sizes.{Sizes}

-- how many offsets each file has, and how many only one has
abbrev pub sizes_of : Members → Members → Sizes
sizes_of a b = record { name = length (ones_list a); other = length (ones_list b); extra = length (difference_list a b); lacking = length (difference_list b a) }

-- a comparison has second lines
unfoldable pub after_first : Job → Stage
after_first job = cond job.compare Second Last

-- the page after lines
unfoldable pub page_after : Filled → Stage → Stage → Page Stage Records
page_after r stage next =
    cond r.over (record { stage = next; records = first_records; place = r.place }) (record { stage = stage; records = r.records; place = r.place })

-- the stages in order
abbrev pub stage_number : Stage → ℕ
stage_number First = 0
stage_number Second = 1
stage_number Last = 2
stage_number Over = 3

-- the lines of a comparison have the names of its files, those of a list none
pub record MissingOf (job : Job) (name other : List ℕ) (m : Option Missing) : Type 0 where
  pub missing : is_missing m ≡ job.compare
  pub named : job.compare ≡ true → (has_of m ≡ name) × (lacks_of m ≡ other)
  pub unnamed : job.compare ≡ false → (has_of m ≡ []) × (lacks_of m ≡ [])

pub record PieceRight (job : Job) (name other : List ℕ) (a b : Members) (page : Page Stage Records) (out : List ℕ) (r : Piece Stage Records) : Type 0 where
  pub fits : r.length ≤ length out
  -- a piece that is whole, and what is left to write after it, are what was left to write before it
  pub text : r.whole ≡ true → take r.length out ++ rest_text job name other a b r.page ≡ rest_text job name other a b page
  -- no stage comes again; and with room for a batch it writes something, or goes on to a later stage, until the last is over
  pub later : r.whole ≡ true → stage_number page.stage ≤ stage_number r.page.stage
  pub moves : r.whole ≡ true → 16384 ≤ length out → stage_number page.stage < 3 → (0 < r.length) ⊎ (stage_number page.stage < stage_number r.page.stage)

-- the bytes and the stages that are left: each piece leaves fewer
abbrev pub work_left : Job → List ℕ → List ℕ → Members → Members → Page Stage Records → ℕ
work_left job name other a b page = length (rest_text job name other a b page) + (3 - stage_number page.stage)

-- how many lines are left at a stage, and a bound of the places there
unfoldable pub places_left : Stage → Job → Members → Members → Records → ℕ
places_left First job a b p = length (walk_left (first_walk job) a b p)
places_left Second job a b p = length (walk_left Difference b a p)
places_left Last job a b p = 0
places_left Over job a b p = 0

abbrev pub places_most : Stage → ℕ
places_most First = 2 ^ 20
places_most Second = 2 ^ 21
places_most Last = 2 ^ 22
places_most Over = 2 ^ 22

-- a page whose records pass their questions and whose places are within the bound
pub record Ready (job : Job) (a b : Members) (page : Page Stage Records) : Type 0 where
  pub first : part_question all_offsets page.records.one ≡ 0
  pub second : part_question all_offsets page.records.two ≡ 0
  pub places : page.place + places_left page.stage job a b page.records ≤ places_most page.stage

-- from such a page, with names of up to 64 bytes and room for a batch, a piece is whole, and the page after it is such a page
pub record Able (job : Job) (name other : List ℕ) (a b : Members) (page : Page Stage Records) (out : List ℕ) : Type 0 where
  pub short : (length name ≤ 64) × (length other ≤ 64)
  pub room : 16384 ≤ length out
  pub ready : Ready job a b page

pub record PieceSure (job : Job) (a b : Members) (r : Piece Stage Records) : Type 0 where
  pub whole : r.whole ≡ true
  pub ready : Ready job a b r.page

-- a piece of two sets by their words: it is right, and sure where the page is ready
abbrev pub PieceWell : Job → (name other ws vs : List ℕ) → Page Stage Records → List ℕ → Piece Stage Records → Type 0
PieceWell job name other ws vs page out r =
    PieceRight job name other (offsets_of ws) (offsets_of vs) page out r
    × (Able job name other (offsets_of ws) (offsets_of vs) page out → PieceSure job (offsets_of ws) (offsets_of vs) r)

-- a run of pieces that are whole, each from the page that the one before it left, until nothing is left to write: the bytes of each
pub data Run (job : Job) (name other : List ℕ) (a b : Members) : Page Stage Records → List (List ℕ) → Type 0 where
  done : {page : Page Stage Records} → page.stage ≡ Over → Run job name other a b page []
  next : {page : Page Stage Records} (out : List ℕ) (r : Piece Stage Records) {texts : List (List ℕ)} → r.whole ≡ true → PieceRight job name other a b page out r
      → Run job name other a b r.page texts → Run job name other a b page (take r.length out ∷ texts)
