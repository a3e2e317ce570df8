-- What the next piece has to be.
use Rattle.std.specs.Prelude.{◌≡◌, true, cond, List, [], ◌∷◌, ◌++◌, ◌⊎◌, ℕ, ◌+◌, ◌-◌, ◌^◌, ◌≤◌, ◌<◌, ltb, length, take}
use Rattle.sets.specs.Members.{Members}
use Rattle.sets.specs.Questions.{part_question}
use Rattle.sets.specs.declared.answers.Part.{Part}
use Rattle.listing_lines.specs.Offsets.{all_offsets, offsets_of}
use Rattle.pair_listings.specs.Pages.{members_left, rest_text}
use Rattle.listing_lines.specs.Pieces.{Piece}
use Rattle.pair_listings.specs.declared.jobs.Job.{Job}
use Rattle.listing_lines.specs.declared.pages.Page.{Page}
use Rattle.pair_listings.specs.declared.jobs.Stage.{Stage}
use Rattle.pair_listings.specs.declared.jobs.Stage.TheVariants.{Lines, Last, Over}

-- the stages in order
abbrev pub stage_number : Stage → ℕ
stage_number Lines = 0
stage_number Last = 1
stage_number Over = 2

pub record PieceRight (job : Job) (table : ℕ → ℕ) (s : Members) (page : Page Stage Part) (out : List ℕ) (r : Piece Stage Part) : Type 0 where
  pub fits : r.length ≤ length out
  -- a piece that is whole, and what is left to write after it, are what was left to write before it
  pub text : r.whole ≡ true → take r.length out ++ rest_text job table s r.page ≡ rest_text job table s page
  -- no stage comes again; it writes something, or goes on to a later stage, until the last is over
  pub later : r.whole ≡ true → stage_number page.stage ≤ stage_number r.page.stage
  pub moves : r.whole ≡ true → stage_number page.stage < 2 → (0 < r.length) ⊎ (stage_number page.stage < stage_number r.page.stage)

-- the page after so many lines: fewer than 128 are the last ones
unfoldable pub page_after : Part → ℕ → ℕ → Page Stage Part
page_after part place count = record { stage = cond (ltb count 128) Last Lines; records = part; place = place }

-- the bytes and the stages that are left: each piece leaves fewer
abbrev pub work_left : Job → (ℕ → ℕ) → Members → Page Stage Part → ℕ
work_left job table s page = length (rest_text job table s page) + (2 - stage_number page.stage)

-- a page whose record passes its question and whose places are not absurd
pub record Ready (s : Members) (page : Page Stage Part) : Type 0 where
  pub asked : part_question all_offsets page.records ≡ 0
  pub places : page.place + length (members_left s page.records) ≤ 2 ^ 32

-- from such a page, with a buffer of 16,384 bytes, a piece is whole, and the page after it is such a page
pub record Able (s : Members) (page : Page Stage Part) (out : List ℕ) : Type 0 where
  pub room : 16384 ≤ length out
  pub ready : Ready s page

pub record PieceSure (s : Members) (r : Piece Stage Part) : Type 0 where
  pub whole : r.whole ≡ true
  pub ready : Ready s r.page

-- a piece of a set by its words: it is right, and sure where the page is ready
abbrev pub PieceWell : Job → (ℕ → ℕ) → List ℕ → Page Stage Part → List ℕ → Piece Stage Part → Type 0
PieceWell job table ws page out r = PieceRight job table (offsets_of ws) page out r × (Able (offsets_of ws) page out → PieceSure (offsets_of ws) r)

-- a run of pieces that are whole, each from the page that the one before it left, until nothing is left to write: the bytes of each
pub data Run (job : Job) (table : ℕ → ℕ) (s : Members) : Page Stage Part → List (List ℕ) → Type 0 where
  done : {page : Page Stage Part} → page.stage ≡ Over → Run job table s page []
  next : {page : Page Stage Part} (out : List ℕ) (r : Piece Stage Part) {texts : List (List ℕ)} → r.whole ≡ true → PieceRight job table s page out r
      → Run job table s r.page texts → Run job table s page (take r.length out ∷ texts)
