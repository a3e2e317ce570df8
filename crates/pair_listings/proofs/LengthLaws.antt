-- How long lines of pairs are. Assumes nothing.
use mathlib.Core.Bool.{Bool, true, false, cond}
use mathlib.Core.List.{List, [], ◌∷◌}
use Prim.Native.Nat.{ℕ, ◌+◌, ◌*◌, ◌≤◌}
use native.Mathlib.Omega.{arith}
use lib.Dec.{eqb}
use lib.ListN.{length, length-append}
use Rattle.byte_texts.specs.Ascii.{ascii}
use Rattle.sets.specs.Members.{Members}
use Rattle.two_set_counts.specs.Lists.{ones_list}
use Rattle.listing_lines.specs.Lines.{count_text}
use Rattle.listing_lines.proofs.LengthLaws.{most, place_most, count_most}
use Rattle.pair_listings.specs.Tables.{partner}
use Rattle.pair_listings.specs.Lines.{pair_text, pair_lines_text, pairs_complete_text}
use Rattle.pair_listings.specs.Pages.{last_text}
use Rattle.pair_listings.specs.declared.jobs.Job.{Job}

module _ (sheet : Bool) (total : ℕ) where
  pair_most : (place p q : ℕ) → length (pair_text sheet total place p q) ≤ 84
  unfolding pair_text ascii
  pair_most place p q = simp length-append (omega (arith, place_most sheet false [] [] (omega arith) (omega arith) total place, most p, most q))

  -- a line has its line feed
  pair_least : (place p q : ℕ) → 1 ≤ length (pair_text sheet total place p q)
  unfolding pair_text ascii
  pair_least place p q = simp length-append (omega arith)

  module _ (table : ℕ → ℕ) where
    pub lines_most : (ps : List ℕ) (place : ℕ) → length (pair_lines_text sheet total place table ps) ≤ 84 * length ps
    unfolding pair_lines_text
    lines_most [] place = omega arith
    lines_most (p ∷ ps) place = simp length-append (omega (arith, pair_most place p (partner table p), lines_most ps (place + 1)))

    pub lines-least : (ps : List ℕ) (place : ℕ) → length ps ≤ length (pair_lines_text sheet total place table ps)
    unfolding pair_lines_text
    lines-least [] place = omega arith
    lines-least (p ∷ ps) place = simp length-append (omega (arith, pair_least place p (partner table p), lines-least ps (place + 1)))

complete_most : (n : ℕ) → length (pairs_complete_text n) ≤ 39
unfolding pairs_complete_text ascii
complete_most n = simp length-append (omega (arith, most n, go (eqb n 1)))
  where
    go : (t : Bool) → length (cond t (ascii " pair\n") (ascii " pairs\n")) ≤ 7
    go true = omega arith
    go false = omega arith

-- the last line
pub last_most : (job : Job) (s : Members) → length (last_text job s) ≤ 39
unfolding last_text
last_most job s = go job.count
  where
    go : (t : Bool) → length (cond t (count_text (length (ones_list s))) (pairs_complete_text (length (ones_list s)))) ≤ 39
    go true = omega (arith, count_most (length (ones_list s)))
    go false = complete_most (length (ones_list s))
