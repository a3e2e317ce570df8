use mathlib.Core.Path.{◌≡◌, ap, ap₂, ◌∙◌}
use Prim.Native.Nat.{ℕ, ◌+◌, ◌-◌, ◌/◌, ◌≤◌}
use lib.ListN.{length, take, drop}
use Rattle.std.proofs.Common.{length-take, length-drop}
use Rattle.word_bits.specs.Counts.{count}
use Rattle.word_bits.proofs.Ones.{count-le}
use Rattle.masks.specs.Ranges.{end_block}
use Rattle.sets.specs.Members.{bit_of}
use Rattle.range_counts.proofs.CountLaws.{ones_at, ones_empty, ones_one, ones_three}
use Rattle.range_counts.proofs.RunLaws.{all_words, words_between}
use Rattle.tests.proofs.PartLaws.{meets, in_range}
use native.Mathlib.Omega.{arith}
use Rattle.range_counts.proofs.counts.ones_of.Goals as goal
use Rattle.range_counts.proofs.counts.ones_of.Goals.{After-ones_of_words-middle}

-- with the last word they are all counted
known : (c : After-ones_of_words-middle)
    → c.count_ones-head.result + c.ones_of_words-middle.result
    + ones_at c.args.start c.args.end c.args.words.now (end_block c.args.start c.args.end - 1)
    ≡ count c.args.end (in_range c.args.start c.args.end (bit_of c.args.words.now))
known c =
    let met = c.by_shifts-masks.ensures in
    let a = c.args in
    let ws = a.words.now in
    let first = a.start / 64 + 1 in
    let last = end_block a.start a.end - 1 in
    let l = rw met at c.if-last-first.false in
    let m = meets _ _ (rw met at c.if-masks-first.false) in
    let few : length (take (last - first) (drop first ws)) ≤ 1024 = rw (length-take, length-drop) (omega (arith, m.tight)) in
    let middle = all_words _ few (rw met at c.ones_of_words-middle.ensures) ∙ words_between ws first last (omega arith) (omega (arith, m.tight)) in
    ap (λ (n : ℕ). n + ones_at a.start a.end ws last) (ap₂ ◌+◌ (rw met at c.count_ones-head.ensures) middle)
    ∙ ones_three a.start a.end ws last (omega arith) l

pub returns-then-masks-first : goal.returns-then-masks-first
returns-then-masks-first c = ones_empty _ _ _ (rw c.by_shifts-masks.ensures at c.if-masks-first.true)

pub bounds-words-first : goal.bounds-words-first
bounds-words-first c =
    let met = c.by_shifts-masks.ensures in
    let m = meets _ _ (rw met at c.if-masks-first.false) in
    rw met (omega (arith, m.some))

pub returns-then-last-first : goal.returns-then-last-first
returns-then-last-first c =
    let met = c.by_shifts-masks.ensures in
    (rw met at c.count_ones-head.ensures) ∙ ones_one _ _ _ (rw met at c.if-masks-first.false) (rw met at c.if-last-first.true)

pub slice_bounds-ones_of_words-end : goal.slice_bounds-ones_of_words-end
slice_bounds-ones_of_words-end c =
    let met = c.by_shifts-masks.ensures in
    let m = meets _ _ (rw met at c.if-masks-first.false) in
    rw met (omega (arith, m.tight))

pub overflow_add-result : goal.overflow_add-result
overflow_add-result c = omega (arith, known (goal.at.overflow_add-result c).After-ones_of_words-middle, count-le c.args.end (in_range c.args.start c.args.end (bit_of c.args.words.now)))

pub bounds-words-last : goal.bounds-words-last
bounds-words-last c =
    let met = c.by_shifts-masks.ensures in
    let m = meets _ _ (rw met at c.if-masks-first.false) in
    rw met (omega (arith, m.tight))

pub overflow_add-result-2 : goal.overflow_add-result-2
overflow_add-result-2 c =
    omega (arith, rw c.by_shifts-masks.ensures at c.count_ones.ensures, known (goal.at.overflow_add-result-2 c).After-ones_of_words-middle, count-le c.args.end (in_range c.args.start c.args.end (bit_of c.args.words.now)))

pub returns : goal.returns
returns c =
    ap (λ (n : ℕ). c.count_ones-head.result + c.ones_of_words-middle.result + n) (rw c.by_shifts-masks.ensures at c.count_ones.ensures)
    ∙ known (goal.at.returns c).After-ones_of_words-middle
