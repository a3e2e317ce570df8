use Rattle.std.proofs.Common.{rules, ◌≡◌, ℕ, ◌≤◌, ◌-◌, ◌/◌, ◌^◌, ◌∙◌, min, take, length, arith}
use Rattle.std.specs.List.{sum_by}
use Rattle.std.proofs.lemmas.Iterator.{YieldsList-from_slice}
use Rattle.std.proofs.lemmas.Iterator.Adapters.{fits_from_length, at_most_from_yields_List}
use Rattle.word_bits.specs.Digits.{digit, row}
use Rattle.word_bits.specs.Counts.{count}
use Rattle.word_bits.proofs.Ones.{count-le}
use Rattle.sets.specs.Members.{bit_of}
use Rattle.range_counts.proofs.RunLaws.{words_count, first_words}
use Rattle.range_counts.proofs.counts.ones_of_words.Goals as goal

small : {r : ℕ} (w : ℕ) → r ≡ count 64 (digit w) → r ≤ (2 ^ 64 - 1) / 1024
small w e = omega (arith, e, count-le 64 (digit w))

-- 1024 words at the most, of 64 bits each
pub sum-requires-clause-fits : goal.sum-requires-clause-fits
sum-requires-clause-fits c =
    fits_from_length _ _ 1024 (2 ^ 64) (at_most_from_yields_List (YieldsList-from_slice (take c.min.result c.args.words.now) cc) (search rules)) c.map.ensures.closure (omega arith)
    (λ x r q k. search (rules, small))

pub returns : goal.returns
unfolding bit_of row
returns c =
    let ws = c.args.words.now in
    let n : ℕ = min (length ws) 1024 in
    let chained : c.sum.result ≡ sum_by (λ (w : ℕ). count 64 (digit w)) (take n ws) = search rules in
    chained ∙ words_count (λ (w : ℕ). w) 0 (take n ws) ∙ first_words ws n (omega arith)
