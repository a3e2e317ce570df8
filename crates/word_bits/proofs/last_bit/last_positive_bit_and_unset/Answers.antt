use Rattle.std.proofs.Common.{◌≡◌, ℕ, ◌-◌, ◌^◌, ◌<◌, ap, ◌∙◌, ap₂, arith, ne_eqb}
use lib.Bits.{bit_and}
use Rattle.word_bits.specs.Digits.{digit}
use Rattle.word_bits.specs.Counts.{zeros_below}
use Rattle.word_bits.specs.LastBit.{unset}
use Rattle.word_bits.proofs.LowestBit.{negation_position, and_less}
use Rattle.word_bits.proofs.last_bit.last_positive_bit_and_unset.Goals as goal

pub returns : goal.returns
unfolding unset
returns c =
    let x : ℕ = c.args.word in
    let pos : 0 < x = omega arith in
    let fits : x < 2 ^ 64 = c.ranges.word.fits in
    let negation : c.wrapping_neg.result ≡ 2 ^ 64 - x = omega (arith, c.wrapping_neg.ensures) in
    rw (ne_eqb x 0 c.if-word-eq0.false)
    (ap₂ (λ (p r : ℕ). record { number = 0; position = p; rest = r })
    (c.trailing_zeros.ensures ∙ ap (λ (y : ℕ). zeros_below 64 (digit (bit_and x y))) negation ∙ negation_position 64 x pos fits)
    (and_less 64 x pos fits))
