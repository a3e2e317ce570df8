use Rattle.pair_listings.specs.Tables.{entry_of, named_below, named_by}
use Rattle.pair_listings.proofs.SetLaws.{made_no, made_yes}
use Rattle.pair_listings.proofs.moves.named_set.Goals as goal

pub returns-in_err-made : goal.returns-in_err-made
returns-in_err-made c =
    let a = c.args in
    made_no a.out.now _ _ c.from_residual.ensures.1 c.in_err-made.ensures (named_by (entry_of a.table.now))

pub returns : goal.returns
unfolding named_below
returns c =
    let a = c.args in
    made_yes a.out.now c.in_ok-made.ensures (named_by (entry_of a.table.now)).has (λ room e. c.mark_each.ensures a.out.now room e)
