use mathlib.Core.Path.{sym, ap, ◌∙◌}
use mathlib.Core.List.{List}
use mathlib.Core.Option.{some}
use Prim.Native.Nat.{ℕ}
use Rattle.calls.specs.Calls.{InsertAll}
use Rattle.calls.proofs.EncodingLaws.{listed_within, listed-missing}
use Rattle.calls.proofs.call.insert_part.Goals as goal

pub returns-in-Some : goal.returns-in-Some
returns-in-Some c =
    let p = c.in-Some.ensures.lookup.0 in
    ap (λ (ps : List ℕ). some (InsertAll ps)) p.2 ∙ sym (listed_within _ _ _ p.0 p.1)

pub returns-in-None : goal.returns-in-None
returns-in-None c = sym (listed-missing _ _ _ c.in-None.ensures.lookup.0)
