use mathlib.Core.Path.{sym, ap, ap₂, ◌∙◌}
use mathlib.Core.Bool.{Bool, false}
use Prim.Native.Nat.{ℕ}
use lib.Dec.{leb}
use Rattle.sets.proofs.OutcomeLaws.{given_no, given_yes}
use Rattle.export_tests.proofs.SliceLaws.{ok_number, err_number, longer_none, longer_count}
use Rattle.export_tests.proofs.two_set_calls.fbs_longer.Goals as goal

pub returns-then-is_ok : goal.returns-then-is_ok
returns-then-is_ok c =
    let a = c.args in
    let passed = sym c.longer_number.ensures ∙ ok_number c.longer_number.result (sym c.is_ok.ensures.value ∙ c.if-is_ok.true) in
    given_yes _ (sym passed)
    (ap (λ (n : ℕ). record { second = leb a.a.length a.b.length; offset = 0; count = n })
    (longer_count a.a a.words a.b a.other c.longer-part.ensures passed))

pub returns-else-is_ok : goal.returns-else-is_ok
returns-else-is_ok c =
    let a = c.args in
    let refused = err_number c.longer_number.result (sym c.is_ok.ensures.value ∙ c.if-is_ok.false) in
    ap₂ (λ (second : Bool) (n : ℕ). record { second = second; offset = 0; count = n }) c.if-is_ok.false
    (longer_none a.a a.words a.b a.other c.longer-part.ensures (λ z. refused (c.longer_number.ensures ∙ z)))
    ∙ given_no (λ m. record { second = false; offset = 0; count = 0 }) _ c.longer_number.ensures refused
