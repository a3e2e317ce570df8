-- What `.ok()?` goes on with. Assumes nothing.
use mathlib.Core.Path.{◌≡◌, refl, subst, ap}
use Rattle.std.specs.Option.{IsSomeAnd}
use Rattle.std.specs.Result.{result_ok}
use Rattle.std.proofs.Common.{Result, Ok, Err, Some}

-- a call whose value is taken answered `Ok`
pub taken : {A E : Type 0} (r : Result A E) {m : A} → Some m ≡ result_ok r → r ≡ Ok m
taken (Ok x) {m} e = ap (λ y. Ok y) (subst (λ o. IsSomeAnd o (λ y. y ≡ m)) e refl)
taken (Err d) {m} e = absurd (subst (λ o. IsSomeAnd o (λ y. y ≡ m)) e refl)
