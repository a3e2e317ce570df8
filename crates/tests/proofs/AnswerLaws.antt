-- What an accepted call gives: a test, a count, a position or none. Assumes nothing.
use mathlib.Core.Path.{◌≡◌, ap}
use mathlib.Core.Bool.{Bool}
use Prim.Native.Nat.{ℕ}
use Rattle.std.specs.Prelude.{Option}
use Rattle.std.proofs.Common.{Ok}
use Rattle.sets.specs.Outcomes.{told, counted, found}
use Rattle.sets.specs.Refusals.{told_of, counted_of, found_of}
use Rattle.sets.proofs.OutcomeLaws.{given_yes}

pub told_yes : {n : ℕ} {b c : Bool} → 0 ≡ n → b ≡ c → told_of (Ok b) ≡ told n c
told_yes e h = given_yes _ e (ap (λ (x : Bool). record { number = 0; yes = x }) h)

pub counted_yes : {n k m : ℕ} → 0 ≡ n → k ≡ m → counted_of (Ok k) ≡ counted n m
counted_yes e h = given_yes _ e (ap (λ (x : ℕ). record { number = 0; count = x }) h)

pub found_yes : {n : ℕ} {p q : Option ℕ} → 0 ≡ n → p ≡ q → found_of (Ok p) ≡ found n q
found_yes e h = given_yes _ e (ap (λ (x : Option ℕ). record { number = 0; at = x }) h)
