-- What a call gives, refused or accepted.
use Rattle.std.specs.Prelude.{Bool, false, cond, Option, Some, None, List, [], ◌∷◌, ℕ, zero, suc}
use Rattle.sets.specs.Members.{Members, write, set_of}
use Rattle.sets.specs.declared.fixed_bit_set.FixedBitSet.{FixedBitSet}
use Rattle.sets.specs.declared.answers.Edited.{Edited}
use Rattle.sets.specs.declared.answers.Told.{Told}
use Rattle.sets.specs.declared.answers.Counted.{Counted}

-- a number other than 0 refuses; accepted calls give number 0
unfoldable pub given : {A : Type 0} → ℕ → (ℕ → A) → A → A
given zero refused accepted = accepted
given (suc n) refused accepted = refused (suc n)

-- of a call that writes: its number, the set after it and the lent words after it
pub record Outcome : Type 0 where
  pub number : ℕ
  pub set : FixedBitSet
  pub words : List ℕ

abbrev pub outcome : Edited → List ℕ → Outcome
outcome r ws = record { number = r.number; set = r.set; words = ws }

-- an edit that leaves s; refused, the set is as handed in and every word unaltered
abbrev pub edited : ℕ → FixedBitSet → List ℕ → Members → Outcome
edited n set ws s = given n (λ m. record { number = m; set = set; words = ws }) (record { number = 0; set = set_of s; words = write ws s })

-- a test; refused, it says no
abbrev pub told : ℕ → Bool → Told
told n b = given n (λ m. record { number = m; yes = false }) (record { number = 0; yes = b })

-- a call that answers a number; refused, 0
abbrev pub counted : ℕ → ℕ → Counted
counted n k = given n (λ m. record { number = m; count = 0 }) (record { number = 0; count = k })

-- an answer that is a position or none, by its cases: p where there is one, else none
abbrev pub place : Bool → ℕ → Option ℕ
place there p = cond there (Some p) None

-- the positions that such an answer gives: one, or none
abbrev pub position_of : Option ℕ → List ℕ
position_of (Some p) = p ∷ []
position_of None = []

-- a call that answers a position: its number, and the position or none
pub record Found : Type 0 where
  pub number : ℕ
  pub at : Option ℕ

-- refused, none
abbrev pub found : ℕ → Option ℕ → Found
found n at = given n (λ m. record { number = m; at = None }) (record { number = 0; at = at })
