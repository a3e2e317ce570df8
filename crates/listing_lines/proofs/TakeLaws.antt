-- A call that writes the first k numbers of a list into a buffer of k words. Assumes nothing.
use mathlib.Core.Path.{◌≡◌, refl, ap, ap₂, ◌∙◌}
use mathlib.Core.List.{List, ◌++◌}
use Prim.Native.Nat.{ℕ, ◌≤◌}
use native.Mathlib.Omega.{arith}
use lib.ListN.{length, take, drop, length-append, length-take}
use lib.Seq.{take_at}

-- what is known of its count and of the buffer
pub record Took (k : ℕ) (left : List ℕ) (count : ℕ) (after : List ℕ) : Type 0 where
  pub counted : count ≡ length (take k left)
  pub most : count ≤ k
  pub enough : count ≤ length after
  pub offsets : take count after ≡ take k left

pub took : (k : ℕ) (left made out : List ℕ) {count : ℕ} {after : List ℕ} → length out ≡ k → made ≡ take (length out) left → count ≡ length made → after ≡ made ++ drop (length made) out
    → Took k left count after
took k left made out {count} {after} n all counted same = record {
  counted = size;
  most = omega (arith, size, length-take k left);
  enough = omega (arith, counted, ap length same, length-append made (drop (length made) out));
  offsets = ap₂ take counted same ∙ take_at made (drop (length made) out) (length made) refl ∙ first;
}
  where
    first : made ≡ take k left
    first = all ∙ ap (λ (i : ℕ). take i left) n

    size : count ≡ length (take k left)
    size = counted ∙ ap length first
