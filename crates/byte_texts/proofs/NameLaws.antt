-- A name as it is shown has at most 43 bytes, so it is whole in a buffer of as many. Assumes nothing.
use mathlib.Core.Bool.{Bool, true, false, cond}
use mathlib.Core.List.{List, ◌++◌, map}
use mathlib.Core.Path.{◌≡◌, refl}
use native.Mathlib.Omega.{arith}
use Prim.Native.Nat.{ℕ, ◌-◌, ◌≤◌}
use lib.Dec.{leb}
use borrow.Author.Tests.{leb-true, leb-false}
use lib.ListN.{length, take, drop, length-map, length-drop}
use Rattle.byte_texts.specs.Texts.{written, shown_name, visible, dots}
use Rattle.byte_texts.specs.Growth.{Appended}
use Rattle.byte_texts.specs.declared.texts.Text.{Text}
use Rattle.byte_texts.proofs.GrowthLaws.{appended_whole}

shown_short : (name : List ℕ) → length (shown_name name) ≤ 43
unfolding shown_name dots
shown_short name = go (leb (length name) 40) refl
  where
    go : (b : Bool) → leb (length name) 40 ≡ b
        → length (cond b (map visible name) (dots ++ map visible (drop (length name - 40) name))) ≤ 43
    go true e = omega (arith, length-map name visible, leb-true (length name) 40 e)
    go false e = omega (arith, length-map (drop (length name - 40) name) visible, length-drop (length name - 40) name, leb-false (length name) 40 e)

-- a name that is appended to nothing is what is written then
module _ (name : List ℕ) {before after : Text} (empty : before.end ≡ 0) (long : length before.out.now ≡ 43) (h : Appended before after (shown_name name)) where
  pub shown_fits : after.end ≤ 43
  unfolding written
  shown_fits = omega (arith, h.end, long)

  pub shown_is : take after.end after.out.now ≡ shown_name name
  shown_is = appended_whole h empty (let s : length (shown_name name) ≤ 43 = shown_short name in omega (arith, long))
