-- What is appended piece by piece. Assumes nothing.
use mathlib.Core.Path.{◌≡◌, ap, ap₂, ◌∙◌}
use mathlib.Core.List.{List, ◌++◌}
use Prim.Native.Nat.{ℕ, ◌+◌, ◌≤◌, ◌<◌}
use native.Mathlib.Omega.{arith}
use lib.ListN.{length, take}
use Rattle.byte_texts.specs.Texts.{Written, written}
use Rattle.byte_texts.specs.Growth.{Appended}
use Rattle.byte_texts.specs.declared.texts.Text.{Text}
use Rattle.byte_texts.proofs.TextLaws.{written_more, written_same, written_room, written-whole, written_end}

-- ---- as one equation

pub appended_is : {a b : Text} {x : List ℕ} → Appended a b x → record { end = b.end; out = b.out.now } ≡ written a.out.now a.end x
appended_is h = ap₂ (λ (k : ℕ) (r : List ℕ). record { end = k; out = r }) h.end h.out

pub appended_by : {a b : Text} {x : List ℕ} → record { end = b.end; out = b.out.now } ≡ written a.out.now a.end x → b.out.ghost_name ≡ a.out.ghost_name → Appended a b x
appended_by e g = record { end = ap (λ (w : Written). w.end) e; out = ap (λ (w : Written). w.out) e; buffer = g }

-- ---- two pieces in a row are their join

pub appended_then : {a b c : Text} {x y : List ℕ} → Appended a b x → Appended b c y → Appended a c (x ++ y)
appended_then {a} {b} {c} {x} {y} h g =
    appended_by (appended_is g ∙ ap (λ (w : Written). written w.out w.end y) (appended_is h) ∙ written_more a.out.now a.end x y) (g.buffer ∙ h.buffer)

-- the same bytes, said otherwise
pub appended_as : {a b : Text} {x y : List ℕ} → Appended a b x → x ≡ y → Appended a b y
appended_as {a} h e = appended_by (appended_is h ∙ ap (written a.out.now a.end) e) h.buffer

-- ---- a text that was empty

module _ {a b : Text} {x : List ℕ} (h : Appended a b x) (empty : a.end ≡ 0) where
  pub appended_same : length b.out.now ≡ length a.out.now
  appended_same = written_same a.out.now a.end x (appended_is h)

  -- what ends before the buffer does has room
  pub appended_room : b.end < length b.out.now → length x ≤ length a.out.now
  appended_room l = let r = written_room a.out.now a.end x (omega (arith, h.end, appended_same)) in omega (arith, r)

  -- and is there whole
  module _ (room : length x ≤ length a.out.now) where
    enough : a.end + length x ≤ length a.out.now
    enough = omega (arith, room, empty)

    pub appended_end : b.end ≡ length x
    appended_end = omega (arith, h.end, written_end a.out.now a.end x enough, empty)

    pub appended_whole : take b.end b.out.now ≡ x
    appended_whole = ap (λ (w : Written). take w.end w.out) (appended_is h) ∙ written-whole a.out.now a.end x enough ∙ ap (λ (k : ℕ). take k a.out.now ++ x) empty
