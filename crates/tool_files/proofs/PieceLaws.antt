-- A piece more is written.
use mathlib.Core.Path.{◌≡◌, refl, sym, subst, ap, ◌∙◌}
use mathlib.Core.Bool.{Bool, true}
use Prim.Native.Nat.{ℕ, min}
use mathlib.Core.List.{List, [], ◌++◌, append-nil, append_assoc}
use Rattle.std.specs.Prelude.{Option, Some, length, take}
use Rattle.std.specs.Borrow.{MutBor}
use Rattle.std.specs.Fn.{Shared}
use Rattle.std.specs.Io.KnownBytes.{Appends}
use Rattle.std.proofs.lemmas.List.{take_min}
use Rattle.std.proofs.KnownBytes.{Appends-nil, Appends-trans}
use Rattle.listing_lines.specs.declared.pages.Page.{Page}
use Rattle.listing_lines.specs.declared.pages.Written.{Written}
use Rattle.tool_files.specs.Pieces.{Leaves, Upto}

module _ {F S R : Type 0} {calls : Shared F (Page S R × (MutBor (List ℕ) × Unit {0})) (Option (Written S R) × (MutBor (List ℕ) × Unit {0}))} {f : F} {over : S → Bool} {rest : Page S R → List ℕ} (first : Page S R) where
  pub at_first : (a : Option (List ℕ)) → Upto calls f over rest first first a a
  at_first a = record { text = []; written = Appends-nil a; left = refl }

  module _ {page : Page S R} (a b c : Option (List ℕ)) (l : Leaves calls f over rest) where
    pub one_more : Upto calls f over rest first page a b → {lent back : MutBor (List ℕ)} {result : Option (Written S R)} {w : Written S R} {n : ℕ}
        → calls.post f (page, (lent, tt)) (result, (back, tt)) → result ≡ Some w
        → n ≡ min w.length (length back.now) → Appends b c (take n back.now) → Upto calls f over rest first w.page a c
    one_more u {lent} {back} {result} {w} made is cut h =
        let p : take w.length back.now ++ rest w.page ≡ rest page = l.piece page lent back w (subst (λ r. calls.post f (page, (lent, tt)) (r, (back, tt))) is made) in record {
          text = u.text ++ take w.length back.now;
          written = Appends-trans a b c u.text (take w.length back.now) u.written (subst (λ t. Appends b c t) (ap (λ k. take k back.now) cut ∙ take_min w.length back.now) h);
          left = append_assoc u.text (take w.length back.now) (rest w.page) ∙ ap (λ t. u.text ++ t) p ∙ u.left;
        }

  pub at_last : {page : Page S R} (a b : Option (List ℕ)) → Leaves calls f over rest → Upto calls f over rest first page a b → over page.stage ≡ true → Appends a b (rest first)
  at_last {page} a b l u o = subst (λ t. Appends a b t) (sym (append-nil u.text) ∙ ap (λ t. u.text ++ t) (sym (l.last page o)) ∙ u.left) u.written
