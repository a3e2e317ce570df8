-- What an offset's word of the table tells, and what is held after an offset, the last line of a list, and any entry. Assumes nothing.
use mathlib.Core.Path.{◌≡◌, refl, sym, ap, subst, ◌∙◌}
use mathlib.Core.Bool.{Bool, true, false, cond}
use mathlib.Core.List.{List}
use Prim.Native.Nat.{ℕ, ◌/◌, ◌%◌, ◌≤◌, ◌<◌}
use native.Mathlib.Omega.{arith}
use borrow.Author.Tests.{eq-eqb, ne_eqb}
use lib.Dec.{eqb}
use lib.ListN.{get_or}
use Rattle.byte_texts.specs.Ascii.{ascii}
use Rattle.offset_files.specs.Files.{File, blank_line, bad_line, new_offset, second_naming, offset_line}
use Rattle.offset_files.specs.Holds.{HoldsFile}
use Rattle.offset_files.specs.declared.reader.OffsetReader.{OffsetReader}
use Rattle.offset_files.proofs.TableLaws.{table-first, table_again}

-- ---- a word of the table

again_yes : (b : Bool) → ◌≡◌ {A = ℕ} (cond b 1 0) 1 → b ≡ true
again_yes true e = refl
again_yes false e = absurd (omega arith)

again_no : (b : Bool) → (◌≡◌ {A = ℕ} (cond b 1 0) 1 → ⊥) → b ≡ false
again_no true n = absurd (n refl)
again_no false n = refl

-- what an offset's line does, by the three tests
unfoldable pub chosen : List ℕ → List ℕ → ℕ → File → Bool → Bool → Bool → File
chosen name full offset f said none again =
    cond said (bad_line name full (ascii "an offset behind the last line of a list") f)
    (cond none (new_offset offset f) (cond again (blank_line f) (second_naming name offset f)))

module _ {f : File} {r : OffsetReader} (h : HoldsFile f r) (offset : ℕ) (below : offset < 65536) where
  abbrev pub entry : ℕ
  entry = get_or r.table.now offset 0

  pub first_is : entry / 2 ≡ f.first offset
  first_is = ap (λ (w : ℕ). w / 2) (h.entries offset below) ∙ table-first (f.first offset) (f.again offset)

  again_is : entry % 2 ≡ cond (f.again offset) 1 0
  again_is = ap (λ (w : ℕ). w % 2) (h.entries offset below) ∙ table_again (f.first offset) (f.again offset)

  pub first-none : entry < 2 → f.first offset ≡ 0
  first-none l = sym first_is ∙ omega arith

  first_some : 2 ≤ entry → f.first offset ≡ 0 → ⊥
  first_some l z = let q = first_is ∙ z in omega arith

  pub named-once : (entry % 2 ≡ 1 → ⊥) → f.again offset ≡ false
  named-once o = again_no (f.again offset) (λ z. o (again_is ∙ z))

  module _ (name body : List ℕ) {s : OffsetReader} where
    choose : {said none again : Bool} → r.report.now.tally.said ≡ said → eqb (f.first offset) 0 ≡ none → f.again offset ≡ again → HoldsFile (chosen name body offset f said none again) s
        → HoldsFile (offset_line name body offset f) s
    unfolding offset_line chosen
    choose {said} {none} {again} a b c g =
        subst (λ (x : File). HoldsFile x s)
        (ap (λ (t : Bool). chosen name body offset f t none again) (sym a ∙ h.counts.said) ∙ ap (λ (t : Bool). chosen name body offset f f.said t again) (sym b)
        ∙ ap (chosen name body offset f f.said (eqb (f.first offset) 0)) (sym c)) g

    pub offset_said : r.report.now.tally.said ≡ true → HoldsFile (bad_line name body (ascii "an offset behind the last line of a list") f) s → HoldsFile (offset_line name body offset f) s
    unfolding chosen
    offset_said e g = choose e refl refl g

    pub offset_new : r.report.now.tally.said ≡ false → entry < 2 → HoldsFile (new_offset offset f) s → HoldsFile (offset_line name body offset f) s
    unfolding chosen
    offset_new e l g = choose e (eq-eqb (f.first offset) 0 (first-none l)) refl g

    pub offset_third : r.report.now.tally.said ≡ false → 2 ≤ entry → entry % 2 ≡ 1 → HoldsFile (blank_line f) s → HoldsFile (offset_line name body offset f) s
    unfolding chosen
    offset_third e l o g = choose e (ne_eqb (f.first offset) 0 (first_some l)) (again_yes (f.again offset) (sym again_is ∙ o)) g

    pub offset_second : r.report.now.tally.said ≡ false → 2 ≤ entry → (entry % 2 ≡ 1 → ⊥) → HoldsFile (second_naming name offset f) s → HoldsFile (offset_line name body offset f) s
    unfolding chosen
    offset_second e l o g = choose e (ne_eqb (f.first offset) 0 (first_some l)) (named-once o) g
