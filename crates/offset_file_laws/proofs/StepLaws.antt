-- What one entry does to a file. Assumes nothing.
use mathlib.Core.Path.{◌≡◌, refl, sym, ap, ◌∙◌}
use mathlib.Core.Bool.{Bool, true, false, cond, not, ◌&&◌, ◌||◌}
use mathlib.Core.List.{List}
use Prim.Native.Nat.{ℕ}
use native.Mathlib.Omega.{arith}
use borrow.Author.Tests.{eqb-true}
use lib.Dec.{eqb}
use Rattle.offset_file_laws.specs.Entries.{LineEntry}
use Rattle.std.specs.Prelude.{Ok, Err}
use Rattle.offset_lines.specs.declared.entry.Entry.TheVariants.{Blank, Item, Says}
use Rattle.text_lines.specs.Texts.{more}
use Rattle.offset_files.specs.Files.{File, blank_line, bad_line, new_offset, second_naming, offset_line, said_line, entry_line}
use Rattle.offset_file_laws.specs.Entries.{is_offset, is_last}
use Rattle.offset_files.specs.Messages.{wrong_count}
use Rattle.offset_files.proofs.EntryLaws.{chosen}

pub more-some : (n : ℕ) → more n ≡ 0 → ⊥
unfolding more
more-some n e = omega arith

module _ (name body : List ℕ) (f : File) where
  -- an offset, by the three tests; the last line of a list, by its one
  pub as_chosen : (q : ℕ) → offset_line name body q f ≡ chosen name body q f f.said (eqb (f.first q) 0) (f.again q)
  unfolding offset_line chosen
  as_chosen q = refl

  unfoldable pub told : ℕ → Bool → File
  told n right =
      let g = cond right (blank_line f) (bad_line name body (wrong_count n f.named) f) in
      record { lines = g.lines; first = g.first; again = g.again; named = g.named; said = true; bads = g.bads; repeats = g.repeats; report = g.report }

  pub as_told : (n : ℕ) → said_line name body n f ≡ told n (eqb n f.named)
  unfolding said_line told
  as_told n = refl

  -- ---- how many lines

  chosen_lines : (q : ℕ) (s n a : Bool) → (chosen name body q f s n a).lines ≡ more f.lines
  unfolding chosen bad_line new_offset blank_line second_naming
  chosen_lines q true n a = refl
  chosen_lines q false true a = refl
  chosen_lines q false false true = refl
  chosen_lines q false false false = refl

  told-lines : (n : ℕ) (t : Bool) → (told n t).lines ≡ more f.lines
  unfolding told bad_line blank_line
  told-lines n true = refl
  told-lines n false = refl

  pub entry_lines : (e : LineEntry) → (entry_line name body e f).lines ≡ more f.lines
  unfolding entry_line bad_line blank_line
  entry_lines (Ok Blank) = refl
  entry_lines (Ok (Item q)) = ap (λ (g : File). g.lines) (as_chosen q) ∙ chosen_lines q f.said (eqb (f.first q) 0) (f.again q)
  entry_lines (Ok (Says n)) = ap (λ (g : File). g.lines) (as_told n) ∙ told-lines n (eqb n f.named)
  entry_lines (Err fault) = refl

  -- ---- whether a last line of a list is among them

  chosen_said : (q : ℕ) (s n a : Bool) → (chosen name body q f s n a).said ≡ f.said
  unfolding chosen bad_line new_offset blank_line second_naming
  chosen_said q true n a = refl
  chosen_said q false true a = refl
  chosen_said q false false true = refl
  chosen_said q false false false = refl

  or-false : (t : Bool) → t ≡ (t || false)
  or-false true = refl
  or-false false = refl

  or-true : (t : Bool) → true ≡ (t || true)
  or-true true = refl
  or-true false = refl

  pub entry_said : (e : LineEntry) → (entry_line name body e f).said ≡ (f.said || is_last e)
  unfolding entry_line bad_line blank_line told is_last
  entry_said (Ok Blank) = or-false f.said
  entry_said (Ok (Item q)) = ap (λ (g : File). g.said) (as_chosen q) ∙ chosen_said q f.said (eqb (f.first q) 0) (f.again q) ∙ or-false f.said
  entry_said (Ok (Says n)) = ap (λ (g : File). g.said) (as_told n) ∙ or-true f.said
  entry_said (Err fault) = or-false f.said

  -- ---- the first line of an offset

  chosen_first : (p q : ℕ) (s n a : Bool) → (chosen name body q f s n a).first p ≡ cond (not s && (n && eqb p q)) (more f.lines) (f.first p)
  unfolding chosen bad_line new_offset blank_line second_naming
  chosen_first p q true n a = refl
  chosen_first p q false true a = refl
  chosen_first p q false false true = refl
  chosen_first p q false false false = refl

  told-first : (n : ℕ) (t : Bool) → (told n t).first ≡ f.first
  unfolding told bad_line blank_line
  told-first n true = refl
  told-first n false = refl

  and-false : (s t : Bool) → (s && (t && false)) ≡ false
  and-false true true = refl
  and-false true false = refl
  and-false false t = refl

  same_offset : (p q : ℕ) → (not f.said && (eqb (f.first q) 0 && eqb p q)) ≡ (eqb p q && (not f.said && eqb (f.first p) 0))
  same_offset p q = go (eqb p q) refl
    where
      go : (t : Bool) → eqb p q ≡ t → (not f.said && (eqb (f.first q) 0 && t)) ≡ (t && (not f.said && eqb (f.first p) 0))
      go true e = ap (λ (r : ℕ). not f.said && (eqb (f.first r) 0 && true)) (sym (eqb-true p q e)) ∙ ap (λ (b : Bool). not f.said && b) (and-true (eqb (f.first p) 0))
        where
          and-true : (b : Bool) → (b && true) ≡ b
          and-true true = refl
          and-true false = refl
      go false e = and-false (not f.said) (eqb (f.first q) 0)

  pub entry_first : (p : ℕ) (e : LineEntry) → (entry_line name body e f).first p ≡ cond (is_offset p e && (not f.said && eqb (f.first p) 0)) (more f.lines) (f.first p)
  unfolding entry_line bad_line blank_line is_offset
  entry_first p (Ok Blank) = refl
  entry_first p (Ok (Item q)) =
      ap (λ (g : File). g.first p) (as_chosen q) ∙ chosen_first p q f.said (eqb (f.first q) 0) (f.again q)
      ∙ ap (λ (t : Bool). cond t (more f.lines) (f.first p)) (same_offset p q)
  entry_first p (Ok (Says n)) = ap (λ (g : File). g.first p) (as_told n) ∙ ap (λ (h : ℕ → ℕ). h p) (told-first n (eqb n f.named))
  entry_first p (Err fault) = refl
