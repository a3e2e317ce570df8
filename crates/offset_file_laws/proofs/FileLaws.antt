-- What a file is, by the entries of its text's lines. Assumes nothing.
use mathlib.Core.Path.{◌≡◌, refl, sym, ap, ap₂, ◌∙◌}
use mathlib.Core.Bool.{Bool, true, false, cond, not, ◌&&◌, ◌||◌}
use mathlib.Core.List.{List, [], ◌∷◌, map}
use Prim.Native.Nat.{ℕ}
use borrow.Author.Tests.{eqb-true, ne_eqb}
use lib.Dec.{eqb}
use Rattle.offset_lines.specs.Lines.{line_of}
use Rattle.text_lines.specs.Texts.{more}
use Rattle.offset_files.specs.Files.{File, no_lines, entry_line, file_of}
use Rattle.offset_file_laws.specs.Entries.{lines_of, bodies_of, entries_of, is_offset, is_last, is_bad, some_entry, first_line}
use Rattle.offset_file_laws.proofs.StepLaws.{more-some, entry_lines, entry_said, entry_first}
use Rattle.offset_file_laws.proofs.GoodLaws.{good_entry, good-first}
use Rattle.offset_file_laws.proofs.FoldLaws.{entered, file_is}

module _ (name : List ℕ) where
  -- the entry of a body, taken
  abbrev after : List ℕ → File → File
  after body f = entry_line name body (line_of body) f

  -- ---- the first line of an offset

  abbrev picked : ℕ → Bool → ℕ → ℕ
  picked first said rest = cond (eqb first 0) (cond said 0 rest) first

  pick_step : (a k r : ℕ) (o s y : Bool) → picked (cond (o && (not s && eqb a 0)) (more k) a) (s || y) r ≡ picked a s (cond o (more k) (cond y 0 r))
  pick_step a k r o s y = go (eqb a 0) refl o s y
    where
      go : (z : Bool) → eqb a 0 ≡ z → (o s y : Bool) → picked (cond (o && (not s && z)) (more k) a) (s || y) r ≡ cond z (cond s 0 (cond o (more k) (cond y 0 r))) a
      go true e true true y = rw e refl
      go true e true false y = rw (ne_eqb (more k) 0 (more-some k)) refl
      go true e false true y = rw e refl
      go true e false false true = rw e refl
      go true e false false false = rw e refl
      go false e true true y = rw e refl
      go false e true false y = rw e refl
      go false e false s y = rw e refl

  first-from : (p : ℕ) (bodies : List (List ℕ)) (f : File) → (entered name f bodies).first p ≡ picked (f.first p) f.said (first_line p f.lines (map line_of bodies))
  unfolding entered first_line
  first-from p [] f = sym (none (eqb (f.first p) 0) refl f.said)
    where
      none : (z : Bool) → eqb (f.first p) 0 ≡ z → (s : Bool) → cond z (cond s 0 0) (f.first p) ≡ f.first p
      none true e true = sym (eqb-true (f.first p) 0 e)
      none true e false = sym (eqb-true (f.first p) 0 e)
      none false e s = refl
  first-from p (body ∷ bodies) f =
      first-from p bodies (after body f)
      ∙ ap (λ (a : ℕ). picked a (after body f).said (first_line p (after body f).lines (map line_of bodies))) (entry_first name body f p (line_of body))
      ∙ ap₂ (λ (s : Bool) (k : ℕ). picked (cond (is_offset p (line_of body) && (not f.said && eqb (f.first p) 0)) (more f.lines) (f.first p)) s (first_line p k (map line_of bodies)))
      (entry_said name body f (line_of body)) (entry_lines name body f (line_of body))
      ∙ pick_step (f.first p) f.lines (first_line p (more f.lines) (map line_of bodies)) (is_offset p (line_of body)) f.said (is_last (line_of body))

  -- the table has the first line that names an offset
  pub first_is : (text : List ℕ) (p : ℕ) → (file_of name text).first p ≡ first_line p 0 (entries_of text)
  unfolding entries_of
  first_is text p = ap (λ (f : File). f.first p) (file_is name text) ∙ first-from p (bodies_of (lines_of text)) no_lines

  -- ---- a file with no bad line

  pub good_above : (bodies : List (List ℕ)) (f : File) → (entered name f bodies).bads ≡ 0 → f.bads ≡ 0
  unfolding entered
  good_above [] f z = z
  good_above (body ∷ bodies) f z = (good_entry name body f (line_of body) (good_above bodies (after body f) z)).above

  sound_from : (bodies : List (List ℕ)) (f : File) → (entered name f bodies).bads ≡ 0 → some_entry is_bad (map line_of bodies) ≡ false
  unfolding entered some_entry
  sound_from [] f z = refl
  sound_from (body ∷ bodies) f z =
      ap₂ ◌||◌ (good_entry name body f (line_of body) (good_above bodies (after body f) z)).sound (sound_from bodies (after body f) z)

  or_assoc : (a b c : Bool) → ((a || b) || c) ≡ (a || (b || c))
  or_assoc true b c = refl
  or_assoc false b c = refl

  names-from : (p : ℕ) (bodies : List (List ℕ)) (f : File) → (entered name f bodies).bads ≡ 0
      → not (eqb ((entered name f bodies).first p) 0) ≡ (not (eqb (f.first p) 0) || some_entry (is_offset p) (map line_of bodies))
  unfolding entered some_entry
  names-from p [] f z = or-none (not (eqb (f.first p) 0))
    where
      or-none : (t : Bool) → t ≡ (t || false)
      or-none true = refl
      or-none false = refl
  names-from p (body ∷ bodies) f z =
      names-from p bodies (after body f) z
      ∙ ap (λ (t : Bool). t || some_entry (is_offset p) (map line_of bodies)) (good-first name body f p (line_of body) (good_entry name body f (line_of body) (good_above bodies (after body f) z)))
      ∙ or_assoc (not (eqb (f.first p) 0)) (is_offset p (line_of body)) (some_entry (is_offset p) (map line_of bodies))

  -- each line may stand where it is
  pub good_sound : (text : List ℕ) → (file_of name text).bads ≡ 0 → some_entry is_bad (entries_of text) ≡ false
  unfolding entries_of
  good_sound text z = sound_from (bodies_of (lines_of text)) no_lines (ap (λ (f : File). f.bads) (sym (file_is name text)) ∙ z)

  -- and the offsets are those that some line of the text names, all of them
  pub good-names : (text : List ℕ) → (file_of name text).bads ≡ 0 → (p : ℕ) → not (eqb ((file_of name text).first p) 0) ≡ some_entry (is_offset p) (entries_of text)
  unfolding entries_of
  good-names text z p =
      ap (λ (f : File). not (eqb (f.first p) 0)) (file_is name text)
      ∙ names-from p (bodies_of (lines_of text)) no_lines (ap (λ (f : File). f.bads) (sym (file_is name text)) ∙ z)
