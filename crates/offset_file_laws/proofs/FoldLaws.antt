-- A file is its lines taken one after the other. Assumes nothing.
use mathlib.Core.Path.{◌≡◌, refl, sym, ap, ◌∙◌}
use mathlib.Core.Bool.{Bool, true, false, cond}
use mathlib.Core.List.{List, [], ◌∷◌, ◌++◌, append-nil, append_assoc}
use Prim.Native.Nat.{ℕ}
use native.Mathlib.Omega.{arith}
use borrow.Author.Tests.{ne_eqb}
use lib.Dec.{eqb}
use lib.ListN.{length, length-append}
use Rattle.offset_lines.specs.Lines.{line_of}
use Rattle.text_lines.specs.Texts as Texts
use Rattle.text_lines.specs.Texts.{body_of}
use Rattle.offset_files.specs.Files.{File, no_lines, entry_line, take_line, take_bytes, at_end, file_of}
use Rattle.offset_file_laws.specs.Entries.{on_first, lines_of, bodies_of}
use Rattle.offset_file_laws.proofs.StepLaws.{more-some, entry_lines}

-- ---- the lines of a text

module _ (name : List ℕ) where
  unfoldable pub lined : File → List (List ℕ) → File
  lined f [] = f
  lined f (line ∷ lines) = lined (take_line name line f) lines

  -- bytes in front of the first line
  onto : List ℕ → List (List ℕ) → List (List ℕ)
  onto rest [] = cond (eqb (length rest) 0) [] (rest ∷ [])
  onto rest (line ∷ lines) = (rest ++ line) ∷ lines

  onto_none : (lines : List (List ℕ)) → onto [] lines ≡ lines
  unfolding onto
  onto_none [] = refl
  onto_none (line ∷ lines) = refl

  onto_byte : (rest : List ℕ) (b : ℕ) (lines : List (List ℕ)) → onto (rest ++ (b ∷ [])) lines ≡ onto rest (on_first b lines)
  unfolding onto on_first
  onto_byte rest b [] = rw (ne_eqb (length (rest ++ (b ∷ []))) 0 (λ z. omega (arith, length-append rest (b ∷ [])))) refl
  onto_byte rest b (line ∷ lines) = ap (λ (xs : List ℕ). xs ∷ lines) (append_assoc rest (b ∷ []) line)

  end_lined : (f : File) (rest : List ℕ) → at_end name (record { file = f; rest = rest }) ≡ lined f (onto rest [])
  unfolding Texts.at_end lined onto
  end_lined f rest = go (eqb (length rest) 0)
    where
      go : (t : Bool) → cond t f (take_line name rest f) ≡ lined f (cond t [] (rest ∷ []))
      go true = refl
      go false = refl

  text_lined : (bs : List ℕ) (f : File) (rest : List ℕ) → at_end name (take_bytes name (record { file = f; rest = rest }) bs) ≡ lined f (onto rest (lines_of bs))
  unfolding Texts.take_bytes Texts.take_byte lines_of lined onto
  text_lined [] f rest = end_lined f rest
  text_lined (b ∷ bs) f rest = go (eqb b 10) (text_lined bs)
    where
      go : (t : Bool) → ((f : File) (rest : List ℕ) → at_end name (take_bytes name (record { file = f; rest = rest }) bs) ≡ lined f (onto rest (lines_of bs)))
          → at_end name (take_bytes name (cond t (record { file = take_line name rest f; rest = [] }) (record { file = f; rest = rest ++ (b ∷ []) })) bs)
          ≡ lined f (onto rest (cond t ([] ∷ lines_of bs) (on_first b (lines_of bs))))
      go true next =
          next (take_line name rest f) [] ∙ ap (lined (take_line name rest f)) (onto_none (lines_of bs))
          ∙ ap (λ (xs : List ℕ). lined (take_line name xs f) (lines_of bs)) (sym (append-nil rest))
      go false next = next f (rest ++ (b ∷ [])) ∙ ap (lined f) (onto_byte rest b (lines_of bs))

  -- ---- a byte order mark stands on the first line alone

  unfoldable pub entered : File → List (List ℕ) → File
  entered f [] = f
  entered f (body ∷ bodies) = entered (entry_line name body (line_of body) f) bodies

  -- behind the first line none is skipped
  later_body : (k : ℕ) (line : List ℕ) → (k ≡ 0 → ⊥) → body_of k line ≡ line
  unfolding body_of
  later_body k line n = rw (ne_eqb k 0 n) refl

  taken_later : (line : List ℕ) (f : File) → (f.lines ≡ 0 → ⊥) → take_line name line f ≡ entry_line name line (line_of line) f
  unfolding take_line
  taken_later line f n = ap (λ (xs : List ℕ). entry_line name xs (line_of xs) f) (later_body f.lines line n)

  later_lined : (lines : List (List ℕ)) (f : File) → (f.lines ≡ 0 → ⊥) → lined f lines ≡ entered f lines
  unfolding lined entered
  later_lined [] f n = refl
  later_lined (line ∷ lines) f n =
      ap (λ (g : File). lined g lines) (taken_later line f n)
      ∙ later_lined lines (entry_line name line (line_of line) f) (λ z. more-some f.lines (sym (entry_lines name line f (line_of line)) ∙ z))

  lined_is : (lines : List (List ℕ)) → lined no_lines lines ≡ entered no_lines (bodies_of lines)
  unfolding lined entered bodies_of take_line
  lined_is [] = refl
  lined_is (line ∷ lines) =
      later_lined lines (entry_line name (body_of 0 line) (line_of (body_of 0 line)) no_lines)
      (λ z. more-some 0 (sym (entry_lines name (body_of 0 line) no_lines (line_of (body_of 0 line))) ∙ z))

  -- a file is the entries of its lines, one after the other
  pub file_is : (text : List ℕ) → file_of name text ≡ entered no_lines (bodies_of (lines_of text))
  unfolding file_of
  file_is text = text_lined text no_lines [] ∙ ap (lined no_lines) (onto_none (lines_of text)) ∙ lined_is (lines_of text)
