-- A report has at most 40 messages, and so many bytes. Assumes nothing.
use mathlib.Core.Path.{◌≡◌, refl, sym, subst}
use mathlib.Core.Bool.{Bool, true, false, cond}
use mathlib.Core.List.{List, [], ◌∷◌, ◌++◌, map}
use Prim.Native.Nat.{ℕ, ◌+◌, ◌*◌, ◌≤◌, min}
use native.Mathlib.Nat.{mul-le-mul_right, add-mul}
use native.Mathlib.Omega.{arith}
use borrow.Author.Tests.{ltb-true, ltb-false, leb-true}
use lib.Dec.{leb, ltb, eqb}
use lib.ListN.{length, take, length-append, length-take, length-map}
use Rattle.byte_texts.specs.Ascii.{ascii}
use Rattle.byte_texts.specs.Texts.{visible, dots, shown_text}
use Rattle.offset_lines.specs.Lines.{line_of, fault_text}
use Rattle.offset_lines.proofs.LineLaws.{fault_short}
use Rattle.offset_file_laws.specs.Entries.{LineEntry}
use Rattle.std.specs.Prelude.{Ok, Err}
use Rattle.offset_lines.specs.declared.entry.Entry.TheVariants.{Blank, Item, Says}
use Rattle.text_lines.specs.Texts.{more}
use Rattle.offset_files.specs.Files.{File, no_lines, blank_line, bad_line, new_offset, second_naming, entry_line, file_of}
use Rattle.offset_file_laws.specs.Entries.{lines_of, bodies_of}
use Rattle.text_lines.specs.Messages.{bad_text}
use Rattle.offset_files.specs.Messages.{repeat_text, wrong_count}
use Rattle.text_lines.proofs.MessageLaws.{decimal_short}
use Rattle.offset_files.proofs.MessageLaws.{count_short}
use Rattle.offset_files.proofs.EntryLaws.{chosen}
use Rattle.offset_file_laws.proofs.StepLaws.{told, as_chosen, as_told}
use Rattle.offset_file_laws.proofs.FoldLaws.{entered, file_is}

-- ---- one message

shown_short : (text : List ℕ) → length (shown_text text) ≤ 43
unfolding shown_text dots
shown_short text = go (leb (length text) 40) refl
  where
    go : (t : Bool) → leb (length text) 40 ≡ t → length (cond t (map visible text) (map visible (take 40 text) ++ (46 ∷ 46 ∷ 46 ∷ []))) ≤ 43
    go true e = let l = leb-true (length text) 40 e in rw length-map (omega arith)
    go false e = simp (length-append, length-map, length-take) (omega arith)

module _ (name : List ℕ) where
  -- the bytes of the longest message
  abbrev pub room : ℕ
  room = length name + 146

  pub bad_short : (k : ℕ) (reason body : List ℕ) → length reason ≤ 64 → length (bad_text name k reason body) ≤ room
  unfolding bad_text ascii
  bad_short k reason body h = simp length-append (omega (arith, decimal_short 20 k, shown_short body))

  repeat_short : (k p first : ℕ) → length (repeat_text name k p first) ≤ room
  unfolding repeat_text ascii
  repeat_short k p first = simp length-append (omega (arith, decimal_short 20 k, decimal_short 20 p, decimal_short 20 first))

  -- ---- the messages of a file

  pub record Fits (f : File) : Type 0 where
    pub fits : length f.report ≤ (min 20 f.bads + min 20 f.repeats) * room

  -- one message more, of the first 20
  said_fits : (said text : List ℕ) (n other : ℕ) → length said ≤ (min 20 n + other) * room → length text ≤ room
      → length (said ++ cond (ltb n 20) text []) ≤ (min 20 (more n) + other) * room
  unfolding more
  said_fits said text n other h l = go (ltb n 20) refl
    where
      go : (t : Bool) → ltb n 20 ≡ t → length (said ++ cond t text []) ≤ (min 20 (min 4294967295 (n + 1)) + other) * room
      go true e =
          let b = ltb-true n 20 e in
          let k : min 20 (min 4294967295 (n + 1)) + other ≡ (min 20 n + other) + 1 = omega arith in
          rw (k, add-mul (min 20 n + other) 1 room, length-append) (omega arith)
      go false e =
          let b = ltb-false n 20 e in
          let k : min 20 (min 4294967295 (n + 1)) + other ≡ min 20 n + other = omega arith in
          rw (k, length-append) (omega arith)

  module _ (body : List ℕ) (f : File) (h : Fits f) where
    bad_fits : (reason : List ℕ) → length reason ≤ 64 → Fits (bad_line name body reason f)
    unfolding bad_line
    bad_fits reason l = record {
      fits = said_fits f.report (bad_text name (more f.lines) reason body) f.bads (min 20 f.repeats) h.fits (bad_short (more f.lines) reason body l);
    }

    blank_fits : Fits (blank_line f)
    unfolding blank_line
    blank_fits = record { fits = h.fits }

    second_fits : (p : ℕ) → Fits (second_naming name p f)
    unfolding second_naming
    second_fits p = record {
      fits =
          subst (λ (n : ℕ). length (f.report ++ cond (ltb f.repeats 20) text []) ≤ n * room) (swap (min 20 (more f.repeats)) (min 20 f.bads))
          (said_fits f.report text f.repeats (min 20 f.bads)
          (subst (λ (n : ℕ). length f.report ≤ n * room) (swap (min 20 f.bads) (min 20 f.repeats)) h.fits) (repeat_short (more f.lines) p (f.first p)));
    }
      where
        text : List ℕ
        text = repeat_text name (more f.lines) p (f.first p)

        swap : (a b : ℕ) → a + b ≡ b + a
        swap a b = omega arith

    chosen_fits : (q : ℕ) (s n a : Bool) → Fits (chosen name body q f s n a)
    unfolding chosen new_offset ascii
    chosen_fits q true n a = bad_fits (ascii "an offset behind the last line of a list") (omega arith)
    chosen_fits q false true a = record { fits = h.fits }
    chosen_fits q false false true = blank_fits
    chosen_fits q false false false = second_fits q

    told_fits : (n : ℕ) (t : Bool) → Fits (told name body f n t)
    unfolding told
    told_fits n true = record { fits = blank_fits.fits }
    told_fits n false = record { fits = (bad_fits (wrong_count n f.named) (count_short n f.named)).fits }

    entry_fits : (e : LineEntry) → Fits (entry_line name body e f)
    unfolding entry_line
    entry_fits (Ok Blank) = blank_fits
    entry_fits (Ok (Item q)) = subst Fits (sym (as_chosen name body f q)) (chosen_fits q f.said (eqb (f.first q) 0) (f.again q))
    entry_fits (Ok (Says n)) = subst Fits (sym (as_told name body f n)) (told_fits n (eqb n f.named))
    entry_fits (Err fault) = bad_fits (fault_text fault) (fault_short fault)

  fits_from : (bodies : List (List ℕ)) (f : File) → Fits f → Fits (entered name f bodies)
  unfolding entered
  fits_from [] f h = h
  fits_from (body ∷ bodies) f h = fits_from bodies (entry_line name body (line_of body) f) (entry_fits body f h (line_of body))

  -- a buffer of 40 times that has room for the report of any text
  pub report_room : (text : List ℕ) → length (file_of name text).report ≤ 40 * room
  report_room text =
      let h = subst Fits (sym (file_is name text)) (fits_from (bodies_of (lines_of text)) no_lines (record { fits = omega arith })) in
      let n : min 20 (file_of name text).bads + min 20 (file_of name text).repeats ≤ 40 = omega arith in
      let m = mul-le-mul_right room n in
      omega (arith, h.fits)
