-- What the last line of a list says of a file with no bad line, and what is held of a text. Assumes nothing.
use mathlib.Core.Path.{◌≡◌, refl, sym, ap, ◌∙◌}
use mathlib.Core.Bool.{Bool, true, false, ◌||◌}
use mathlib.Core.List.{List, [], ◌∷◌, map}
use Prim.Native.Nat.{ℕ, ◌*◌, ◌≤◌, ◌<◌}
use native.Mathlib.Omega.{arith}
use lib.ListN.{length, take}
use lib.Seq.{take_all}
use Rattle.word_bits.specs.Counts.{count}
use Rattle.word_bits.proofs.Ones.{count_ext}
use Rattle.sets.specs.Members.{read}
use Rattle.offset_lines.specs.Lines.{line_of}
use Rattle.offset_file_laws.specs.Entries.{LineEntry}
use Rattle.std.specs.Prelude.{Ok, Err}
use Rattle.offset_lines.specs.declared.entry.Entry.TheVariants.{Blank, Item, Says}
use Rattle.offset_files.specs.Files.{File, no_lines, entry_line, file_of}
use Rattle.offset_file_laws.specs.Entries.{lines_of, bodies_of, entries_of, is_offset, is_last, says_count, some_entry}
use Rattle.offset_files.specs.Holds.{HoldsFile, all_offsets}
use Rattle.offset_files.specs.declared.reader.OffsetReader.{OffsetReader}
use Rattle.offset_file_laws.proofs.StepLaws.{entry_said}
use Rattle.offset_file_laws.proofs.GoodLaws.{never, good_entry, other-named, said_named}
use Rattle.offset_file_laws.proofs.FoldLaws.{entered, file_is}
use Rattle.offset_file_laws.proofs.FileLaws.{good_above, good-names}
use Rattle.offset_file_laws.proofs.CountLaws.{has_line, counted_is}
use Rattle.offset_file_laws.proofs.RoomLaws.{room, report_room}

module _ (name : List ℕ) where
  -- ---- what the last line says

  says_last : (n : ℕ) (e : LineEntry) → says_count n e ≡ true → (is_last e ≡ true) × ((q : ℕ) → is_offset q e ≡ true → ⊥)
  unfolding says_count is_last is_offset
  says_last n (Ok Blank) s = never s
  says_last n (Ok (Item q)) s = never s
  says_last n (Ok (Says m)) s = (refl, λ q o. never o)
  says_last n (Err fault) s = never s

  or_yes : (t : Bool) → (t || true) ≡ true
  or_yes true = refl
  or_yes false = refl

  kept_from : (bodies : List (List ℕ)) (f : File) → f.said ≡ true → (entered name f bodies).named ≡ f.named
  unfolding entered
  kept_from [] f s = refl
  kept_from (body ∷ bodies) f s =
      kept_from bodies (entry_line name body (line_of body) f) (entry_said name body f (line_of body) ∙ ap (λ (t : Bool). t || is_last (line_of body)) s)
      ∙ said_named name body f s (line_of body)

  says_from : (n : ℕ) (bodies : List (List ℕ)) (f : File) → (entered name f bodies).bads ≡ 0 → some_entry (says_count n) (map line_of bodies) ≡ true → (entered name f bodies).named ≡ n
  unfolding entered some_entry
  says_from n [] f z s = never s
  says_from n (body ∷ bodies) f z s = go (says_count n (line_of body)) refl s (says_from n bodies (entry_line name body (line_of body) f) z)
    where
      go : (t : Bool) → says_count n (line_of body) ≡ t → (t || some_entry (says_count n) (map line_of bodies)) ≡ true
          → (some_entry (says_count n) (map line_of bodies) ≡ true → (entered name (entry_line name body (line_of body) f) bodies).named ≡ n)
          → (entered name (entry_line name body (line_of body) f) bodies).named ≡ n
      go true e s next =
          let last = says_last n (line_of body) e in
          kept_from bodies (entry_line name body (line_of body) f) (entry_said name body f (line_of body) ∙ ap (λ (t : Bool). f.said || t) last.0 ∙ or_yes f.said)
          ∙ other-named name body f (line_of body) last.1
          ∙ sym ((good_entry name body f (line_of body) (good_above name bodies (entry_line name body (line_of body) f) z)).right n e)
      go false e s next = next s

  -- in a file with no bad line it says how many offsets the file names
  pub good_says : (text : List ℕ) (n : ℕ) → (file_of name text).bads ≡ 0 → some_entry (says_count n) (entries_of text) ≡ true → (file_of name text).named ≡ n
  unfolding entries_of
  good_says text n z s =
      ap (λ (f : File). f.named) (file_is name text)
      ∙ says_from n (bodies_of (lines_of text)) no_lines (ap (λ (f : File). f.bads) (sym (file_is name text)) ∙ z) s

  -- ---- what is held of the text

  module _ (text : List ℕ) {r : OffsetReader} (h : HoldsFile (file_of name text) r) where
    -- `named` is the number of members
    pub held_count : r.report.now.tally.named ≡ count 65536 (read r.words.now all_offsets).has
    held_count = h.counts.named ∙ (counted_is name text).is ∙ count_ext 65536 (has_line (file_of name text)) (read r.words.now all_offsets).has (λ p l. sym (h.members p l))

    -- with no bad line the members are the offsets that the text's lines name, all of them
    pub held_names : r.report.now.tally.bads ≡ 0 → (p : ℕ) → p < 65536 → (read r.words.now all_offsets).has p ≡ some_entry (is_offset p) (entries_of text)
    held_names z p l = h.members p l ∙ good-names name text (sym h.counts.bads ∙ z) p

    -- and as many as a last line says
    pub held_says : r.report.now.tally.bads ≡ 0 → (n : ℕ) → some_entry (says_count n) (entries_of text) ≡ true → count 65536 (read r.words.now all_offsets).has ≡ n
    held_says z n s = sym held_count ∙ h.counts.named ∙ good_says text n (sym h.counts.bads ∙ z) s

    -- a report that ends before its buffer does is there whole
    pub held_report : r.report.now.text.end < length r.report.now.text.out.now → take r.report.now.text.end r.report.now.text.out.now ≡ (file_of name text).report
    held_report l = h.counts.report.reported ∙ take_all r.report.now.text.end (file_of name text).report (omega (arith, h.counts.report.report_end))

    -- and so is any in a buffer of 40 messages
    pub held_room : 40 * room name ≤ length r.report.now.text.out.now → take r.report.now.text.end r.report.now.text.out.now ≡ (file_of name text).report
    held_room l = h.counts.report.reported ∙ take_all r.report.now.text.end (file_of name text).report (let n = report_room name text in omega (arith, h.counts.report.report_end))
