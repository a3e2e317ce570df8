-- What is held of a file after one line more, by what the line is. Assumes nothing.
use mathlib.Core.Path.{◌≡◌, refl, sym, ap, ap₂, subst, ◌∙◌}
use mathlib.Core.Bool.{Bool, true, false, cond, not}
use mathlib.Core.List.{List, [], ◌++◌}
use Prim.Native.Nat.{ℕ, ◌+◌, ◌*◌, ◌/◌, ◌%◌, ◌≤◌, ◌<◌, min}
use native.Mathlib.Omega.{arith}
use borrow.Author.Tests.{eq-eqb, ne_eqb, eqb-true, eqb-false}
use lib.Dec.{eqb, ltb}
use lib.ListN.{get_or, set as set_at, length-set}
use Rattle.byte_texts.specs.Ascii.{ascii}
use Rattle.byte_texts.specs.Growth.{Appended}
use Rattle.byte_texts.proofs.GrowthLaws.{appended_as}
use Rattle.sets.specs.Members.{read}
use Rattle.sets.specs.Outcomes.{Outcome}
use Rattle.edits.specs.Rules.{insert_rule}
use Rattle.text_lines.specs.Texts.{more}
use Rattle.text_lines.specs.Messages.{wrong_text}
use Rattle.text_lines.specs.Readers.{Makes}
use Rattle.text_lines.specs.Tallies.{Counts, Reported, blank_counts, bad_counts, said_counts}
use Rattle.text_lines.specs.Reports as Reports
use Rattle.text_lines.specs.Reports.{HoldsReport}
use Rattle.text_lines.specs.declared.tally.Tally.{Tally}
use Rattle.text_lines.proofs.ReportLaws.{reported_first, reported_enough}
use Rattle.offset_files.specs.Files.{File, blank_line, bad_line, said_line, new_offset, second_naming}
use Rattle.offset_files.specs.Holds.{kept, HoldsFile, counts_of, table_word, all_offsets}
use Rattle.offset_files.specs.Messages.{repeat_text, wrong_count}
use Rattle.offset_files.specs.declared.reader.OffsetReader.{OffsetReader}
use Rattle.offset_files.proofs.TableLaws.{entries_new, entries_again, inserted_long, inserted_has}

-- ---- lines that the report alone has

-- other counts of the same offsets
abbrev with_counts : File → Counts → File
with_counts f k = record { lines = k.lines; first = f.first; again = f.again; named = k.named; said = k.said; bads = k.bads; repeats = f.repeats; report = k.report }

module _ {r s : OffsetReader} where
  pub report_made : {counted : Counts → Counts} {step : File → File} → ((f : File) → with_counts f (counted (counts_of f)) ≡ step f)
      → Makes Reports.kept HoldsReport counted r.report.now s.report.now
      → s.report.ghost_name ≡ r.report.ghost_name → s.repeats ≡ r.repeats → s.words ≡ r.words → s.table ≡ r.table → Makes kept HoldsFile step r s
  report_made e m g n w x = record {
    same = rw (g, m.same, w, x) refl;
    holds = λ f h. subst (λ (g : File). HoldsFile g s) (e f) (record {
      counts = m.holds (counts_of f) h.counts;
      repeats = n ∙ h.repeats;
      words_long = rw w h.words_long;
      members = rw w h.members;
      table_long = rw x h.table_long;
      entries = rw x h.entries;
    });
  }

-- the last line of a list
pub said_counted : (name body : List ℕ) (says : ℕ) (f : File) → with_counts f (said_counts name body says (ascii " offsets and names ") (counts_of f)) ≡ said_line name body says f
unfolding said_line blank_line bad_line said_counts blank_counts bad_counts wrong_count wrong_text
said_counted name body says f = go (eqb says f.named)
  where
    shut : Counts → Counts
    shut g = record { lines = g.lines; named = g.named; said = true; bads = g.bads; report = g.report }

    closed : File → File
    closed g = record { lines = g.lines; first = g.first; again = g.again; named = g.named; said = true; bads = g.bads; repeats = g.repeats; report = g.report }

    go : (t : Bool) → with_counts f (shut (cond t (blank_counts (counts_of f)) (bad_counts name body (wrong_text says (ascii " offsets and names ") f.named) (counts_of f))))
        ≡ closed (cond t (blank_line f) (bad_line name body (wrong_count says f.named) f))
    go true = refl
    go false = refl

module _ {f : File} {r : OffsetReader} (h : HoldsFile f r) (offset : ℕ) (l : offset < 65536) where
  -- ---- an offset that one earlier line names

  module _ {s : OffsetReader} (name : List ℕ) (t : s.report.now.tally ≡ record { lines = more r.report.now.tally.lines; named = r.report.now.tally.named; said = r.report.now.tally.said; bads = r.report.now.tally.bads })
      (n : s.repeats ≡ more r.repeats) (w : s.words.now ≡ r.words.now) (x : s.table.now ≡ set_at r.table.now offset (get_or r.table.now offset 0 / 2 * 2 + 1)) where
    second_holds : Reported (f.report ++ cond (ltb f.repeats 20) (repeat_text name (more f.lines) offset (f.first offset)) []) s.report.now.text → HoldsFile (second_naming name offset f) s
    unfolding second_naming
    second_holds g = record {
      counts = record {
        lines = ap (λ (t : Tally). t.lines) t ∙ ap more h.counts.lines;
        named = ap (λ (t : Tally). t.named) t ∙ h.counts.named;
        said = ap (λ (t : Tally). t.said) t ∙ h.counts.said;
        bads = ap (λ (t : Tally). t.bads) t ∙ h.counts.bads;
        report = g;
      };
      repeats = n ∙ ap more h.repeats;
      words_long = rw w h.words_long;
      members = rw w h.members;
      table_long = rw x (length-set r.table.now offset _ ∙ h.table_long);
      entries = rw x (entries_again r.table.now f.first f.again offset (omega (arith, l, h.table_long)) h.entries l);
    }

    -- the first 20 are said
    pub second_said : {first : ℕ} → r.repeats < 20 → first ≡ f.first offset → Appended r.report.now.text s.report.now.text (repeat_text name (more r.report.now.tally.lines) offset first)
        → HoldsFile (second_naming name offset f) s
    second_said few one a =
        second_holds (reported_first h.counts.report _ (rw h.repeats at few) (appended_as a (ap₂ (λ (k n : ℕ). repeat_text name (more k) offset n) h.counts.lines one)))

    pub second_unsaid : 20 ≤ r.repeats → s.report.now.text ≡ r.report.now.text → HoldsFile (second_naming name offset f) s
    second_unsaid many e = second_holds (rw e (reported_enough h.counts.report _ (rw h.repeats at many)))

  -- ---- an offset that no earlier line names

  module _ {o : Outcome} (i : o ≡ insert_rule all_offsets r.words.now offset) where
    member_now : (p : ℕ) → p < 65536 → (read o.words all_offsets).has p ≡ not (eqb (cond (eqb p offset) (more f.lines) (f.first p)) 0)
    unfolding more
    member_now p b = inserted_has r.words.now h.words_long offset l i p ∙ go (eqb p offset) refl
      where
        go : (t : Bool) → eqb p offset ≡ t → cond (eqb offset p) true ((read r.words.now all_offsets).has p) ≡ not (eqb (cond t (more f.lines) (f.first p)) 0)
        go true q = rw (eq-eqb offset p (sym (eqb-true p offset q)), ne_eqb (min 4294967295 (f.lines + 1)) 0 (λ z. omega arith)) refl
        go false q = rw (ne_eqb offset p (λ z. eqb-false p offset q (sym z))) (h.members p b)

    pub new_holds : {s : OffsetReader} → s.report.now.tally ≡ record { lines = more r.report.now.tally.lines; named = more r.report.now.tally.named; said = r.report.now.tally.said; bads = r.report.now.tally.bads }
        → s.report.now.text ≡ r.report.now.text → s.repeats ≡ r.repeats → s.words.now ≡ o.words
        → s.table.now ≡ set_at r.table.now offset (more r.report.now.tally.lines * 2 + get_or r.table.now offset 0 % 2)
        → HoldsFile (new_offset offset f) s
    unfolding new_offset
    new_holds t g n w x = record {
      counts = record {
        lines = ap (λ (t : Tally). t.lines) t ∙ ap more h.counts.lines;
        named = ap (λ (t : Tally). t.named) t ∙ ap more h.counts.named;
        said = ap (λ (t : Tally). t.said) t ∙ h.counts.said;
        bads = ap (λ (t : Tally). t.bads) t ∙ h.counts.bads;
        report = rw g h.counts.report;
      };
      repeats = n ∙ h.repeats;
      words_long = rw w (inserted_long r.words.now h.words_long offset l i);
      members = rw w member_now;
      table_long = rw x (length-set r.table.now offset _ ∙ h.table_long);
      entries = rw x (λ p b. entries_new r.table.now f.first f.again offset (omega (arith, l, h.table_long)) h.entries l (more r.report.now.tally.lines) p b
          ∙ ap (λ (k : ℕ). table_word (cond (eqb p offset) (more k) (f.first p)) (f.again p)) h.counts.lines);
    }
