-- What is held of a file after one line more, by what the line is. Assumes nothing.
use mathlib.Core.Path.{◌≡◌, refl, ap, subst, ◌∙◌}
use mathlib.Core.Bool.{Bool, true, false, cond}
use mathlib.Core.List.{List, [], ◌++◌}
use Prim.Native.Nat.{ℕ, ◌+◌, ◌*◌, ◌≤◌, ◌<◌}
use lib.Dec.{eqb, ltb}
use lib.ListN.{length, get_or}
use Rattle.byte_texts.specs.Ascii.{ascii}
use Rattle.byte_texts.specs.Growth.{Appended}
use Rattle.byte_texts.proofs.GrowthLaws.{appended_as}
use Rattle.text_lines.specs.Texts.{more}
use Rattle.text_lines.specs.Messages.{wrong_text}
use Rattle.text_lines.specs.Readers.{Makes}
use Rattle.text_lines.specs.Tallies.{Counts, Reported, blank_counts, bad_counts, said_counts}
use Rattle.text_lines.specs.Reports as Reports
use Rattle.text_lines.specs.Reports.{HoldsReport}
use Rattle.text_lines.specs.declared.tally.Tally.{Tally}
use Rattle.text_lines.proofs.ReportLaws.{reported_first, reported_enough}
use Rattle.pair_files.specs.Files.{PairFile, blank_line, bad, bad_line, with_word, named, accepted, said_line}
use Rattle.pair_files.specs.Holds.{kept, HoldsPairs, counts_of}
use Rattle.pair_files.specs.Messages.{wrong_count}
use Rattle.pair_files.specs.declared.reader.PairReader.{PairReader}
use Rattle.pair_files.proofs.TableLaws.{set_word, length_word, word_at}

-- ---- lines that the report alone has

-- other counts of the same pairs
abbrev with_counts : PairFile → Counts → PairFile
with_counts f k = record { lines = k.lines; to = f.to; from = f.from; list = f.list; pairs = k.named; said = k.said; bads = k.bads; report = k.report }

module _ {r s : PairReader} where
  pub report_made : {counted : Counts → Counts} {step : PairFile → PairFile} → ((f : PairFile) → with_counts f (counted (counts_of f)) ≡ step f)
      → Makes Reports.kept HoldsReport counted r.report.now s.report.now
      → s.report.ghost_name ≡ r.report.ghost_name → s.size ≡ r.size → s.to ≡ r.to → s.from ≡ r.from → Makes kept HoldsPairs step r s
  report_made e m g n a b = record {
    same = rw (g, m.same, n, a, b) refl;
    holds = λ f h. subst (λ (g : PairFile). HoldsPairs g s) (e f)
        (record { counts = m.holds (counts_of f) h.counts; to_long = rw a h.to_long; to-words = rw a h.to-words; from_long = rw b h.from_long; from-words = rw b h.from-words });
  }

-- the last line of a list
pub said_counted : (name body : List ℕ) (says : ℕ) (f : PairFile) → with_counts f (said_counts name body says (ascii " pairs and names ") (counts_of f)) ≡ said_line name body says f
unfolding said_line blank_line bad_line bad said_counts blank_counts bad_counts wrong_count wrong_text
said_counted name body says f = go (eqb says f.pairs)
  where
    shut : Counts → Counts
    shut g = record { lines = g.lines; named = g.named; said = true; bads = g.bads; report = g.report }

    closed : PairFile → PairFile
    closed g = record { lines = g.lines; to = g.to; from = g.from; list = g.list; pairs = g.pairs; said = true; bads = g.bads; report = g.report }

    go : (t : Bool) → with_counts f (shut (cond t (blank_counts (counts_of f)) (bad_counts name body (wrong_text says (ascii " pairs and names ") f.pairs) (counts_of f))))
        ≡ closed (cond t (blank_line f) (bad_line name body (wrong_count says f.pairs) f))
    go true = refl
    go false = refl

module _ {f : PairFile} {r : PairReader} (h : HoldsPairs f r) where
  -- ---- a bad pair, with what is said of it

  module _ (text : ℕ → List ℕ) {s : PairReader} (t : s.report.now.tally ≡ record { lines = r.report.now.tally.lines; named = r.report.now.tally.named; said = r.report.now.tally.said; bads = more r.report.now.tally.bads })
      (a : s.to.now ≡ r.to.now) (b : s.from.now ≡ r.from.now) where
    bad_holds : Reported (f.report ++ cond (ltb f.bads 20) (text f.lines) []) s.report.now.text → HoldsPairs (bad (text f.lines) f) s
    unfolding bad
    bad_holds w = record {
      counts = record {
        lines = ap (λ (t : Tally). t.lines) t ∙ h.counts.lines;
        named = ap (λ (t : Tally). t.named) t ∙ h.counts.named;
        said = ap (λ (t : Tally). t.said) t ∙ h.counts.said;
        bads = ap (λ (t : Tally). t.bads) t ∙ ap more h.counts.bads;
        report = w;
      };
      to_long = rw a h.to_long;
      to-words = rw a h.to-words;
      from_long = rw b h.from_long;
      from-words = rw b h.from-words;
    }

    -- it is among the first 20
    pub bad_said : r.report.now.tally.bads < 20 → Appended r.report.now.text s.report.now.text (text r.report.now.tally.lines) → HoldsPairs (bad (text f.lines) f) s
    bad_said l w = bad_holds (reported_first h.counts.report _ (rw h.counts.bads at l) (appended_as w (ap text h.counts.lines)))

    pub bad_unsaid : 20 ≤ r.report.now.tally.bads → s.report.now.text ≡ r.report.now.text → HoldsPairs (bad (text f.lines) f) s
    bad_unsaid g e = bad_holds (rw e (reported_enough h.counts.report _ (rw h.counts.bads at g)))

  -- ---- two offsets

  module _ (old new : ℕ) {s : PairReader} where
    pub named_holds : old < 65536 → new < 65536
        → s.report.now.tally ≡ record { lines = more r.report.now.tally.lines; named = r.report.now.tally.named; said = r.report.now.tally.said; bads = r.report.now.tally.bads }
        → s.report.now.text ≡ r.report.now.text
        → s.to.now ≡ set_word r.to.now old (more r.report.now.tally.lines * 65536 + new) → s.from.now ≡ set_word r.from.now new (more r.report.now.tally.lines * 65536 + old)
        → HoldsPairs (named old new f) s
    unfolding named
    named_holds l m t w a b = record {
      counts = record {
        lines = ap (λ (t : Tally). t.lines) t ∙ ap more h.counts.lines;
        named = ap (λ (t : Tally). t.named) t ∙ h.counts.named;
        said = ap (λ (t : Tally). t.said) t ∙ h.counts.said;
        bads = ap (λ (t : Tally). t.bads) t ∙ h.counts.bads;
        report = rw w h.counts.report;
      };
      to_long = ap length a ∙ length_word r.to.now old _ ∙ h.to_long;
      to-words = λ p n. ap (λ (ws : List ℕ). get_or ws p 0) a ∙ word_at r.to.now f.to old (more r.report.now.tally.lines * 65536 + new) h.to_long l h.to-words p n
          ∙ ap (λ (x : ℕ). with_word f.to old (more x * 65536 + new) p) h.counts.lines;
      from_long = ap length b ∙ length_word r.from.now new _ ∙ h.from_long;
      from-words = λ q n. ap (λ (ws : List ℕ). get_or ws q 0) b ∙ word_at r.from.now f.from new (more r.report.now.tally.lines * 65536 + old) h.from_long m h.from-words q n
          ∙ ap (λ (x : ℕ). with_word f.from new (more x * 65536 + old) q) h.counts.lines;
    }

    pub accepted_holds : s.report.now.tally ≡ record { lines = r.report.now.tally.lines; named = more r.report.now.tally.named; said = r.report.now.tally.said; bads = r.report.now.tally.bads }
        → s.report.now.text ≡ r.report.now.text → s.to.now ≡ r.to.now → s.from.now ≡ r.from.now → HoldsPairs (accepted old new f) s
    unfolding accepted
    accepted_holds t w a b = record {
      counts = record {
        lines = ap (λ (t : Tally). t.lines) t ∙ h.counts.lines;
        named = ap (λ (t : Tally). t.named) t ∙ ap more h.counts.named;
        said = ap (λ (t : Tally). t.said) t ∙ h.counts.said;
        bads = ap (λ (t : Tally). t.bads) t ∙ h.counts.bads;
        report = rw w h.counts.report;
      };
      to_long = rw a h.to_long;
      to-words = rw a h.to-words;
      from_long = rw b h.from_long;
      from-words = rw b h.from-words;
    }
