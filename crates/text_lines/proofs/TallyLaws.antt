-- What is counted after one line more, by what the line is. Assumes nothing.
use mathlib.Core.Path.{◌≡◌, refl, sym, ap, subst, ◌∙◌}
use mathlib.Core.Bool.{true, cond}
use mathlib.Core.List.{List, [], ◌++◌}
use Prim.Native.Nat.{ℕ, ◌≤◌, ◌<◌}
use borrow.Author.Tests.{eq-eqb, ne_eqb}
use lib.Dec.{ltb}
use Rattle.byte_texts.specs.Growth.{Appended}
use Rattle.byte_texts.specs.declared.texts.Text.{Text}
use Rattle.byte_texts.proofs.GrowthLaws.{appended_as}
use Rattle.text_lines.specs.Texts.{more}
use Rattle.text_lines.specs.Messages.{bad_text, wrong_text}
use Rattle.text_lines.specs.Tallies.{Counts, Reported, HoldsCounts, blank_counts, bad_counts, said_counts}
use Rattle.text_lines.specs.declared.tally.Tally.{Tally}
use Rattle.text_lines.proofs.ReportLaws.{reported_first, reported_enough}

-- a line more, one of them bad, and the last line of a list
abbrev pub blank_tally : Tally → Tally
blank_tally r = record { lines = more r.lines; named = r.named; said = r.said; bads = r.bads }

abbrev pub bad_tally : Tally → Tally
bad_tally r = record { lines = more r.lines; named = r.named; said = r.said; bads = more r.bads }

abbrev pub said_tally : Tally → Tally
said_tally r = record { lines = r.lines; named = r.named; said = true; bads = r.bads }

module _ {f : Counts} {r : Tally} {before : Text} (h : HoldsCounts f r before) where
  pub blank_holds : HoldsCounts (blank_counts f) (blank_tally r) before
  unfolding blank_counts
  blank_holds = record { lines = ap more h.lines; named = h.named; said = h.said; bads = h.bads; report = h.report }

  -- a bad line, with what is said of it
  module _ (name reason body : List ℕ) where
    bad_holds : {after : Text} → Reported (f.report ++ cond (ltb f.bads 20) (bad_text name (more f.lines) reason body) []) after
        → HoldsCounts (bad_counts name body reason f) (bad_tally r) after
    unfolding bad_counts
    bad_holds w = record { lines = ap more h.lines; named = h.named; said = h.said; bads = ap more h.bads; report = w }

    -- it is among the first 20
    pub bad_said : r.bads < 20 → {after : Text} → Appended before after (bad_text name (more r.lines) reason body) → HoldsCounts (bad_counts name body reason f) (bad_tally r) after
    bad_said l a = bad_holds (reported_first h.report _ (rw h.bads at l) (appended_as a (ap (λ (k : ℕ). bad_text name (more k) reason body) h.lines)))

    pub bad_unsaid : 20 ≤ r.bads → HoldsCounts (bad_counts name body reason f) (bad_tally r) before
    bad_unsaid g = bad_holds (reported_enough h.report _ (rw h.bads at g))

-- ---- the last line of a list

holds_closed : {f : Counts} {r : Tally} {report : Text} → HoldsCounts f r report
    → HoldsCounts (record { lines = f.lines; named = f.named; said = true; bads = f.bads; report = f.report }) (said_tally r) report
holds_closed h = record { lines = h.lines; named = h.named; said = refl; bads = h.bads; report = h.report }

module _ {f : Counts} {r : Tally} {before : Text} (h : HoldsCounts f r before) (name body : List ℕ) (says : ℕ) (items : List ℕ) {s : Tally} {report : Text} where
  pub said_right : says ≡ r.named → HoldsCounts (blank_counts f) s report → HoldsCounts (said_counts name body says items f) (said_tally s) report
  unfolding said_counts
  said_right e g = rw (eq-eqb says f.named (e ∙ h.named)) (holds_closed g)

  pub said_wrong : (says ≡ r.named → ⊥) → HoldsCounts (bad_counts name body (wrong_text says items r.named) f) s report → HoldsCounts (said_counts name body says items f) (said_tally s) report
  unfolding said_counts
  said_wrong n g = rw (ne_eqb says f.named (λ e. n (e ∙ sym h.named))) (holds_closed (subst (λ (k : ℕ). HoldsCounts (bad_counts name body (wrong_text says items k) f) s report) h.named g))
