-- What is counted of the lines of a text, and what a reader holds of that.
use Rattle.std.specs.Prelude.{◌≡◌, Bool, true, cond, List, [], ◌++◌, ℕ, min, eqb, ltb, length, take}
use Rattle.byte_texts.specs.declared.texts.Text.{Text}
use Rattle.text_lines.specs.Texts.{more}
use Rattle.text_lines.specs.Messages.{bad_text, wrong_text}
use Rattle.text_lines.specs.declared.tally.Tally.{Tally}

-- how many lines are ended, how many items they name, whether a last line of a list is among them, how many are bad, and what is said of them
pub record Counts : Type 0 where
  pub lines : ℕ
  pub named : ℕ
  pub said : Bool
  pub bads : ℕ
  pub report : List ℕ

-- a report that starts with what is said, as far as its buffer has room
pub record Reported (said : List ℕ) (report : Text) : Type 0 where
  pub report_end : report.end ≡ min (length report.out.now) (length said)
  pub reported : take report.end report.out.now ≡ take report.end said

-- the report stands at the start of its buffer
pub record HoldsCounts (f : Counts) (r : Tally) (text : Text) : Type 0 where
  pub lines : r.lines ≡ f.lines
  pub named : r.named ≡ f.named
  pub said : r.said ≡ f.said
  pub bads : r.bads ≡ f.bads
  pub report : Reported f.report text

-- a line with nothing to say
unfoldable pub blank_counts : Counts → Counts
blank_counts f = record { lines = more f.lines; named = f.named; said = f.said; bads = f.bads; report = f.report }

-- a line that may not stand there: the first 20 are said
unfoldable pub bad_counts : List ℕ → List ℕ → List ℕ → Counts → Counts
bad_counts name body reason f = record {
  lines = more f.lines;
  named = f.named;
  said = f.said;
  bads = more f.bads;
  report = f.report ++ cond (ltb f.bads 20) (bad_text name (more f.lines) reason body) [];
}

-- the last line of a list
unfoldable pub said_counts : List ℕ → List ℕ → ℕ → List ℕ → Counts → Counts
said_counts name body n items f =
    let g = cond (eqb n f.named) (blank_counts f) (bad_counts name body (wrong_text n items f.named) f) in
    record { lines = g.lines; named = g.named; said = true; bads = g.bads; report = g.report }
