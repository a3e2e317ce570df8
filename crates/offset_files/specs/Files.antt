-- What a file of offsets is, from its bytes: line by line from the top.
use Rattle.std.specs.Prelude.{Bool, true, false, cond, List, [], ◌++◌, ℕ, eqb, ltb, Result, Ok, Err}
use Rattle.byte_texts.specs.Ascii.{ascii}
use Rattle.text_lines.specs.Texts as Texts
use Rattle.text_lines.specs.Texts.{more, body_of}
use Rattle.text_lines.specs.Messages.{bad_text}
use Rattle.offset_lines.specs.Lines.{line_of, fault_text}
use Rattle.offset_lines.specs.declared.entry.Entry.{Entry}
use Rattle.offset_lines.specs.declared.entry.Entry.TheVariants.{Blank, Item, Says}
use Rattle.offset_lines.specs.declared.entry.Fault.{Fault}
use Rattle.offset_files.specs.Messages.{repeat_text, wrong_count}

-- what the lines so far say: how many they are; the line that names an offset first, 0 for none, and whether another does; how many offsets are named;
-- whether a last line of a list is among them; how many lines are bad; how many offsets are named again; and what is said of the first 20 of each
pub record File : Type 0 where
  pub lines : ℕ
  pub first : ℕ → ℕ
  pub again : ℕ → Bool
  pub named : ℕ
  pub said : Bool
  pub bads : ℕ
  pub repeats : ℕ
  pub report : List ℕ

abbrev pub no_lines : File
no_lines = record { lines = 0; first = λ p. 0; again = λ p. false; named = 0; said = false; bads = 0; repeats = 0; report = [] }

-- a line with nothing to say
unfoldable pub blank_line : File → File
blank_line f = record { lines = more f.lines; first = f.first; again = f.again; named = f.named; said = f.said; bads = f.bads; repeats = f.repeats; report = f.report }

-- a line that may not stand there
unfoldable pub bad_line : List ℕ → List ℕ → List ℕ → File → File
bad_line name body reason f = record {
  lines = more f.lines;
  first = f.first;
  again = f.again;
  named = f.named;
  said = f.said;
  bads = more f.bads;
  repeats = f.repeats;
  report = f.report ++ cond (ltb f.bads 20) (bad_text name (more f.lines) reason body) [];
}

-- an offset that no earlier line names
unfoldable pub new_offset : ℕ → File → File
new_offset p f = record {
  lines = more f.lines;
  first = λ q. cond (eqb q p) (more f.lines) (f.first q);
  again = f.again;
  named = more f.named;
  said = f.said;
  bads = f.bads;
  repeats = f.repeats;
  report = f.report;
}

-- an offset that one earlier line names
unfoldable pub second_naming : List ℕ → ℕ → File → File
second_naming name p f = record {
  lines = more f.lines;
  first = f.first;
  again = λ q. cond (eqb q p) true (f.again q);
  named = f.named;
  said = f.said;
  bads = f.bads;
  repeats = more f.repeats;
  report = f.report ++ cond (ltb f.repeats 20) (repeat_text name (more f.lines) p (f.first p)) [];
}

-- an offset: none may stand behind the last line of a list
unfoldable pub offset_line : List ℕ → List ℕ → ℕ → File → File
offset_line name body p f =
    cond f.said (bad_line name body (ascii "an offset behind the last line of a list") f)
    (cond (eqb (f.first p) 0) (new_offset p f) (cond (f.again p) (blank_line f) (second_naming name p f)))

-- the last line of a list
unfoldable pub said_line : List ℕ → List ℕ → ℕ → File → File
said_line name body n f =
    let g = cond (eqb n f.named) (blank_line f) (bad_line name body (wrong_count n f.named) f) in
    record { lines = g.lines; first = g.first; again = g.again; named = g.named; said = true; bads = g.bads; repeats = g.repeats; report = g.report }

unfoldable pub entry_line : List ℕ → List ℕ → Result (Entry ℕ) Fault → File → File
entry_line name body (Ok Blank) f = blank_line f
entry_line name body (Ok (Item p)) f = offset_line name body p f
entry_line name body (Ok (Says n)) f = said_line name body n f
entry_line name body (Err fault) f = bad_line name body (fault_text fault) f

-- one line more
unfoldable pub take_line : List ℕ → List ℕ → File → File
take_line name line f = entry_line name (body_of f.lines line) (line_of (body_of f.lines line)) f

-- a text that is read so far, byte by byte
abbrev pub Text : Type 0
Text = Texts.Text File

abbrev pub no_text : Text
no_text = record { file = no_lines; rest = [] }

abbrev pub take_bytes : List ℕ → Text → List ℕ → Text
take_bytes name t bytes = Texts.take_bytes (take_line name) t bytes

abbrev pub at_end : List ℕ → Text → File
at_end name t = Texts.at_end (take_line name) t

-- what a file is
unfoldable pub file_of : List ℕ → List ℕ → File
file_of name text = at_end name (take_bytes name no_text text)
