-- What a file of pairs is, from its bytes: line by line from the top. `size` is the new length.
use Rattle.std.specs.Prelude.{Bool, true, false, cond, ◌&&◌, List, [], ◌∷◌, ◌++◌, ℕ, ◌+◌, ◌*◌, eqb, ltb, Result, Ok, Err}
use Rattle.byte_texts.specs.Ascii.{ascii}
use Rattle.text_lines.specs.Texts.{Text, more, body_of, take_bytes, at_end}
use Rattle.text_lines.specs.Messages.{bad_text}
use Rattle.pair_lines.specs.Lines.{pair_line_of}
use Rattle.pair_lines.specs.declared.pair.Pair.{Pair}
use Rattle.offset_lines.specs.Lines.{fault_text}
use Rattle.offset_lines.specs.declared.entry.Entry.{Entry}
use Rattle.offset_lines.specs.declared.entry.Entry.TheVariants.{Blank, Item, Says}
use Rattle.offset_lines.specs.declared.entry.Fault.{Fault}
use Rattle.renumber_steps.specs.declared.pair.Pair as Pairs
use Rattle.pair_files.specs.Messages.{faults_text, wrong_count}

-- what the lines so far say: how many they are; of each old offset and of each new one, where the first line that names it is k and names it with the offset x, k * 65536 + x,
-- and 0 where none does; the pairs that no question refuses, in the order of the lines, and how many they are; whether a last line of a list is among the lines;
-- how many lines are bad; and what is said of the first 20
pub record PairFile : Type 0 where
  pub lines : ℕ
  pub to : ℕ → ℕ
  pub from : ℕ → ℕ
  pub list : List Pairs.Pair
  pub pairs : ℕ
  pub said : Bool
  pub bads : ℕ
  pub report : List ℕ

abbrev pub no_pairs : PairFile
no_pairs = record { lines = 0; to = λ p. 0; from = λ q. 0; list = []; pairs = 0; said = false; bads = 0; report = [] }

-- a line with nothing to say
unfoldable pub blank_line : PairFile → PairFile
blank_line f = record { lines = more f.lines; to = f.to; from = f.from; list = f.list; pairs = f.pairs; said = f.said; bads = f.bads; report = f.report }

-- one of the lines is bad, and of the first 20 this is said
unfoldable pub bad : List ℕ → PairFile → PairFile
bad text f = record {
  lines = f.lines;
  to = f.to;
  from = f.from;
  list = f.list;
  pairs = f.pairs;
  said = f.said;
  bads = more f.bads;
  report = f.report ++ cond (ltb f.bads 20) text [];
}

-- a line that may not stand there
unfoldable pub bad_line : List ℕ → List ℕ → List ℕ → PairFile → PairFile
bad_line name body reason f = bad (bad_text name (more f.lines) reason body) (blank_line f)

-- an offset's word, where it has none
unfoldable pub with_word : (ℕ → ℕ) → ℕ → ℕ → ℕ → ℕ
with_word table p word q = cond (eqb q p) (cond (eqb (table p) 0) word (table p)) (table q)

-- a line that names two offsets, each where no earlier line names it
unfoldable pub named : ℕ → ℕ → PairFile → PairFile
named old new f = record {
  lines = more f.lines;
  to = with_word f.to old (more f.lines * 65536 + new);
  from = with_word f.from new (more f.lines * 65536 + old);
  list = f.list;
  pairs = f.pairs;
  said = f.said;
  bads = f.bads;
  report = f.report;
}

-- the two are a pair
unfoldable pub accepted : ℕ → ℕ → PairFile → PairFile
accepted old new f = record {
  lines = f.lines;
  to = f.to;
  from = f.from;
  list = f.list ++ (record { old = old; new = new } ∷ []);
  pairs = more f.pairs;
  said = f.said;
  bads = f.bads;
  report = f.report;
}

-- two offsets: a pair where 10, 11 and 4 do not refuse it, and none may stand behind the last line of a list
unfoldable pub pair_line : List ℕ → List ℕ → ℕ → ℕ → ℕ → PairFile → PairFile
pair_line name body size old new f =
    cond f.said (bad_line name body (ascii "a pair behind the last line of a list") f)
    (cond (eqb (f.to old) 0 && (eqb (f.from new) 0 && ltb new size)) (accepted old new (named old new f))
    (bad (faults_text name (more f.lines) size old new (f.to old) (f.from new)) (named old new f)))

-- the last line of a list
unfoldable pub said_line : List ℕ → List ℕ → ℕ → PairFile → PairFile
said_line name body n f =
    let g = cond (eqb n f.pairs) (blank_line f) (bad_line name body (wrong_count n f.pairs) f) in
    record { lines = g.lines; to = g.to; from = g.from; list = g.list; pairs = g.pairs; said = true; bads = g.bads; report = g.report }

unfoldable pub entry_line : List ℕ → List ℕ → ℕ → Result (Entry Pair) Fault → PairFile → PairFile
entry_line name body size (Ok Blank) f = blank_line f
entry_line name body size (Ok (Item pair)) f = pair_line name body size pair.old pair.new f
entry_line name body size (Ok (Says n)) f = said_line name body n f
entry_line name body size (Err fault) f = bad_line name body (fault_text fault) f

-- one line more
unfoldable pub take_pair : List ℕ → ℕ → List ℕ → PairFile → PairFile
take_pair name size line f = entry_line name (body_of f.lines line) size (pair_line_of (body_of f.lines line)) f

abbrev pub PairText : Type 0
PairText = Text PairFile

abbrev pub no_text : PairText
no_text = record { file = no_pairs; rest = [] }

-- what a file is
unfoldable pub pair_file_of : List ℕ → ℕ → List ℕ → PairFile
pair_file_of name size text = at_end (take_pair name size) (take_bytes (take_pair name size) no_text text)
