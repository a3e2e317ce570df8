-- A report has what is said of at most 20 lines, and so many bytes. Assumes nothing.
use mathlib.Core.Path.{◌≡◌, refl, ◌∙◌}
use mathlib.Core.Bool.{Bool, true, false, cond, ◌&&◌}
use mathlib.Core.List.{List, [], ◌++◌}
use Prim.Native.Nat.{ℕ, ◌+◌, ◌*◌, ◌/◌, ◌≤◌, ◌<◌, min}
use native.Mathlib.Nat.{mul-le-mul_right, add-mul}
use native.Mathlib.Omega.{arith}
use borrow.Author.Tests.{ltb-true, ltb-false}
use lib.Dec.{eqb, ltb}
use lib.ListN.{length, take, length-append}
use lib.Seq.{take_all}
use Rattle.byte_texts.specs.Ascii.{ascii}
use Rattle.text_lines.specs.Texts.{more, body_of}
use Rattle.text_lines.specs.Messages.{bad_text}
use Rattle.text_lines.proofs.MessageLaws.{decimal_short}
use Rattle.offset_file_laws.proofs.RoomLaws.{bad_short}
use Rattle.pair_lines.specs.Lines.{pair_line_of}
use Rattle.std.specs.Prelude.{Result, Ok, Err}
use Rattle.offset_lines.specs.Lines.{fault_text}
use Rattle.offset_lines.specs.declared.entry.Entry.{Entry}
use Rattle.offset_lines.specs.declared.entry.Entry.TheVariants.{Blank, Item, Says}
use Rattle.offset_lines.specs.declared.entry.Fault.{Fault}
use Rattle.offset_lines.proofs.LineLaws.{fault_short}
use Rattle.pair_lines.specs.declared.pair.Pair.{Pair}
use Rattle.pair_files.specs.Messages.{named_text, beyond_text, named_fault, beyond_fault, faults_text, wrong_count}
use Rattle.pair_files.specs.Files.{PairFile, no_text, blank_line, bad, bad_line, named, accepted, pair_line, said_line, entry_line, take_pair, pair_file_of}
use Rattle.pair_files.specs.Holds.{HoldsPairs}
use Rattle.pair_files.specs.declared.reader.PairReader.{PairReader}
use Rattle.pair_files.proofs.MessageLaws.{count_short}
use Rattle.pair_file_laws.proofs.KeepLaws.{text_keeps}

module _ (name : List ℕ) where
  -- the bytes of what is said of one line: three messages of a pair, or one of another bad line
  abbrev pub room : ℕ
  room = 3 * length name + 327

  -- ---- one line

  named_short : (k : ℕ) (side : List ℕ) (offset word : ℕ) → length side ≤ 13 → length (named_fault name k side offset word) ≤ length name + 107
  unfolding named_fault named_text ascii
  named_short k side offset word h = go (eqb word 0)
    where
      go : (t : Bool) → length (cond t [] (named_text name k side offset (word / 65536))) ≤ length name + 107
      go true = omega arith
      go false = simp length-append (omega (arith, decimal_short 20 k, decimal_short 20 offset, decimal_short 20 (word / 65536)))

  beyond_short : (k offset size : ℕ) → length (beyond_fault name k offset size) ≤ length name + 113
  unfolding beyond_fault beyond_text ascii
  beyond_short k offset size = go (ltb offset size)
    where
      go : (t : Bool) → length (cond t [] (beyond_text name k offset size)) ≤ length name + 113
      go true = omega arith
      go false = simp length-append (omega (arith, decimal_short 20 k, decimal_short 20 offset, decimal_short 20 size))

  faults_short : (k size old new was came : ℕ) → length (faults_text name k size old new was came) ≤ room
  unfolding faults_text ascii
  faults_short k size old new was came =
      let a = named_short k (ascii ": old offset ") old was (omega arith) in
      let b = named_short k (ascii ": new offset ") new came (omega arith) in
      let c = beyond_short k new size in
      simp length-append (omega arith)

  line_short : (k : ℕ) (reason body : List ℕ) → length reason ≤ 64 → length (bad_text name k reason body) ≤ room
  line_short k reason body h = let b = bad_short name k reason body h in omega arith

  -- ---- the lines of a file

  pub record Fits (f : PairFile) : Type 0 where
    pub fits : length f.report ≤ min 20 f.bads * room

  -- one bad line more, of the first 20
  bad_fits : (text : List ℕ) (f : PairFile) → length text ≤ room → Fits f → Fits (bad text f)
  unfolding bad more
  bad_fits text f l h = record { fits = go (ltb f.bads 20) refl }
    where
      go : (t : Bool) → ltb f.bads 20 ≡ t → length (f.report ++ cond t text []) ≤ min 20 (min 4294967295 (f.bads + 1)) * room
      go true e =
          let b = ltb-true f.bads 20 e in
          let k : min 20 (min 4294967295 (f.bads + 1)) ≡ min 20 f.bads + 1 = omega arith in
          let g = h.fits in
          rw (k, add-mul (min 20 f.bads) 1 room, length-append) (omega arith)
      go false e =
          let b = ltb-false f.bads 20 e in
          let k : min 20 (min 4294967295 (f.bads + 1)) ≡ min 20 f.bads = omega arith in
          let g = h.fits in
          rw (k, length-append) (omega arith)

  module _ (body : List ℕ) (size : ℕ) (f : PairFile) (h : Fits f) where
    blank_fits : Fits (blank_line f)
    unfolding blank_line
    blank_fits = record { fits = h.fits }

    line_fits : (reason : List ℕ) → length reason ≤ 64 → Fits (bad_line name body reason f)
    unfolding bad_line
    line_fits reason l = bad_fits (bad_text name (more f.lines) reason body) (blank_line f) (line_short (more f.lines) reason body l) blank_fits

    named_fits : (old new : ℕ) → Fits (named old new f)
    unfolding named
    named_fits old new = record { fits = h.fits }

    accepted_fits : (old new : ℕ) → Fits (accepted old new (named old new f))
    unfolding accepted
    accepted_fits old new = record { fits = (named_fits old new).fits }

    pair_fits : (old new : ℕ) → Fits (pair_line name body size old new f)
    unfolding pair_line ascii
    pair_fits old new = go f.said (eqb (f.to old) 0 && (eqb (f.from new) 0 && ltb new size))
      where
        go : (said passes : Bool)
            → Fits
            (cond said (bad_line name body (ascii "a pair behind the last line of a list") f)
            (cond passes (accepted old new (named old new f)) (bad (faults_text name (more f.lines) size old new (f.to old) (f.from new)) (named old new f))))
        go true passes = line_fits (ascii "a pair behind the last line of a list") (omega arith)
        go false true = accepted_fits old new
        go false false = bad_fits _ (named old new f) (faults_short (more f.lines) size old new (f.to old) (f.from new)) (named_fits old new)

    said_fits : (n : ℕ) → Fits (said_line name body n f)
    unfolding said_line
    said_fits n = closed (go (eqb n f.pairs))
      where
        closed : {g : PairFile} → Fits g
            → Fits (record { lines = g.lines; to = g.to; from = g.from; list = g.list; pairs = g.pairs; said = true; bads = g.bads; report = g.report })
        closed k = record { fits = k.fits }

        go : (t : Bool) → Fits (cond t (blank_line f) (bad_line name body (wrong_count n f.pairs) f))
        go true = blank_fits
        go false = line_fits (wrong_count n f.pairs) (count_short n f.pairs)

    entry_fits : (e : Result (Entry Pair) Fault) → Fits (entry_line name body size e f)
    unfolding entry_line
    entry_fits (Ok Blank) = blank_fits
    entry_fits (Ok (Item x)) = pair_fits x.old x.new
    entry_fits (Ok (Says n)) = said_fits n
    entry_fits (Err fault) = line_fits (fault_text fault) (fault_short fault)

  module _ (size : ℕ) where
    step_fits : (line : List ℕ) (f : PairFile) → Fits f → Fits (take_pair name size line f)
    unfolding take_pair
    step_fits line f h = entry_fits (body_of f.lines line) size f h (pair_line_of (body_of f.lines line))

    file_fits : (text : List ℕ) → Fits (pair_file_of name size text)
    unfolding pair_file_of
    file_fits text = text_keeps (take_pair name size) Fits step_fits no_text text (record { fits = omega arith })

    -- a buffer of 20 times that has room for the report of any text
    pub report_room : (text : List ℕ) → length (pair_file_of name size text).report ≤ 20 * room
    report_room text =
        let h = file_fits text in
        let n : min 20 (pair_file_of name size text).bads ≤ 20 = omega arith in
        let m = mul-le-mul_right room n in
        omega (arith, h.fits)

    module _ (text : List ℕ) {r : PairReader} (h : HoldsPairs (pair_file_of name size text) r) where
      -- a report that ends before its buffer is whole
      pub held_report : r.report.now.text.end < length r.report.now.text.out.now → take r.report.now.text.end r.report.now.text.out.now ≡ (pair_file_of name size text).report
      held_report l = h.counts.report.reported ∙ take_all r.report.now.text.end (pair_file_of name size text).report (omega (arith, h.counts.report.report_end))

      -- and so is any in a buffer of that room
      pub held_room : 20 * room ≤ length r.report.now.text.out.now → take r.report.now.text.end r.report.now.text.out.now ≡ (pair_file_of name size text).report
      held_room l =
          h.counts.report.reported
          ∙ take_all r.report.now.text.end (pair_file_of name size text).report (let n = report_room text in omega (arith, h.counts.report.report_end))
