-- A text that is read piece by piece, from its start to its end. Assumes nothing.
use mathlib.Core.Path.{◌≡◌, refl, sym, subst, ◌∙◌}
use mathlib.Core.List.{List, [], ◌++◌, append-nil}
use Rattle.std.specs.Prelude.{Option}
use Rattle.std.specs.Io.KnownBytes.{Consumes, IsAtEnd}
use Rattle.std.proofs.KnownBytes.{Consumes-nil, Consumes-trans, Consumes-all}
use Prim.Native.Nat.{ℕ}
use Rattle.text_lines.specs.Rests.{HoldsRest}
use Rattle.text_lines.specs.Readers.{HoldsText}
use Rattle.text_lines.specs.Texts.{Text, take_bytes, at_end}
use Rattle.text_lines.specs.declared.open_line.OpenLine.{OpenLine}
use Rattle.text_lines.proofs.PieceLaws.{pieces}
use Rattle.offset_files.specs.Files as Offsets
use Rattle.offset_files.specs.Holds.{HoldsFile}
use Rattle.offset_files.specs.declared.reader.OffsetReader.{OffsetReader}
use Rattle.pair_files.specs.Files as Pairs
use Rattle.pair_files.specs.Holds.{HoldsPairs}
use Rattle.pair_files.specs.declared.reader.PairReader.{PairReader}
use Rattle.tool_files.specs.Loading.{ReadWhole, Usable, UsablePairs}

module _ {S K F : Type 0} (kept : S → K) (step : K → List ℕ → F → F) (H : F → S → Type 0) (start : S) (left : Option (List ℕ)) where
  -- between two reads: the reader keeps what it had at the start, and holds the text of the bytes so far. `step` is what one line more makes of a file
  pub record Loading (s : S) (line : OpenLine) (rest : Option (List ℕ)) : Type 0 where
    pub same : kept s ≡ kept start
    pub text : List ℕ
    pub given : Consumes left rest text
    pub so_far : (none : F) → H none start → HoldsText H (take_bytes (step (kept start)) (record { file = none; rest = [] }) text) s line

module _ {S K F : Type 0} {kept : S → K} {step : K → List ℕ → F → F} {H : F → S → Type 0} {start : S} {left : Option (List ℕ)} where
  -- nothing is read yet
  pub read_none : {line : OpenLine} → HoldsRest [] line → Loading kept step H start left start line left
  unfolding take_bytes
  read_none e = record { same = refl; text = []; given = Consumes-nil left; so_far = λ none h. record { file = h; rest = e } }

  -- a piece more
  pub read_more : {s s' : S} {line line' : OpenLine} {rest rest' : Option (List ℕ)} (piece : List ℕ) → Loading kept step H start left s line rest → Consumes rest rest' piece → kept s' ≡ kept s
      → ((t : Text F) → HoldsText H t s line → HoldsText H (take_bytes (step (kept s)) t piece) s' line') → Loading kept step H start left s' line' rest'
  read_more {s' = s'} {line' = line'} {rest = rest} {rest' = rest'} piece l g e k = record {
    same = e ∙ l.same;
    text = l.text ++ piece;
    given = Consumes-trans left rest rest' l.text piece l.given g;
    so_far = λ none h.
        subst (λ (t : Text F). HoldsText H t s' line') (sym (pieces (step (kept start)) (record { file = none; rest = [] }) l.text piece)) (rw l.same at k _ (l.so_far none h));
  }

  -- the end of the text
  pub read_end : {s : S} {line : OpenLine} {rest : Option (List ℕ)} (rest' : Option (List ℕ)) (s' : S) → Loading kept step H start left s line rest → Consumes rest rest' [] × IsAtEnd rest'
      → ((t : Text F) → HoldsText H t s line → H (at_end (step (kept s)) t) s') → (none : F) → H none start → ReadWhole (step (kept start)) none left (λ f. H f s')
  read_end {rest = rest} rest' s' l g k none h = record {
    text = l.text;
    known = Consumes-all left rest' l.text [] l.text (subst (Consumes left rest') (append-nil l.text) (Consumes-trans left rest rest' l.text [] l.given g.0)) g.1 refl;
    holds = rw l.same at k _ (l.so_far none h);
  }

-- a whole text with no bad line
pub usable : {name : List ℕ} {left : Option (List ℕ)} {r : OffsetReader} → ReadWhole (Offsets.take_line name) Offsets.no_lines left (λ f. HoldsFile f r) → r.report.now.tally.bads ≡ 0 → Usable name r.words.now r.table.now
unfolding Offsets.file_of
usable h none = record {
  text = h.text;
  good = sym h.holds.counts.bads ∙ none;
  members = h.holds.members;
  table_long = h.holds.table_long;
  entries = h.holds.entries;
}

pub usable_pairs : {name : List ℕ} {left : Option (List ℕ)} {size : ℕ} {r : PairReader} → ReadWhole (Pairs.take_pair name size) Pairs.no_pairs left (λ f. HoldsPairs f r) → r.report.now.tally.bads ≡ 0
    → UsablePairs name size r.to.now r.from.now
unfolding Pairs.pair_file_of
usable_pairs h none = record {
  text = h.text;
  good = sym h.holds.counts.bads ∙ none;
  to_long = h.holds.to_long;
  to-words = h.holds.to-words;
  from_long = h.holds.from_long;
  from-words = h.holds.from-words;
}
