-- What is held at the start of a text. Assumes nothing.
use mathlib.Core.Path.{◌≡◌, refl, ap, ◌∙◌}
use mathlib.Core.Bool.{false}
use native.Mathlib.Omega.{arith}
use lib.ListN.{length, replicate}
use Rattle.std.proofs.lemmas.List.{length-replicate}
use Rattle.offset_files.specs.Files.{no_lines}
use Rattle.offset_files.specs.Holds.{HoldsFile, table_word}
use Rattle.offset_files.specs.declared.reader.OffsetReader.{OffsetReader}
use Rattle.offset_files.proofs.TableLaws.{zero_at, zero_members}

pub start_holds : (r : OffsetReader) {s : OffsetReader} → s.report.now.tally ≡ record { lines = 0; named = 0; said = false; bads = 0 } → s.report.now.text.end ≡ 0 → s.repeats ≡ 0
    → length r.words.now ≡ 1024 → length r.table.now ≡ 65536
    → s.words.now ≡ replicate (length r.words.now) 0 → s.table.now ≡ replicate (length r.table.now) 0 → HoldsFile no_lines s
unfolding table_word
start_holds r {s} a z n w t e f = record {
  counts = rw a (record { lines = refl; named = refl; said = refl; bads = refl; report = record { report_end = omega (arith, z); reported = rw z refl } });
  repeats = n;
  words_long = long;
  members = zero_members s.words.now long (λ k h. zero_at r.words.now e k (omega (arith, h, w, long)));
  table_long = ap length f ∙ length-replicate (length r.table.now) 0 ∙ t;
  entries = λ p h. zero_at r.table.now f p (omega (arith, t, h));
}
  where
    long : length s.words.now ≡ 1024
    long = ap length e ∙ length-replicate (length r.words.now) 0 ∙ w
