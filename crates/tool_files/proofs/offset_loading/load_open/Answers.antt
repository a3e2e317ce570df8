-- A file that may be used is a whole text with no bad line. The words are what the reader left of them.
use mathlib.Core.Path.{sym}
use Rattle.std.proofs.lemmas.Result.{on_ok_weaker}
use Rattle.tool_files.proofs.LoadLaws.{usable}
use Rattle.tool_files.proofs.offset_loading.load_open.Goals as goal

pub returns : goal.returns
returns g c =
    let whole = rw (c.new-report.ensures.name, c.bytes.ensures, c.new-shown.ensures) at c.in_default.ensures.whole c.if-words-ne1024.false c.if-table-ne65536.false in
    let same = c.read_offsets.ensures in
    rw (c.words-2-1.given.1.1 (sym same.same_words), c.table-2-1.given.1.1 (sym same.same_table)) (on_ok_weaker c.tell_tally.result (usable whole) c.tell_tally.ensures)
