-- A file that may be used is a whole text with no bad line. The tables are what the reader left of them.
use mathlib.Core.Path.{sym}
use Rattle.std.proofs.lemmas.Result.{on_ok_weaker}
use Rattle.tool_files.proofs.LoadLaws.{usable_pairs}
use Rattle.tool_files.proofs.pair_loading.load_open_pairs.Goals as goal

pub returns : goal.returns
returns g c =
    let same = c.read_pairs.ensures in
    let whole = rw (c.new-report.ensures.name, c.bytes.ensures, c.new-shown.ensures) at c.in_default.ensures.whole c.if-to-ne65536.false c.if-from-ne65536.false in
    rw (c.to-2-1.given.1.1 (sym same.same_to), c.from-2-1.given.1.1 (sym same.same_from)) (on_ok_weaker c.tell_tally.result (usable_pairs whole) c.tell_tally.ensures)
