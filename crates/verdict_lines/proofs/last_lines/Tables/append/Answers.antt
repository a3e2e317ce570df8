use borrow.Author.Rules.{rules}
use mathlib.Core.Path.{◌≡◌, ap}
use mathlib.Core.List.{List, ◌++◌}
use Prim.Native.Nat.{ℕ, ◌+◌}
use Rattle.byte_texts.specs.Growth.{Appended}
use Rattle.byte_texts.specs.Ascii.{ascii}
use Rattle.byte_texts.specs.Texts.{decimal}
use Rattle.byte_texts.proofs.GrowthLaws.{appended_then, appended_as}
use Rattle.listing_lines.specs.Lines.{trouble_text, tables_text}
use Rattle.verdict_lines.proofs.last_lines.Tables.append.Goals as goal

pub returns : goal.returns
unfolding ascii tables_text
returns c = λ h.
    let s = c.args.self in
    let e : c.in-Some-checked_add.total ≡ s.same + s.different + s.trouble = search rules in
    let text : ℕ → List ℕ = λ n.
    decimal n ++ ascii " tables: " ++ decimal s.same ++ ascii " same, " ++ decimal s.different ++ ascii " DIFFERENT" ++ trouble_text s.trouble ++ ascii "\n" in
    let full : Appended c.args.out.now c.append-4.new.self (text c.in-Some-checked_add.total) = search appended_then depth 12 in
    appended_as full (ap text e)
