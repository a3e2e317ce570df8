-- A line by what it is, from what is held of it. Assumes nothing.
use mathlib.Core.Path.{◌≡◌, refl}
use mathlib.Core.List.{List}
use Prim.Native.Nat.{ℕ}
use Rattle.std.specs.Prelude.{Result, Ok, Err}
use Rattle.byte_texts.specs.Texts.{shown_text}
use Rattle.pair_lines.specs.Lines.{pair_line_of}
use Rattle.pair_lines.specs.declared.pair.Pair.{Pair}
use Rattle.offset_lines.specs.declared.entry.Entry.{Entry}
use Rattle.offset_lines.specs.declared.entry.Entry.TheVariants.{Blank, Item, Says}
use Rattle.offset_lines.specs.declared.entry.Fault.{Fault}
use Rattle.text_lines.specs.Messages.{bad_text}
use Rattle.text_lines.proofs.BodyLaws.{Decides}
use Rattle.pair_files.specs.Files.{PairFile, bad_line, pair_line, said_line, entry_line}

-- a line is said by what is shown of it
entry_shown : (name body full : List ℕ) (size : ℕ) (e : Result (Entry Pair) Fault) (f : PairFile) → shown_text body ≡ shown_text full
    → entry_line name body size e f ≡ entry_line name full size e f
unfolding entry_line bad_line pair_line said_line bad_text
entry_shown name body full size (Ok Blank) f e = refl
entry_shown name body full size (Ok (Item pair)) f e = rw e refl
entry_shown name body full size (Ok (Says n)) f e = rw e refl
entry_shown name body full size (Err fault) f e = rw e refl

pub entry_decided : (name body full : List ℕ) (size : ℕ) (f : PairFile) → Decides pair_line_of body full
    → entry_line name body size (pair_line_of body) f ≡ entry_line name full size (pair_line_of full) f
entry_decided name body full size f d = rw d.is (entry_shown name body full size (pair_line_of full) f d.shown)
