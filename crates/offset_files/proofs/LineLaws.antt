-- A line by what it is, from what is held of it. Assumes nothing.
use mathlib.Core.Path.{◌≡◌, refl}
use mathlib.Core.List.{List}
use Prim.Native.Nat.{ℕ}
use Rattle.std.specs.Prelude.{Result, Ok, Err}
use Rattle.byte_texts.specs.Texts.{shown_text}
use Rattle.offset_lines.specs.Lines.{line_of}
use Rattle.offset_lines.specs.declared.entry.Entry.{Entry}
use Rattle.offset_lines.specs.declared.entry.Entry.TheVariants.{Blank, Item, Says}
use Rattle.offset_lines.specs.declared.entry.Fault.{Fault}
use Rattle.text_lines.specs.Messages.{bad_text}
use Rattle.text_lines.proofs.BodyLaws.{Decides}
use Rattle.offset_files.specs.Files.{File, bad_line, offset_line, said_line, entry_line}

-- a line is said by what is shown of it
entry_shown : (name body full : List ℕ) (e : Result (Entry ℕ) Fault) (f : File) → shown_text body ≡ shown_text full → entry_line name body e f ≡ entry_line name full e f
unfolding entry_line bad_line offset_line said_line bad_text
entry_shown name body full (Ok Blank) f e = refl
entry_shown name body full (Ok (Item p)) f e = rw e refl
entry_shown name body full (Ok (Says n)) f e = rw e refl
entry_shown name body full (Err fault) f e = rw e refl

pub entry_decided : (name body full : List ℕ) (f : File) → Decides line_of body full → entry_line name body (line_of body) f ≡ entry_line name full (line_of full) f
entry_decided name body full f d = rw d.is (entry_shown name body full (line_of full) f d.shown)
