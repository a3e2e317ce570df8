-- What a line on the error stream says.
use Rattle.std.specs.Prelude.{◌≡◌, Option, List, [], ◌∷◌, ◌++◌, ℕ, take, ⊤}
use Rattle.std.specs.Io.KnownBytes.{Appends}
use Rattle.byte_texts.specs.Ascii.{ascii}
use Rattle.byte_texts.specs.Texts.{decimal, shown_name}
use Rattle.tool_files.specs.declared.messages.Fragment.{Fragment}
use Rattle.tool_files.specs.declared.messages.Fragment.TheVariants.{Text, Name, Number, Reason}

-- a part of a message; why a call of the system failed is said in words that are not named here
abbrev pub Says : Fragment → List ℕ → Type 0
Says (Text bytes) text = text ≡ bytes.now
Says (Name name) text = text ≡ shown_name name.now
Says (Number n) text = text ≡ decimal n
Says (Reason error) text = ⊤

-- the parts one after the other
pub data SaysAll : List Fragment → List ℕ → Type 0 where
  no_part : SaysAll [] []
  part : {before : List Fragment} {said : List ℕ} (f : Fragment) (text : List ℕ) → SaysAll before said → Says f text → SaysAll (before ++ (f ∷ [])) (said ++ text)

-- the line, as far as 256 bytes have room for it, is what was written
abbrev pub Told : List ℕ → List Fragment → Option (List ℕ) → Option (List ℕ) → Type 0
Told start message old new = (said : List ℕ) × SaysAll message said × Appends old new (take 256 (start ++ said ++ ascii "\n"))
