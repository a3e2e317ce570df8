-- What a file that was loaded is known to be. `text` is all that was left to read where that is known, and of a file of the system no contract can say what that is.
use Rattle.std.specs.Prelude.{◌≡◌, not, List, [], Option, IfSome, ℕ, ◌<◌, eqb, length, get_or}
use Rattle.sets.specs.Members.{read}
use Rattle.text_lines.specs.Texts.{take_bytes, at_end}
use Rattle.offset_files.specs.Files.{file_of}
use Rattle.offset_files.specs.Holds.{all_offsets, table_word}
use Rattle.pair_files.specs.Files.{pair_file_of}

-- `step` is what one line more makes of a file
module _ {F : Type 0} (step : List ℕ → F → F) where
  -- after the last read: a whole text, from a file with no lines, and that which is left to read where that is known
  pub record ReadWhole (none : F) (left : Option (List ℕ)) (H : F → Type 0) : Type 0 where
    pub text : List ℕ
    pub known : IfSome left (λ xs. text ≡ xs)
    pub holds : H (at_end step (take_bytes step (record { file = none; rest = [] }) text))

-- a file that may be used: no line is bad, the set has exactly the offsets that its lines name, and the table has the line that names each first, and whether another does
pub record Usable (name words table : List ℕ) : Type 0 where
  pub text : List ℕ
  pub good : (file_of name text).bads ≡ 0
  pub members : (p : ℕ) → p < 65536 → (read words all_offsets).has p ≡ not (eqb ((file_of name text).first p) 0)
  pub table_long : length table ≡ 65536
  pub entries : (p : ℕ) → p < 65536 → get_or table p 0 ≡ table_word ((file_of name text).first p) ((file_of name text).again p)

-- a file of pairs that may be used: no line is bad, and the two tables have the words that its lines name; `size` is the new length
pub record UsablePairs (name : List ℕ) (size : ℕ) (to from : List ℕ) : Type 0 where
  pub text : List ℕ
  pub good : (pair_file_of name size text).bads ≡ 0
  pub to_long : length to ≡ 65536
  pub to-words : (p : ℕ) → p < 65536 → get_or to p 0 ≡ (pair_file_of name size text).to p
  pub from_long : length from ≡ 65536
  pub from-words : (q : ℕ) → q < 65536 → get_or from q 0 ≡ (pair_file_of name size text).from q
