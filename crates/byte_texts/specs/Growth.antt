-- What is appended to a text in a lent buffer.
use Rattle.std.specs.Prelude.{◌≡◌, List, ℕ}
use Rattle.byte_texts.specs.Texts.{written}
use Rattle.byte_texts.specs.declared.texts.Text.{Text}

-- the bytes are written behind the text, in the same buffer
pub record Appended (before after : Text) (bytes : List ℕ) : Type 0 where
  pub end : after.end ≡ (written before.out.now before.end bytes).end
  pub out : after.out.now ≡ (written before.out.now before.end bytes).out
  pub buffer : after.out.ghost_name ≡ before.out.ghost_name
