-- Numbers and long names as the tool writes them, worked out. Assumes nothing.
use mathlib.Core.Path.{◌≡◌, refl}
use Prim.Native.Nat.{◌-◌, ◌^◌}
use Rattle.byte_texts.specs.Ascii.{ascii}
use Rattle.byte_texts.specs.Texts.{decimal, decimal_of, visible, dots, shown_text, shown_name}

zero_is : decimal 0 ≡ ascii "0"
unfolding decimal_of ascii
zero_is = refl

nine_is : decimal 9 ≡ ascii "9"
unfolding decimal_of ascii
nine_is = refl

ten_is : decimal 10 ≡ ascii "10"
unfolding decimal_of ascii
ten_is = refl

last_offset_is : decimal 65535 ≡ ascii "65535"
unfolding decimal_of ascii
last_offset_is = refl

largest_is : decimal (2 ^ 64 - 1) ≡ ascii "18446744073709551615"
unfolding decimal_of ascii
largest_is = refl

-- 40 bytes whole; of 41 the first, or the last, 40. A tab is a question mark
text_40 : shown_text (ascii "0123456789012345678901234567890123456789") ≡ ascii "0123456789012345678901234567890123456789"
unfolding shown_text visible ascii
text_40 = refl

text_41 : shown_text (ascii "\t123456789012345678901234567890123456789X") ≡ ascii "?123456789012345678901234567890123456789..."
unfolding shown_text visible dots ascii
text_41 = refl

name_41 : shown_name (ascii "X\t2345678901234567890123456789012345678.t") ≡ ascii "...?2345678901234567890123456789012345678.t"
unfolding shown_name visible dots ascii
name_41 = refl
