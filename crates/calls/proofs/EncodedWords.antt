-- The encoding of a list of calls is made of words where the numbers that the calls name are words. Assumes nothing.
use mathlib.Core.Path.{◌≡◌, refl, sym, ap, ap₂, ◌∙◌}
use mathlib.Core.Bool.{Bool, true, false, ◌&&◌, and_assoc, and-true}
use mathlib.Core.List.{List, [], ◌∷◌, ◌++◌}
use Prim.Native.Nat.{ℕ, ◌+◌, ◌<◌, ◌^◌}
use native.Mathlib.Omega.{arith}
use borrow.Author.Tests.{lt-ltb}
use lib.Dec.{ltb, lit<}
use lib.ListN.{length, length-append}
use Rattle.calls.specs.Calls.{Call, Insert, Remove, Put, Toggle, Set, CopyBit, InsertRange, RemoveRange, ToggleRange, SetRange, Clear, Grow, GrowAndInsert, UnionWith, IntersectWith, DifferenceWith, SymmetricDifferenceWith, InsertAll}
use Rattle.calls.specs.History.{Called, OnA, OnB}
use Rattle.calls.specs.Encoding.{encode, list_of, lists_of, encode_all, named, named_all, are_words}

words_append : (xs ys : List ℕ) → are_words (xs ++ ys) ≡ (are_words xs && are_words ys)
words_append [] ys = refl
words_append (x ∷ xs) ys = ap (λ (b : Bool). ltb x (2 ^ 64) && b) (words_append xs ys) ∙ sym (and_assoc (ltb x (2 ^ 64)) (are_words xs) (are_words ys))

words_middle : (a b c d : Bool) → ((a && b) && (c && d)) ≡ ((a && c) && (b && d))
words_middle true true c d = refl
words_middle true false true d = refl
words_middle true false false d = refl
words_middle false b c d = refl

-- a call whose list ends in the lent one where a word can say
module _ (k : ℕ) (h : k < 2 ^ 64) (at : ℕ) where
  after_k : (call : Call) → ((ltb k (2 ^ 64) && are_words (named call)) && true) ≡ are_words (named call)
  after_k call = ap (λ (b : Bool). (b && are_words (named call)) && true) (lt-ltb k (2 ^ 64) h) ∙ and-true (are_words (named call))

  encode-words : (call : Call) → at + length (list_of call) < 2 ^ 64 → (are_words (encode at k call) && are_words (list_of call)) ≡ are_words (named call)
  encode-words (Insert bit) l = after_k (Insert bit)
  encode-words (Remove bit) l = after_k (Remove bit)
  encode-words (Put bit) l = after_k (Put bit)
  encode-words (Toggle bit) l = after_k (Toggle bit)
  encode-words (Set bit true) l = after_k (Set bit true)
  encode-words (Set bit false) l = after_k (Set bit false)
  encode-words (CopyBit from to) l = after_k (CopyBit from to)
  encode-words (InsertRange start end) l = after_k (InsertRange start end)
  encode-words (RemoveRange start end) l = after_k (RemoveRange start end)
  encode-words (ToggleRange start end) l = after_k (ToggleRange start end)
  encode-words (SetRange start end true) l = after_k (SetRange start end true)
  encode-words (SetRange start end false) l = after_k (SetRange start end false)
  encode-words Clear l = after_k Clear
  encode-words (Grow n) l = after_k (Grow n)
  encode-words (GrowAndInsert bit) l = after_k (GrowAndInsert bit)
  encode-words UnionWith l = after_k UnionWith
  encode-words IntersectWith l = after_k IntersectWith
  encode-words DifferenceWith l = after_k DifferenceWith
  encode-words SymmetricDifferenceWith l = after_k SymmetricDifferenceWith
  encode-words (InsertAll ps) l =
      rw (lt-ltb k (2 ^ 64) h, lt-ltb at (2 ^ 64) (omega arith), lt-ltb (at + length ps) (2 ^ 64) l) refl

one_more : (at k : ℕ) → k < 2 ^ 64 → (call : Call) (calls : List Called) → at + length (list_of call ++ lists_of calls) < 2 ^ 64
    → (are_words (encode_all (at + length (list_of call)) calls) && are_words (lists_of calls)) ≡ are_words (named_all calls)
    → (are_words (encode at k call ++ encode_all (at + length (list_of call)) calls) && are_words (list_of call ++ lists_of calls)) ≡ are_words (named call ++ named_all calls)
one_more at k h call calls l rest =
    ap₂ ◌&&◌ (words_append (encode at k call) (encode_all (at + length (list_of call)) calls)) (words_append (list_of call) (lists_of calls))
    ∙ words_middle (are_words (encode at k call)) (are_words (encode_all (at + length (list_of call)) calls)) (are_words (list_of call)) (are_words (lists_of calls))
    ∙ ap₂ ◌&&◌ (encode-words k h at call (let e = length-append (list_of call) (lists_of calls) in omega arith)) rest
    ∙ sym (words_append (named call) (named_all calls))

words-after : (at : ℕ) (calls : List Called) → at + length (lists_of calls) < 2 ^ 64
    → (are_words (encode_all at calls) && are_words (lists_of calls)) ≡ are_words (named_all calls)
words-after at [] l = refl
words-after at (OnA call ∷ calls) l = one_more at 0 (lit< tt) call calls l (words-after (at + length (list_of call)) calls (let e = length-append (list_of call) (lists_of calls) in omega arith))
words-after at (OnB call ∷ calls) l = one_more at 1 (lit< tt) call calls l (words-after (at + length (list_of call)) calls (let e = length-append (list_of call) (lists_of calls) in omega arith))

-- both lists that a run lends, where the second has no more places than a list can have
pub encoded_words : (calls : List Called) → length (lists_of calls) < 2 ^ 64
    → (are_words (encode_all 0 calls) && are_words (lists_of calls)) ≡ are_words (named_all calls)
encoded_words calls l = words-after 0 calls (omega arith)
