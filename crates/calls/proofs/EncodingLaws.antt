-- Calls as numbers, five by five. Assumes nothing.
use mathlib.Core.Path.{◌≡◌, refl, sym, ap, ap₂, ◌∙◌}
use mathlib.Core.Bool.{true, false, not}
use mathlib.Core.List.{List, [], ◌∷◌, ◌++◌, append_assoc, append-nil}
use mathlib.Core.Logic.{◌⊎◌, inl, inr}
use mathlib.Core.Option.{Option, none, some}
use Prim.Native.Nat.{ℕ, ◌+◌, ◌-◌, ◌≤◌, ◌<◌}
use native.Mathlib.Omega.{arith}
use lib.Dec.{eqb}
use borrow.Author.Tests.{le-leb, lt-leb}
use lib.ListN.{length, get_or, take, drop, length-drop, length-append}
use lib.Seq.{drop-drop, take-append_seam, drop-append_seam}
use Rattle.word_bits.proofs.Order.{lt-or-le}
use Rattle.calls.specs.Calls.{Call, Insert, Remove, Put, Toggle, Set, CopyBit, InsertRange, RemoveRange, ToggleRange, SetRange, Clear, Grow, GrowAndInsert, UnionWith, IntersectWith, DifferenceWith, SymmetricDifferenceWith, InsertAll}
use Rattle.calls.specs.History.{Called, OnA, OnB}
use Rattle.calls.specs.Encoding.{listed, decode, decode_one, decode_all, called, encode, list_of, lists_of, encode_all}

-- five numbers are one call
pub decode_five : (positions ns : List ℕ) → length ns ≡ 5
    → decode_all positions ns ≡ decode_one positions (get_or ns 0 0) (get_or ns 1 0) (get_or ns 2 0) (get_or ns 3 0) (get_or ns 4 0)
unfolding decode_all
decode_five positions [] h = absurd (omega arith)
decode_five positions (p ∷ []) h = absurd (omega arith)
decode_five positions (p ∷ q ∷ []) h = absurd (omega arith)
decode_five positions (p ∷ q ∷ r ∷ []) h = absurd (omega arith)
decode_five positions (p ∷ q ∷ r ∷ s ∷ []) h = absurd (omega arith)
decode_five positions (p ∷ q ∷ r ∷ s ∷ t ∷ []) h = append-nil (decode_one positions p q r s t)
decode_five positions (p ∷ q ∷ r ∷ s ∷ t ∷ u ∷ ns) h = absurd (omega arith)

decode_more : (positions ns : List ℕ) → 5 ≤ length ns → decode_all positions ns ≡ decode_all positions (take 5 ns) ++ decode_all positions (drop 5 ns)
unfolding decode_all
decode_more positions [] h = absurd (omega arith)
decode_more positions (p ∷ []) h = absurd (omega arith)
decode_more positions (p ∷ q ∷ []) h = absurd (omega arith)
decode_more positions (p ∷ q ∷ r ∷ []) h = absurd (omega arith)
decode_more positions (p ∷ q ∷ r ∷ s ∷ []) h = absurd (omega arith)
decode_more positions (p ∷ q ∷ r ∷ s ∷ t ∷ ns) h = ap (λ (cs : List Called). cs ++ decode_all positions ns) (sym (append-nil (decode_one positions p q r s t)))

decode_short : (positions ns : List ℕ) → length ns < 5 → decode_all positions ns ≡ []
unfolding decode_all
decode_short positions [] h = refl
decode_short positions (p ∷ []) h = refl
decode_short positions (p ∷ q ∷ []) h = refl
decode_short positions (p ∷ q ∷ r ∷ []) h = refl
decode_short positions (p ∷ q ∷ r ∷ s ∷ []) h = refl
decode_short positions (p ∷ q ∷ r ∷ s ∷ t ∷ ns) h = absurd (omega arith)

module _ (positions ns : List ℕ) (at : ℕ) where
  pub decode_at : 5 ≤ length ns - at
      → decode_all positions (drop at ns) ≡ decode_all positions (take 5 (drop at ns)) ++ decode_all positions (drop (at + 5) ns)
  decode_at h = decode_more positions (drop at ns) (rw (length-drop at ns) h) ∙ rw (drop-drop 5 at ns) refl

  pub decode_end : length ns - at < 5 → decode_all positions (drop at ns) ≡ []
  decode_end h = decode_short positions (drop at ns) (rw (length-drop at ns) h)

-- ---- a part of the lent list

module _ (positions : List ℕ) (start end : ℕ) where
  listed_unordered : end < start → listed positions start end ≡ none
  unfolding listed
  listed_unordered h = rw (lt-leb start end h)

  listed-beyond : start ≤ end → length positions < end → listed positions start end ≡ none
  unfolding listed
  listed-beyond l h = rw (le-leb start end l, lt-leb end (length positions) h)

  pub listed-missing : (end < start) ⊎ (length positions < end) → listed positions start end ≡ none
  listed-missing (inl h) = listed_unordered h
  listed-missing (inr h) = go (lt-or-le end start)
    where
      go : (end < start) ⊎ (start ≤ end) → listed positions start end ≡ none
      go (inl l) = listed_unordered l
      go (inr l) = listed-beyond l h

  pub listed_within : start ≤ end → end ≤ length positions → listed positions start end ≡ some (InsertAll (take (end - start) (drop start positions)))
  unfolding listed
  listed_within l h = rw (le-leb start end l, le-leb end (length positions) h)

-- ---- every list of calls has an encoding

-- a list that stands between two others
listed_part : (before ps after : List ℕ) → listed (before ++ (ps ++ after)) (length before) (length before + length ps) ≡ some (InsertAll ps)
listed_part before ps after =
    listed_within (before ++ (ps ++ after)) (length before) (length before + length ps) (omega arith) (simp length-append (omega arith))
    ∙ ap (λ (qs : List ℕ). some (InsertAll qs)) (ap₂ take size (drop-append_seam before (ps ++ after)) ∙ take-append_seam ps after)
  where
    size : length before + length ps - length before ≡ length ps
    size = omega arith

-- the numbers of a call on the set of number k, with any numbers after them, and its list between two others
module _ (k : ℕ) (on : Call → Called)
    (known : (qs : List ℕ) (code x y z : ℕ) → decode_one qs k code x y z ≡ called on (decode qs code x y (not (eqb z 0))))
    (before after rest : List ℕ) where
  first_five : (qs : List ℕ) (code x y z : ℕ) → decode_one qs k code x y z ++ decode_all qs rest ≡ called on (decode qs code x y (not (eqb z 0))) ++ decode_all qs rest
  first_five qs code x y z = ap (λ (cs : List Called). cs ++ decode_all qs rest) (known qs code x y z)

  abbrev lent : Call → List ℕ
  lent call = before ++ (list_of call ++ after)

  decode-encode : (call : Call) → decode_all (lent call) (encode (length before) k call ++ rest) ≡ on call ∷ decode_all (lent call) rest
  unfolding decode_all
  decode-encode (Insert bit) = first_five _ 0 bit 0 0
  decode-encode (Remove bit) = first_five _ 1 bit 0 0
  decode-encode (Put bit) = first_five _ 2 bit 0 0
  decode-encode (Toggle bit) = first_five _ 3 bit 0 0
  decode-encode (Set bit true) = first_five _ 4 bit 0 1
  decode-encode (Set bit false) = first_five _ 4 bit 0 0
  decode-encode (CopyBit from to) = first_five _ 5 from to 0
  decode-encode (InsertRange start end) = first_five _ 6 start end 0
  decode-encode (RemoveRange start end) = first_five _ 7 start end 0
  decode-encode (ToggleRange start end) = first_five _ 8 start end 0
  decode-encode (SetRange start end true) = first_five _ 9 start end 1
  decode-encode (SetRange start end false) = first_five _ 9 start end 0
  decode-encode Clear = first_five _ 10 0 0 0
  decode-encode (Grow n) = first_five _ 11 n 0 0
  decode-encode (GrowAndInsert bit) = first_five _ 12 bit 0 0
  decode-encode UnionWith = first_five _ 13 0 0 0
  decode-encode IntersectWith = first_five _ 14 0 0 0
  decode-encode DifferenceWith = first_five _ 15 0 0 0
  decode-encode SymmetricDifferenceWith = first_five _ 16 0 0 0
  decode-encode (InsertAll ps) =
      let qs = lent (InsertAll ps) in
      first_five qs 17 (length before) (length before + length ps) 0
      ∙ ap (λ (c : Option Call). called on c ++ decode_all qs rest) (listed_part before ps after)

-- the lists so far, and that of one more call
moved : (before : List ℕ) (call : Call) (calls : List Called)
    → decode_all (before ++ (list_of call ++ lists_of calls)) (encode_all (length before + length (list_of call)) calls)
    ≡ decode_all ((before ++ list_of call) ++ lists_of calls) (encode_all (length (before ++ list_of call)) calls)
moved before call calls =
    ap₂ (λ (qs : List ℕ) (n : ℕ). decode_all qs (encode_all n calls)) (sym (append_assoc before (list_of call) (lists_of calls)))
    (sym (length-append before (list_of call)))

encoded_after : (before : List ℕ) (calls : List Called) → decode_all (before ++ lists_of calls) (encode_all (length before) calls) ≡ calls
unfolding decode_all
encoded_after before [] = refl
encoded_after before (OnA call ∷ calls) =
    decode-encode 0 OnA (λ qs code x y z. refl) before (lists_of calls) (encode_all (length before + length (list_of call)) calls) call
    ∙ ap (λ (cs : List Called). OnA call ∷ cs) (moved before call calls ∙ encoded_after (before ++ list_of call) calls)
encoded_after before (OnB call ∷ calls) =
    decode-encode 1 OnB (λ qs code x y z. refl) before (lists_of calls) (encode_all (length before + length (list_of call)) calls) call
    ∙ ap (λ (cs : List Called). OnB call ∷ cs) (moved before call calls ∙ encoded_after (before ++ list_of call) calls)

pub encoded : (calls : List Called) → decode_all (lists_of calls) (encode_all 0 calls) ≡ calls
encoded calls = encoded_after [] calls
