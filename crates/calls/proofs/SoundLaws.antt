-- What every call keeps: a set that questions 1 to 3 accept in its buffer, and is never shorter. Assumes nothing.
use mathlib.Core.Path.{◌≡◌, refl, ap, ap₂, ◌∙◌}
use mathlib.Core.Bool.{Bool, true, false, cond, xor}
use mathlib.Core.List.{List}
use Prim.Native.Nat.{ℕ, zero, suc, ◌+◌, ◌≤◌, max}
use native.Mathlib.Nat.{le_refl}
use native.Mathlib.Omega.{arith}
use borrow.Author.Tests.{ne_eqb}
use lib.Dec.{eqb}
use lib.ListN.{length}
use Rattle.masks.specs.Ranges.{covers}
use Rattle.sets.proofs.RangeQuestionLaws.{within}
use Rattle.masks.proofs.RangeLaws.{covers_above}
use Rattle.sets.specs.Members.{Members, words_of, read, set_of, changed}
use Rattle.sets.specs.Outcomes.{given}
use Rattle.sets.specs.Questions.{position_question, positions_question, new_questions, room_question, range_question}
use Rattle.sets.specs.declared.fixed_bit_set.FixedBitSet.{FixedBitSet}
use Rattle.sets.proofs.QuestionLaws.{Valid, position_yes, position_below, room, room_only}
use Rattle.sets.proofs.ReadLaws.{read_clipped}
use Rattle.sets.proofs.WriteLaws.{Clipped}
use Rattle.edits.specs.Edits.{grown, is_in}
use Rattle.edits.proofs.ListChanges.{not_listed}
use Rattle.operations.specs.Operations.{joined}
use Rattle.operations.specs.declared.operation.Operation.{Operation}
use Rattle.operations.specs.declared.operation.Operation.TheVariants.{Union, Intersection, Difference, SymmetricDifference}
use Rattle.two_sets.specs.Combined.{combined}
use Rattle.calls.specs.Calls.{Call, Insert, Remove, Put, Toggle, Set, CopyBit, InsertRange, RemoveRange, ToggleRange, SetRange, Clear, Grow, GrowAndInsert, UnionWith, IntersectWith, DifferenceWith, SymmetricDifferenceWith, InsertAll, refusal, done, leaves}

-- a set in a buffer of `size` words
pub record Sound (size : ℕ) (s : Members) : Type 0 where
  pub small : s.len ≤ 65536
  pub enough : words_of s.len ≤ size
  pub clipped : Clipped s

-- what a call leaves of s
pub record Kept (size : ℕ) (s t : Members) : Type 0 where
  pub sound : Sound size t
  pub longer : s.len ≤ t.len

pub sound_read : (set : FixedBitSet) (ws : List ℕ) → Valid set ws → Sound (length ws) (read ws set)
unfolding read
sound_read set ws v = record { small = v.small; enough = v.enough; clipped = read_clipped ws set }

module _ (size : ℕ) (s : Members) (h : Sound size s) where
  pub same_kept : Kept size s s
  same_kept = record { sound = h; longer = le_refl s.len }

  changed_kept : (here : ℕ → Bool) (f : Bool → Bool) → ((p : ℕ) → s.len ≤ p → cond (here p) (f false) false ≡ false) → Kept size s (changed here f s)
  unfolding changed
  changed_kept here f z = record {
    sound = record {
      small = h.small;
      enough = h.enough;
      clipped = record { above = λ p l. ap (λ (b : Bool). cond (here p) (f b) b) (h.clipped.above p l) ∙ z p l };
    };
    longer = le_refl s.len;
  }

  at_position : (f : Bool → Bool) (bit : ℕ) → position_question (set_of s) bit ≡ 0 → Kept size s (changed (eqb bit) f s)
  at_position f bit e =
      let b = position_below (set_of s) bit e in
      changed_kept (eqb bit) f (λ p l. ap (λ (t : Bool). cond t (f false) false) (ne_eqb bit p (λ q. omega arith)))

  over_list : (f : Bool → Bool) (ps : List ℕ) → positions_question (set_of s) ps ≡ 0 → Kept size s (changed (is_in ps) f s)
  over_list f ps e = changed_kept (is_in ps) f (λ p l. ap (λ (t : Bool). cond t (f false) false) (not_listed (set_of s) ps p e l))

  over_range : (f : Bool → Bool) (start end : ℕ) → range_question start end s.len ≡ 0 → Kept size s (changed (covers start end) f s)
  over_range f start end e =
      let w = (within start end s.len e).inside in
      changed_kept (covers start end) f (λ p l. ap (λ (t : Bool). cond t (f false) false) (covers_above start end p (omega arith)))

  grown_kept : (n : ℕ) → new_questions (max s.len n) size ≡ 0 → Kept size s (grown n s)
  unfolding grown
  grown_kept n e =
      let r = room (max s.len n) size e in record {
        sound = record { small = r.small; enough = r.enough; clipped = record { above = λ p l. h.clipped.above p (omega arith) } };
        longer = omega arith;
      }

  module _ (o : Members) (co : Clipped o) (small : o.len ≤ 65536) where
    growing_kept : (op : Operation) → joined op false false ≡ false → room_question (max s.len o.len) size ≡ 0
        → Kept size s (combined op (max s.len o.len) s o)
    unfolding combined
    growing_kept op z e =
        let n = max s.len o.len in
        let r = room n size (room_only n size (omega (arith, h.small)) ∙ e) in record {
          sound = record {
            small = r.small;
            enough = r.enough;
            clipped = record { above = λ p l. ap₂ (joined op) (h.clipped.above p (omega arith)) (co.above p (omega arith)) ∙ z };
          };
          longer = omega arith;
        }

    keeping_kept : (op : Operation) → ((b : Bool) → joined op false b ≡ false) → Kept size s (combined op s.len s o)
    unfolding combined
    keeping_kept op z = record {
      sound = record {
        small = h.small;
        enough = h.enough;
        clipped = record { above = λ p l. ap (λ (b : Bool). joined op b (o.has p)) (h.clipped.above p l) ∙ z (o.has p) };
      };
      longer = le_refl s.len;
    }

grown_below : (s : Members) (b : ℕ) → position_question (set_of (grown (b + 1) s)) b ≡ 0
unfolding grown
grown_below s b = position_yes (set_of (grown (b + 1) s)) b (omega arith)

neither : xor false false ≡ false
unfolding xor
neither = refl

pub done_kept : (call : Call) (size : ℕ) (s o : Members) → Sound size s → Clipped o → o.len ≤ 65536 → refusal call size s o ≡ 0
    → Kept size s (done call s o)
done_kept (Insert bit) size s o h co small e = at_position size s h _ bit e
done_kept (Remove bit) size s o h co small e = at_position size s h _ bit e
done_kept (Put bit) size s o h co small e = at_position size s h _ bit e
done_kept (Toggle bit) size s o h co small e = at_position size s h _ bit e
done_kept (Set bit enabled) size s o h co small e = at_position size s h _ bit e
done_kept (CopyBit from to) size s o h co small e = at_position size s h _ to e
done_kept (InsertRange start end) size s o h co small e = over_range size s h _ start end e
done_kept (RemoveRange start end) size s o h co small e = over_range size s h _ start end e
done_kept (ToggleRange start end) size s o h co small e = over_range size s h _ start end e
done_kept (SetRange start end enabled) size s o h co small e = over_range size s h _ start end e
done_kept Clear size s o h co small e = changed_kept size s h (λ p. true) (λ was. false) (λ p l. refl)
done_kept (Grow n) size s o h co small e = grown_kept size s h n e
done_kept (GrowAndInsert bit) size s o h co small e =
    let g = grown_kept size s h (bit + 1) e in
    let i = at_position size (grown (bit + 1) s) g.sound (λ was. true) bit (grown_below s bit) in
    let l = g.longer in
    record { sound = i.sound; longer = omega (arith, i.longer) }
done_kept UnionWith size s o h co small e = growing_kept size s h o co small Union refl e
done_kept IntersectWith size s o h co small e = keeping_kept size s h o co small Intersection (λ b. refl)
done_kept DifferenceWith size s o h co small e = keeping_kept size s h o co small Difference (λ b. refl)
done_kept SymmetricDifferenceWith size s o h co small e = growing_kept size s h o co small SymmetricDifference neither e
done_kept (InsertAll ps) size s o h co small e = over_list size s h _ ps e

given_kept : (size : ℕ) (s t : Members) (n : ℕ) → Kept size s s → (n ≡ 0 → Kept size s t) → Kept size s (given n (λ m. s) t)
unfolding given
given_kept size s t zero k f = f refl
given_kept size s t (suc n) k f = k

pub leaves_kept : (call : Call) (size : ℕ) (s o : Members) → Sound size s → Clipped o → o.len ≤ 65536 → Kept size s (leaves call size s o)
unfolding leaves
leaves_kept call size s o h co small = given_kept size s (done call s o) (refusal call size s o) (same_kept size s h) (done_kept call size s o h co small)
