-- The new set of an accepted call: it is read back as it is written, and has as many members. Assumes nothing.
use mathlib.Core.Path.{◌≡◌, refl}
use mathlib.Core.Bool.{Bool, true, false, not, ◌&&◌, true≢false}
use mathlib.Core.List.{List}
use Prim.Native.Nat.{ℕ, ◌<◌}
use lib.ListN.{length}
use Rattle.sets.specs.Members.{Members, read, write, empty, set_of}
use Rattle.sets.specs.declared.fixed_bit_set.FixedBitSet.{FixedBitSet}
use Rattle.sets.proofs.QuestionLaws.{Valid}
use Rattle.sets.proofs.ReadLaws.{read_above, write_valid}
use Rattle.sets.proofs.WriteLaws.{Clipped, read-write}
use Rattle.edits.specs.Edits.{is_in}
use Rattle.edits.proofs.ListChanges.{not_listed}
use Rattle.renumber_steps.specs.Pairs.{olds, news, renumbered}
use Rattle.renumber_steps.specs.Promises.{size}
use Rattle.renumber_steps.specs.declared.pair.Pair.{Pair}
use Rattle.renumber_steps.proofs.PairListLaws.{arrives_in}
use Rattle.renumber_steps.proofs.CountLaws.{same_count}
use Rattle.renumber_steps.proofs.AcceptLaws.{Accepted}

and-not : (a b : Bool) → (a && not b) ≡ false → (a && b) ≡ a
and-not true true e = refl
and-not true false e = absurd (true≢false e)
and-not false b e = refl

module _ (set : FixedBitSet) (ws : List ℕ) (ps : List Pair) (n : ℕ) (vs : List ℕ) where
  abbrev s : Members
  s = read ws set

  abbrev t : Members
  t = renumbered ps n s

  module _ (a : Accepted set ws ps n (length vs)) where
    pub has_pair : (x : ℕ) → x < set.length → (s.has x && is_in (olds ps) x) ≡ s.has x
    has_pair x l = and-not (s.has x) (is_in (olds ps) x) (a.paired x l)

    -- the new set has no member from its length up
    pub new_clipped : Clipped t
    unfolding renumbered
    new_clipped = record { above = λ q h. arrives_in ps s q (not_listed (set_of (empty n)) (news ps) q a.below h) }

    pub new_valid : Valid (set_of t) (write vs t)
    unfolding renumbered
    new_valid = write_valid vs t new_clipped a.enough.small a.enough.enough

    pub new_read : read (write vs t) (set_of t) ≡ t
    new_read = read-write vs t new_clipped

    pub new_count : size t ≡ size s
    unfolding renumbered read
    new_count = same_count set (set_of (empty n)) ps s a.olds-once a.news-once a.below (λ x h. read_above ws set x h) has_pair
