-- Whole passes over the words of a set: what marking and moving leave. Assumes nothing.
use mathlib.Core.Path.{◌≡◌, refl, sym, ap, ap₂, ◌∙◌, fun_ext}
use mathlib.Core.Bool.{Bool, true, false, cond, ◌&&◌, ◌||◌}
use mathlib.Core.List.{List, [], ◌∷◌}
use mathlib.Core.Logic.{◌⊎◌, inl, inr}
use Prim.Native.Nat.{ℕ, ◌/◌, ◌%◌, ◌≤◌, ◌<◌}
use native.Mathlib.Omega.{arith}
use lib.Dec.{eqb}
use Rattle.std.proofs.Math.Bool.{or-false}
use lib.ListN.{length, get_or-eq_default}
use lib.Seq.{set_out}
use Rattle.word_bits.specs.Digits.{digit}
use Rattle.word_bits.proofs.Digits.{digit_of_zero}
use Rattle.word_bits.proofs.Order.{lt-or-le}
use Rattle.sets.specs.Members.{Members, words_of, bit_of, write, changed, empty, set_of}
use Rattle.sets.specs.Questions.{positions_question}
use Rattle.sets.proofs.ListQuestionLaws.{positions-both}
use Rattle.sets.proofs.WriteLaws.{Clipped, length-write, bit_write}
use Rattle.edits.specs.Edits.{inserted}
use Rattle.renumber_steps.specs.Pairs.{news, arrives, renumbered}
use Rattle.renumber_steps.specs.Passes.{marked, marking_all, moved}
use Rattle.renumber_steps.specs.declared.pair.Pair.{Pair}
use Rattle.renumber_steps.proofs.MarkLaws.{mark_write}
use Rattle.renumber_steps.proofs.HeldLaws.{held, held_in, held_out, held_len, held_clipped, hits, marks}

-- ---- marking

-- the mark of any offset in 1,024 words
mark_held : (vs : List ℕ) (t : Members) (x : ℕ) → Clipped t → t.len ≡ 65536 → length vs ≡ 1024
    → (bit_of (write vs t) x ≡ t.has x) × (marked (write vs t) x ≡ write vs (held x t))
unfolding marked bit_of words_of
mark_held vs t x c n size = go (lt-or-le x 65536)
  where
    room : words_of t.len ≤ length vs
    room = rw (n, size) (omega arith)

    long : length (write vs t) ≡ 1024
    long = length-write vs t room ∙ size

    go : (x < 65536) ⊎ (65536 ≤ x) → (bit_of (write vs t) x ≡ t.has x) × (marked (write vs t) x ≡ write vs (held x t))
    go (inl l) = (bit_write vs t x (rw n (omega arith)), mark_write vs t room x (rw n l) ∙ ap (write vs) (sym (held_in x t (rw n l))))
    go (inr g) = (
      ap (λ (w : ℕ). digit w (x % 64)) (get_or-eq_default (write vs t) 0 (rw long (omega arith))) ∙ digit_of_zero (x % 64) ∙ sym (c.above x (rw n g)),
      set_out (write vs t) (x / 64) _ (rw long (omega arith)) ∙ ap (write vs) (sym (held_out x t (rw n g))),
    )

-- a pass that marks
pub marked_run : (vs : List ℕ) (xs : List ℕ) (t : Members) → Clipped t → t.len ≡ 65536 → length vs ≡ 1024
    → marking_all (write vs t) xs ≡ record { found = hits t xs; words = write vs (marks t xs) }
unfolding marking_all hits marks
marked_run vs [] t c n size = refl
marked_run vs (x ∷ xs) t c n size =
    let one = mark_held vs t x c n size in
    ap₂ (λ (b : Bool) (l : List ℕ). cond b (record { found = true; words = l }) (marking_all l xs)) one.0 one.1
    ∙ go (t.has x) (marked_run vs xs (held x t) (held_clipped x t c) (held_len x t ∙ n) size)
  where
    go : (b : Bool) → marking_all (write vs (held x t)) xs ≡ record { found = hits (held x t) xs; words = write vs (marks (held x t) xs) }
        → cond b (record { found = true; words = write vs (held x t) }) (marking_all (write vs (held x t)) xs)
        ≡ record { found = b || hits (held x t) xs; words = write vs (cond b (held x t) (marks (held x t) xs)) }
    go true e = refl
    go false e = e

-- ---- moving

-- the set with what arrives by pairs
unfoldable joined : List Pair → Members → Members → Members
joined ps s t = record { len = t.len; has = λ q. t.has q || arrives ps s q }

joined-none : (s t : Members) → joined [] s t ≡ t
unfolding joined arrives
joined-none s t = ap (λ (h : ℕ → Bool). record { len = t.len; has = h }) (fun_ext (λ q. or-false (t.has q)))

joined-more : (p : Pair) (ps : List Pair) (s t : Members) (b : Bool) → s.has p.old ≡ b → joined ps s (cond b (inserted p.new t) t) ≡ joined (p ∷ ps) s t
unfolding joined arrives changed
joined-more p ps s t true e =
    ap (λ (h : ℕ → Bool). record { len = t.len; has = h }) (fun_ext (λ q. go (eqb p.new q) (t.has q) (arrives ps s q)
    ∙ ap (λ (z : Bool). t.has q || ((z && eqb p.new q) || arrives ps s q)) (sym e)))
  where
    go : (a h r : Bool) → (cond a true h || r) ≡ (h || (a || r))
    go true true r = refl
    go true false r = refl
    go false h r = refl
joined-more p ps s t false e =
    ap (λ (h : ℕ → Bool). record { len = t.len; has = h }) (fun_ext (λ q.
    ap (λ (z : Bool). t.has q || ((z && eqb p.new q) || arrives ps s q)) (sym e)))

-- a pass that moves
moved_run : (s : Members) (vs : List ℕ) (ps : List Pair) (t : Members) → words_of t.len ≤ length vs → positions_question (set_of t) (news ps) ≡ 0
    → moved s (write vs t) ps ≡ write vs (joined ps s t)
unfolding moved news changed
moved_run s vs [] t room e = ap (write vs) (sym (joined-none s t))
moved_run s vs (p ∷ ps) t room e =
    let both = positions-both (set_of t) p.new (news ps) e in
    go (s.has p.old) refl both.0 (moved_run s vs ps t room both.1) (moved_run s vs ps (inserted p.new t) room both.1)
  where
    go : (b : Bool) → s.has p.old ≡ b → p.new < t.len → moved s (write vs t) ps ≡ write vs (joined ps s t)
        → moved s (write vs (inserted p.new t)) ps ≡ write vs (joined ps s (inserted p.new t))
        → moved s (cond (s.has p.old) (marked (write vs t) p.new) (write vs t)) ps ≡ write vs (joined (p ∷ ps) s t)
    go true q l stay move =
        ap (λ (z : Bool). moved s (cond z (marked (write vs t) p.new) (write vs t)) ps) q
        ∙ ap (λ (l : List ℕ). moved s l ps) (mark_write vs t room p.new l) ∙ move ∙ ap (write vs) (joined-more p ps s t true q)
    go false q l stay move =
        ap (λ (z : Bool). moved s (cond z (marked (write vs t) p.new) (write vs t)) ps) q ∙ stay
        ∙ ap (write vs) (joined-more p ps s t false q)

-- into an empty set
pub moved_all : (s : Members) (vs : List ℕ) (ps : List Pair) (n : ℕ) → words_of n ≤ length vs → positions_question (set_of (empty n)) (news ps) ≡ 0
    → moved s (write vs (empty n)) ps ≡ write vs (renumbered ps n s)
unfolding joined renumbered
moved_all s vs ps n room e = moved_run s vs ps (empty n) room e
