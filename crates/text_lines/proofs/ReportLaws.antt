-- What is said of a line, behind what is said of those above it. Assumes nothing.
use mathlib.Core.Path.{◌≡◌, sym, ap, ap₂, ◌∙◌}
use mathlib.Core.Bool.{cond}
use mathlib.Core.List.{List, [], ◌∷◌, ◌++◌, append-nil, append_assoc}
use mathlib.Core.Logic.{◌⊎◌, inl, inr}
use Prim.Native.Nat.{ℕ, suc, ◌+◌, ◌≤◌, ◌<◌, min}
use native.Mathlib.Omega.{arith}
use borrow.Author.Tests.{lt-ltb, le-ltb}
use lib.Dec.{ltb}
use lib.ListN.{length, take, set, length-append, length-take, length-set}
use lib.Seq.{sets, length-sets, take_all, take-take, take-append-le, take-suc-set}
use Rattle.word_bits.proofs.Order.{lt-or-le}
use Rattle.byte_texts.specs.Texts.{written}
use Rattle.byte_texts.specs.Growth.{Appended}
use Rattle.byte_texts.specs.declared.texts.Text.{Text}
use Rattle.byte_texts.proofs.TextLaws.{sets_out}
use Rattle.text_lines.specs.Tallies.{Reported}

-- what is written stands behind what was there, as far as there is room
written_start : (text out : List ℕ) (at : ℕ) → take (min (length out) (at + length text)) (sets out at text) ≡ take (min (length out) (at + length text)) (take at out ++ text)
written_start [] out at =
    sym (ap (take (min (length out) (at + 0))) (append-nil (take at out)) ∙ take-take (min (length out) (at + 0)) at out (omega arith))
written_start (b ∷ bs) out at = go (lt-or-le at (length out)) (written_start bs (set out at b) (suc at))
  where
    end : ℕ
    end = min (length out) (at + length (b ∷ bs))

    go : (at < length out) ⊎ (length out ≤ at)
        → take (min (length (set out at b)) (suc at + length bs)) (sets (set out at b) (suc at) bs)
        ≡ take (min (length (set out at b)) (suc at + length bs)) (take (suc at) (set out at b) ++ bs)
        → take end (sets out at (b ∷ bs)) ≡ take end (take at out ++ (b ∷ bs))
    go (inl l) same =
        let e : end ≡ min (length (set out at b)) (suc at + length bs) = omega (arith, length-set out at b) in
        rw e (same ∙ ap (take (min (length (set out at b)) (suc at + length bs))) (rw (take-suc-set out at b l) (append_assoc (take at out) (b ∷ []) bs)))
    go (inr g) same =
        ap (take end) (sets_out (b ∷ bs) out at g ∙ sym (take_all at out g)) ∙ sym (take-append-le end (take at out) (b ∷ bs) (rw (take_all at out g) (omega arith)))

module _ {said : List ℕ} {before : Text} (r : Reported said before) (more : List ℕ) where
  -- what was said is there as far as there is room
  behind : (end : ℕ) → end ≤ length before.out.now → take end (take before.end said ++ more) ≡ take end (said ++ more)
  behind end h = go (lt-or-le (length before.out.now) (length said))
    where
      go : (length before.out.now < length said) ⊎ (length said ≤ length before.out.now) → take end (take before.end said ++ more) ≡ take end (said ++ more)
      go (inl l) =
          let e : before.end ≡ length before.out.now = omega (arith, r.report_end) in
          take-append-le end (take before.end said) more (rw length-take (omega arith)) ∙ take-take end before.end said (omega arith)
          ∙ sym (take-append-le end said more (omega arith))
      go (inr g) = ap (λ (xs : List ℕ). take end (xs ++ more)) (take_all before.end said (omega (arith, r.report_end)))

  -- a text behind it
  pub reported_more : {after : Text} → Appended before after more → Reported (said ++ more) after
  unfolding written
  reported_more {after} e = record {
    report_end = e.end ∙ rw (e.out, length-sets, length-append) (omega (arith, r.report_end));
    reported =
        ap₂ take e.end e.out ∙ written_start more before.out.now before.end
        ∙ ap (λ (xs : List ℕ). take (min (length before.out.now) (before.end + length more)) (xs ++ more)) r.reported
        ∙ behind (min (length before.out.now) (before.end + length more)) (omega arith) ∙ ap (λ (n : ℕ). take n (said ++ more)) (sym e.end);
  }

  -- the first 20 are said, and no more
  pub reported_first : {n : ℕ} → n < 20 → {after : Text} → Appended before after more → Reported (said ++ cond (ltb n 20) more []) after
  reported_first {n} l e = rw (lt-ltb n 20 l) (reported_more e)

  pub reported_enough : {n : ℕ} → 20 ≤ n → Reported (said ++ cond (ltb n 20) more []) before
  reported_enough {n} g = rw (le-ltb n 20 g, append-nil) r
