-- The number of offsets that a file names is that of the offsets that have a line. Assumes nothing.
use mathlib.Core.Path.{◌≡◌, refl, sym, ap, subst, ◌∙◌}
use mathlib.Core.Bool.{Bool, true, false, cond, not, ◌&&◌}
use mathlib.Core.List.{List, [], ◌∷◌}
use mathlib.Core.Logic.{◌⊎◌, inl, inr}
use Prim.Native.Nat.{ℕ, zero, suc, ◌+◌, ◌≤◌, ◌<◌}
use native.Mathlib.Omega.{arith}
use borrow.Author.Tests.{eqb-true, eqb-false, eq-eqb, ne_eqb}
use lib.Dec.{eqb}
use Rattle.word_bits.specs.Counts.{count}
use Rattle.word_bits.specs.Digits.{one}
use Rattle.word_bits.proofs.Ones.{count_ext, count-le, count_none}
use Rattle.word_bits.proofs.Order.{lt-or-le}
use Rattle.offset_lines.specs.Lines.{line_of}
use Rattle.offset_file_laws.specs.Entries.{LineEntry}
use Rattle.std.specs.Prelude.{Ok, Err}
use Rattle.offset_lines.specs.declared.entry.Entry.TheVariants.{Blank, Item, Says}
use Rattle.offset_lines.proofs.LineLaws.{offset_below}
use Rattle.text_lines.specs.Texts.{more}
use Rattle.offset_files.specs.Files.{File, no_lines, entry_line, file_of}
use Rattle.offset_file_laws.specs.Entries.{lines_of, bodies_of, is_offset}
use Rattle.offset_file_laws.proofs.StepLaws.{more-some, entry_first}
use Rattle.offset_file_laws.proofs.GoodLaws.{never, offset_named, other-named}
use Rattle.offset_file_laws.proofs.FoldLaws.{entered, file_is}

-- one place more
pub count-more : (n : ℕ) (f g : ℕ → Bool) (q : ℕ) → q < n → f q ≡ false → g q ≡ true → ((p : ℕ) → (p ≡ q → ⊥) → f p ≡ g p) → count n g ≡ count n f + 1
unfolding count
count-more zero f g q l a b same = absurd (omega arith)
count-more (suc n) f g q l a b same = go (lt-or-le q n) (count-more n f g q)
  where
    go : (q < n) ⊎ (n ≤ q) → (q < n → f q ≡ false → g q ≡ true → ((p : ℕ) → (p ≡ q → ⊥) → f p ≡ g p) → count n g ≡ count n f + 1) → count n g + one (g n) ≡ count n f + one (f n) + 1
    go (inl h) next =
        let e = next h a b same in
        let s : one (f n) ≡ one (g n) = ap one (same n (λ z. omega arith)) in
        omega arith
    go (inr h) next =
        let here : q ≡ n = omega arith in
        let e : count n f ≡ count n g = count_ext n f g (λ j k. same j (λ z. omega arith)) in
        let u : one (f n) ≡ 0 = ap one (ap f (sym here) ∙ a) in
        let v : one (g n) ≡ 1 = ap one (ap g (sym here) ∙ b) in
        omega arith

-- ---- the offsets that have a line

abbrev pub has_line : File → ℕ → Bool
has_line f p = not (eqb (f.first p) 0)

pub record Counted (f : File) : Type 0 where
  pub is : f.named ≡ count 65536 (has_line f)

module _ (name body : List ℕ) (f : File) (c : Counted f) where
  counted_same : {g : File} → g.named ≡ f.named → ((p : ℕ) → g.first p ≡ f.first p) → Counted g
  counted_same {g} n s = record { is = n ∙ c.is ∙ count_ext 65536 (has_line f) (has_line g) (λ p l. ap (λ (k : ℕ). not (eqb k 0)) (sym (s p))) }

  other-counted : (e : LineEntry) → ((q : ℕ) → is_offset q e ≡ false) → Counted (entry_line name body e f)
  other-counted e h =
      counted_same (other-named name body f e (λ q o. never (sym (h q) ∙ o)))
      (λ p. entry_first name body f p e ∙ ap (λ (t : Bool). cond (t && (not f.said && eqb (f.first p) 0)) (more f.lines) (f.first p)) (h p))

  offset_counted : (q : ℕ) → q < 65536 → Counted (entry_line name body (Ok (Item q)) f)
  unfolding is_offset more
  offset_counted q l = go (not f.said && eqb (f.first q) 0) refl
    where
      g : File
      g = entry_line name body (Ok (Item q)) f

      at : (p : ℕ) (t : Bool) → eqb p q ≡ t → g.first p ≡ cond (t && (not f.said && eqb (f.first p) 0)) (more f.lines) (f.first p)
      at p t e = entry_first name body f p (Ok (Item q)) ∙ ap (λ (t : Bool). cond (t && (not f.said && eqb (f.first p) 0)) (more f.lines) (f.first p)) e

      other : (p : ℕ) → (p ≡ q → ⊥) → g.first p ≡ f.first p
      other p n = at p false (ne_eqb p q n)

      here : (t : Bool) → (not f.said && eqb (f.first q) 0) ≡ t → g.first q ≡ cond t (more f.lines) (f.first q)
      here t e = at q true (eq-eqb q q refl) ∙ ap (λ (t : Bool). cond t (more f.lines) (f.first q)) e

      and_right : (a b : Bool) → (a && b) ≡ true → b ≡ true
      and_right true b e = e
      and_right false b e = never e

      go : (t : Bool) → (not f.said && eqb (f.first q) 0) ≡ t → Counted g
      go true e = record {
        is =
            offset_named name body f q ∙ ap (λ (t : Bool). cond t (more f.named) f.named) e
            ∙ (let b = count-le 65536 (has_line f) in let k = c.is in omega arith)
            ∙ sym (count-more 65536 (has_line f) (has_line g) q l (ap not (and_right (not f.said) (eqb (f.first q) 0) e))
            (ap not (ne_eqb (g.first q) 0 (λ z. more-some f.lines (sym (here true e) ∙ z))))
            (λ p n. ap (λ (k : ℕ). not (eqb k 0)) (sym (other p n))));
      }
      go false e = counted_same (offset_named name body f q ∙ ap (λ (t : Bool). cond t (more f.named) f.named) e) (λ p. same p (eqb p q) refl)
        where
          same : (p : ℕ) (t : Bool) → eqb p q ≡ t → g.first p ≡ f.first p
          same p true d = subst (λ (r : ℕ). g.first r ≡ f.first r) (sym (eqb-true p q d)) (here false e)
          same p false d = other p (eqb-false p q d)

  entry_counted : (e : LineEntry) → ((q : ℕ) → e ≡ Ok (Item q) → q < 65536) → Counted (entry_line name body e f)
  unfolding is_offset
  entry_counted (Ok Blank) l = other-counted (Ok Blank) (λ q. refl)
  entry_counted (Ok (Item q)) l = offset_counted q (l q refl)
  entry_counted (Ok (Says n)) l = other-counted (Ok (Says n)) (λ q. refl)
  entry_counted (Err fault) l = other-counted (Err fault) (λ q. refl)

module _ (name : List ℕ) where
  counted-from : (bodies : List (List ℕ)) (f : File) → Counted f → Counted (entered name f bodies)
  unfolding entered
  counted-from [] f c = c
  counted-from (body ∷ bodies) f c =
      counted-from bodies (entry_line name body (line_of body) f) (entry_counted name body f c (line_of body) (offset_below body))

  -- the number of offsets is that of those that have a line
  pub counted_is : (text : List ℕ) → Counted (file_of name text)
  counted_is text =
      subst Counted (sym (file_is name text)) (counted-from (bodies_of (lines_of text)) no_lines (record { is = sym (count_none 65536 (has_line no_lines) (λ p l. refl)) }))
