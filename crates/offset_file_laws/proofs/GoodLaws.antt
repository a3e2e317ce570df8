-- An entry that leaves no bad line, and how many offsets are named. Assumes nothing.
use mathlib.Core.Path.{◌≡◌, refl, sym, ap, ◌∙◌}
use mathlib.Core.Bool.{Bool, true, false, cond, not, ◌&&◌, ◌||◌}
use mathlib.Core.List.{List}
use Prim.Native.Nat.{ℕ}
use native.Mathlib.Omega.{arith}
use borrow.Author.Tests.{eqb-true, eq-eqb, ne_eqb}
use lib.Dec.{eqb}
use Rattle.offset_file_laws.specs.Entries.{LineEntry}
use Rattle.std.specs.Prelude.{Ok, Err}
use Rattle.offset_lines.specs.declared.entry.Entry.TheVariants.{Blank, Item, Says}
use Rattle.text_lines.specs.Texts.{more}
use Rattle.offset_files.specs.Files.{File, blank_line, bad_line, new_offset, second_naming, entry_line}
use Rattle.offset_file_laws.specs.Entries.{is_offset, is_bad, says_count}
use Rattle.offset_files.proofs.EntryLaws.{chosen}
use Rattle.offset_file_laws.proofs.StepLaws.{more-some, told, as_chosen, as_told, entry_first}

-- the lines above have no bad one; it may stand there; an offset stands above the last line of a list; a last line says how many offsets are named
pub record Good (f : File) (e : LineEntry) : Type 0 where
  pub above : f.bads ≡ 0
  pub sound : is_bad e ≡ false
  pub placed : (p : ℕ) → is_offset p e ≡ true → f.said ≡ false
  pub right : (n : ℕ) → says_count n e ≡ true → n ≡ f.named

-- false is not true
pub never : {A : Type 0} → ◌≡◌ {A = Bool} false true → A
never e = let z : ◌≡◌ {A = ℕ} 0 1 = cc in absurd (omega arith)

module _ (name body : List ℕ) (f : File) where
  chosen_good : (q : ℕ) (s n a : Bool) → (chosen name body q f s n a).bads ≡ 0 → (f.bads ≡ 0) × (s ≡ false)
  unfolding chosen bad_line new_offset blank_line second_naming
  chosen_good q true n a e = absurd (more-some f.bads e)
  chosen_good q false true a e = (e, refl)
  chosen_good q false false true e = (e, refl)
  chosen_good q false false false e = (e, refl)

  told-good : (n : ℕ) (t : Bool) → (told name body f n t).bads ≡ 0 → (f.bads ≡ 0) × (t ≡ true)
  unfolding told bad_line blank_line
  told-good n true e = (e, refl)
  told-good n false e = absurd (more-some f.bads e)

  pub good_entry : (e : LineEntry) → (entry_line name body e f).bads ≡ 0 → Good f e
  unfolding entry_line bad_line blank_line is_offset is_bad says_count
  good_entry (Ok Blank) z = record { above = z; sound = refl; placed = λ p e. never e; right = λ n e. never e }
  good_entry (Ok (Item q)) z =
      let g = chosen_good q f.said (eqb (f.first q) 0) (f.again q) (ap (λ (g : File). g.bads) (sym (as_chosen name body f q)) ∙ z) in
      record { above = g.0; sound = refl; placed = λ p e. g.1; right = λ n e. never e }
  good_entry (Ok (Says m)) z =
      let g = told-good m (eqb m f.named) (ap (λ (g : File). g.bads) (sym (as_told name body f m)) ∙ z) in
      record { above = g.0; sound = refl; placed = λ p e. never e; right = λ n e. eqb-true n m e ∙ eqb-true m f.named g.1 }
  good_entry (Err fault) z = absurd (more-some f.bads z)

  -- an offset has a line exactly if it had one or the entry names it
  pub good-first : (p : ℕ) (e : LineEntry) → Good f e → not (eqb ((entry_line name body e f).first p) 0) ≡ (not (eqb (f.first p) 0) || is_offset p e)
  good-first p e g = ap (λ (k : ℕ). not (eqb k 0)) (entry_first name body f p e) ∙ go (is_offset p e) refl (eqb (f.first p) 0) refl
    where
      go : (o : Bool) → is_offset p e ≡ o → (z : Bool) → eqb (f.first p) 0 ≡ z
          → not (eqb (cond (o && (not f.said && z)) (more f.lines) (f.first p)) 0) ≡ (not z || o)
      go true q true z = rw (g.placed p q, ne_eqb (more f.lines) 0 (more-some f.lines)) refl
      go true q false z = rw (g.placed p q, z) refl
      go false q true z = rw z refl
      go false q false z = rw z refl

  -- ---- how many offsets are named

  chosen_named : (q : ℕ) (s n a : Bool) → (chosen name body q f s n a).named ≡ cond (not s && n) (more f.named) f.named
  unfolding chosen bad_line new_offset blank_line second_naming
  chosen_named q true n a = refl
  chosen_named q false true a = refl
  chosen_named q false false true = refl
  chosen_named q false false false = refl

  pub offset_named : (q : ℕ) → (entry_line name body (Ok (Item q)) f).named ≡ cond (not f.said && eqb (f.first q) 0) (more f.named) f.named
  unfolding entry_line
  offset_named q = ap (λ (g : File). g.named) (as_chosen name body f q) ∙ chosen_named q f.said (eqb (f.first q) 0) (f.again q)

  told_named : (n : ℕ) (t : Bool) → (told name body f n t).named ≡ f.named
  unfolding told bad_line blank_line
  told_named n true = refl
  told_named n false = refl

  -- any other entry names none
  pub other-named : (e : LineEntry) → ((q : ℕ) → is_offset q e ≡ true → ⊥) → (entry_line name body e f).named ≡ f.named
  unfolding entry_line bad_line blank_line is_offset
  other-named (Ok Blank) h = refl
  other-named (Ok (Item q)) h = absurd (h q (eq-eqb q q refl))
  other-named (Ok (Says n)) h = ap (λ (g : File). g.named) (as_told name body f n) ∙ told_named n (eqb n f.named)
  other-named (Err fault) h = refl

  -- and none is named behind the last line of a list
  pub said_named : f.said ≡ true → (e : LineEntry) → (entry_line name body e f).named ≡ f.named
  unfolding is_offset
  said_named s (Ok Blank) = other-named (Ok Blank) (λ q e. never e)
  said_named s (Ok (Item q)) = offset_named q ∙ ap (λ (t : Bool). cond (not t && eqb (f.first q) 0) (more f.named) f.named) s
  said_named s (Ok (Says n)) = other-named (Ok (Says n)) (λ q e. never e)
  said_named s (Err fault) = other-named (Err fault) (λ q e. never e)
