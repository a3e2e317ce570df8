-- The parts of a message one after the other, and the line of a buffer of 256 bytes. Assumes nothing.
use mathlib.Core.Path.{◌≡◌, sym, subst, ap, ◌∙◌}
use mathlib.Core.List.{List, [], ◌∷◌, ◌++◌, append-nil, append_assoc}
use Prim.Native.Nat.{ℕ, ◌+◌, ◌<◌, ◌≤◌, min}
use native.Mathlib.Omega.{arith}
use Rattle.std.specs.Prelude.{Option, length, take, get_or}
use Rattle.std.specs.Io.KnownBytes.{Appends}
use Rattle.std.proofs.lemmas.List.{take_min, take_more, take_all}
use Rattle.byte_texts.specs.Ascii.{ascii}
use Rattle.byte_texts.specs.Growth.{Appended}
use Rattle.byte_texts.specs.declared.texts.Text.{Text}
use Rattle.byte_texts.proofs.TextLaws.{written-length}
use Rattle.text_lines.specs.Tallies.{Reported}
use Rattle.text_lines.proofs.ReportLaws.{reported_more}
use Rattle.tool_files.specs.Telling.{Says, SaysAll, Told, no_part, part}
use Rattle.tool_files.specs.declared.messages.Fragment.{Fragment}

-- a line of 256 bytes has the start and what is said of the first k parts
pub record Line (start : List ℕ) (message : List Fragment) (k : ℕ) (line : Text) : Type 0 where
  pub room : length line.out.now ≡ 256
  pub said : List ℕ
  pub says : SaysAll (take k message) said
  pub holds : Reported (start ++ said) line

module _ {start : List ℕ} {message : List Fragment} where
  pub said_more : {k : ℕ} {a b c : Text} (d : Fragment) {f : Fragment} (text : List ℕ) → Line start message k a → k < length message → get_or message k d ≡ f → Says f text
      → Appended a b text → c ≡ b → Line start message (k + 1) c
  said_more {k} {a} {b} {c} d {f} text l lt is s e same = record {
    room = ap (λ (t : Text). length t.out.now) same ∙ ap length e.out ∙ written-length a.out.now a.end text ∙ l.room;
    said = l.said ++ text;
    says = subst (λ fs. SaysAll fs (l.said ++ text)) (sym (take_more message k d lt ∙ ap (λ x. take k message ++ (x ∷ [])) is)) (part f text l.says s);
    holds = subst (λ t. Reported (start ++ (l.said ++ text)) t) (sym same) (subst (λ t. Reported t b) (append_assoc start l.said text) (reported_more l.holds text e));
  }

  -- nothing is said yet
  pub said_none : {a b : Text} → length a.out.now ≡ 256 → a.end ≡ 0 → Appended a b start → Line start message 0 b
  said_none {a} {b} room empty e = record {
    room = ap length e.out ∙ written-length a.out.now a.end start ∙ room;
    said = [];
    says = no_part;
    holds = subst (λ t. Reported t b) (sym (append-nil start)) (reported_more {said = []} (record { report_end = empty ∙ omega arith; reported = ap (λ n. take n a.out.now) empty ∙ sym (ap (λ n. take n []) empty) }) start e);
  }

  -- all is said, and the line ends
  pub told : {k : ℕ} {a b : Text} {text : List ℕ} (old new : Option (List ℕ)) → length message ≤ k → Line start message k a → Appended a b (10 ∷ [])
      → text ≡ take b.end b.out.now → Appends old new text → Told start message old new
  unfolding ascii
  told {k} {a} {b} {text} old new all l e is h =
      let r : Reported ((start ++ l.said) ++ (10 ∷ [])) b = reported_more l.holds (10 ∷ []) e in
      let room : length b.out.now ≡ 256 = ap length e.out ∙ written-length a.out.now a.end (10 ∷ []) ∙ l.room in (
        l.said,
        subst (λ fs. SaysAll fs l.said) (take_all k message all) l.says,
        subst (λ t. Appends old new t)
            (is ∙ r.reported ∙ ap (λ n. take n ((start ++ l.said) ++ (10 ∷ []))) (r.report_end ∙ ap (λ n. min n (length ((start ++ l.said) ++ (10 ∷ [])))) room)
            ∙ take_min 256 ((start ++ l.said) ++ (10 ∷ [])))
            h,
      )
