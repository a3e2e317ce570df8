-- What the line of two offsets does, by the words that they had. Assumes nothing.
use mathlib.Core.Path.{◌≡◌, refl, sym, ap, ap₂, subst, ◌∙◌}
use mathlib.Core.Bool.{Bool, true, false, cond, ◌&&◌}
use mathlib.Core.List.{List}
use Prim.Native.Nat.{ℕ, ◌<◌}
use lib.Dec.{eqb, ltb}
use lib.ListN.{get_or}
use Rattle.byte_texts.specs.Ascii.{ascii}
use Rattle.text_lines.specs.Texts.{more}
use Rattle.pair_files.specs.Files.{PairFile, bad, bad_line, named, accepted, pair_line}
use Rattle.pair_files.specs.Holds.{HoldsPairs}
use Rattle.pair_files.specs.Messages.{faults_text}
use Rattle.pair_files.specs.declared.reader.PairReader.{PairReader}

-- what their line does, by the two tests
unfoldable pub chosen : List ℕ → List ℕ → ℕ → ℕ → ℕ → PairFile → Bool → Bool → ℕ → ℕ → PairFile
chosen name body size old new f said passes was came =
    cond said (bad_line name body (ascii "a pair behind the last line of a list") f)
    (cond passes (accepted old new (named old new f)) (bad (faults_text name (more f.lines) size old new was came) (named old new f)))

module _ (name body : List ℕ) (size old new : ℕ) (f : PairFile) {s : PairReader} where
  choose : {said passes : Bool} {was came : ℕ} → said ≡ f.said → passes ≡ (eqb (f.to old) 0 && (eqb (f.from new) 0 && ltb new size)) → was ≡ f.to old → came ≡ f.from new
      → HoldsPairs (chosen name body size old new f said passes was came) s → HoldsPairs (pair_line name body size old new f) s
  unfolding pair_line chosen
  choose {said} {passes} {was} {came} a b c d g =
      subst (λ (x : PairFile). HoldsPairs x s)
      (ap (λ (t : Bool). chosen name body size old new f t passes was came) a
      ∙ ap (λ (t : Bool). chosen name body size old new f f.said t was came) b
      ∙ ap₂ (chosen name body size old new f f.said (eqb (f.to old) 0 && (eqb (f.from new) 0 && ltb new size))) c d) g

module _ {f : PairFile} {r : PairReader} (h : HoldsPairs f r) (name body : List ℕ) (size old new : ℕ) {s : PairReader} where
  pub pair_said : r.report.now.tally.said ≡ true → HoldsPairs (bad_line name body (ascii "a pair behind the last line of a list") f) s
      → HoldsPairs (pair_line name body size old new f) s
  unfolding chosen
  pair_said e g = choose name body size old new f (sym e ∙ h.counts.said) refl refl refl g

  module _ (l : old < 65536) (m : new < 65536) {was came : ℕ} (a : was ≡ get_or r.to.now old 0) (b : came ≡ get_or r.from.now new 0)
      {passes : Bool} (e : passes ≡ (eqb was 0 && (eqb came 0 && ltb new size))) (d : r.report.now.tally.said ≡ false) where
    by_words : HoldsPairs (chosen name body size old new f false passes was came) s → HoldsPairs (pair_line name body size old new f) s
    by_words g =
        let c = a ∙ h.to-words old l in
        let k = b ∙ h.from-words new m in
        choose name body size old new f (sym d ∙ h.counts.said) (e ∙ ap₂ (λ (x y : ℕ). eqb x 0 && (eqb y 0 && ltb new size)) c k) c k g

    pub pair_accepted : passes ≡ true → HoldsPairs (accepted old new (named old new f)) s → HoldsPairs (pair_line name body size old new f) s
    unfolding chosen
    pair_accepted p g = by_words (rw p g)

    pub pair_refused : passes ≡ false → HoldsPairs (bad (faults_text name (named old new f).lines size old new was came) (named old new f)) s
        → HoldsPairs (pair_line name body size old new f) s
    unfolding chosen named
    pair_refused p g = by_words (rw p g)
