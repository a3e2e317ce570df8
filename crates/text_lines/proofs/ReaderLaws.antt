-- A text that is read byte by byte, and what a reader then holds of it. Assumes nothing.
use mathlib.Core.Path.{◌≡◌, refl, sym, subst, ◌∙◌}
use mathlib.Core.List.{List, [], ◌∷◌, ◌++◌}
use Prim.Native.Nat.{ℕ, ◌+◌, ◌<◌}
use native.Mathlib.Omega.{arith}
use lib.ListN.{length, take, get_or}
use Rattle.text_lines.specs.Rests.{HoldsRest}
use Rattle.text_lines.specs.Readers.{Keeps, HoldsText}
use Rattle.text_lines.specs.Texts.{Text, take_byte, take_bytes, at_end}
use Rattle.text_lines.specs.declared.open_line.OpenLine.{OpenLine}
use Rattle.text_lines.proofs.PieceLaws.{bytes_next, byte_ends, byte_joins, end_none, end_some}

-- from the start, these bytes are read
pub record Taken {S K F : Type 0} (kept : S → K) (step : K → List ℕ → F → F) (H : F → S → Type 0) (start : S) (line₀ : OpenLine) (bytes : List ℕ) (s : S) (line : OpenLine) : Type 0 where
  pub same : kept s ≡ kept start
  pub holds : (t : Text F) → HoldsText H t start line₀ → HoldsText H (take_bytes (step (kept start)) t bytes) s line

module _ {S K F : Type 0} {kept : S → K} {step : K → List ℕ → F → F} {H : F → S → Type 0} {start : S} {line₀ : OpenLine} where
  pub taken_none : Taken kept step H start line₀ [] start line₀
  unfolding take_bytes
  taken_none = record { same = refl; holds = λ t h. h }

  module _ (piece : List ℕ) {k : ℕ} {s : S} {line : OpenLine} (r : Taken kept step H start line₀ (take k piece) s line) (l : k < length piece) where
    -- one byte more of the text
    next : {s' : S} {line' : OpenLine} (t : Text F)
        → HoldsText H (take_byte (step (kept start)) (take_bytes (step (kept start)) t (take k piece)) (get_or piece k 0)) s' line'
        → HoldsText H (take_bytes (step (kept start)) t (take (k + 1) piece)) s' line'
    next {s'} {line'} t h = subst (λ (u : Text F). HoldsText H u s' line') (sym (bytes_next (step (kept start)) t piece k l)) h

    -- a line feed: the line is taken, and another starts
    pub taken_line : get_or piece k 0 ≡ 10 → {held : List ℕ} → ((rest : List ℕ) → HoldsRest rest line → held ≡ take 2052 rest)
        → {s' : S} → Keeps kept step H s held s' → {line' : OpenLine} → ((rest : List ℕ) → HoldsRest rest line → HoldsRest [] line')
        → Taken kept step H start line₀ (take (k + 1) piece) s' line'
    taken_line e held {s'} ended {line'} cleared = record {
      same = ended.same ∙ r.same;
      holds = λ t h.
          let g = r.holds t h in
          let u = take_bytes (step (kept start)) t (take k piece) in
          next t (subst (λ (u : Text F). HoldsText H u s' line') (sym (byte_ends (step (kept start)) u (get_or piece k 0) e))
          (record {
            file = subst (λ (k : K). H (step k u.rest u.file) s') r.same (ended.holds u.file u.rest (held u.rest g.rest) g.file);
            rest = cleared u.rest g.rest;
          }));
    }

    -- another byte is one more of the line
    pub taken_byte : (get_or piece k 0 ≡ 10 → ⊥) → {line' : OpenLine} → ((rest : List ℕ) → HoldsRest rest line → HoldsRest (rest ++ (get_or piece k 0 ∷ [])) line')
        → Taken kept step H start line₀ (take (k + 1) piece) s line'
    taken_byte n {line'} pushed = record {
      same = r.same;
      holds = λ t h.
          let g = r.holds t h in
          let u = take_bytes (step (kept start)) t (take k piece) in
          next t (subst (λ (u : Text F). HoldsText H u s line') (sym (byte_joins (step (kept start)) u (get_or piece k 0) n)) (record { file = g.file; rest = pushed u.rest g.rest }));
    }

-- ---- the end of the text

-- with no byte behind the last line feed
pub ended_none : {S F : Type 0} {H : F → S → Type 0} (step : List ℕ → F → F) {s : S} {line : OpenLine} → line.length ≡ 0
    → (t : Text F) → HoldsText H t s line → H (at_end step t) s
ended_none {F = F} {H = H} step {s = s} z t h = subst (λ (f : F). H f s) (sym (end_none step t (omega (arith, z, h.rest.rest_length)))) h.file

-- and with some
pub ended_some : {S K F : Type 0} {kept : S → K} {step : K → List ℕ → F → F} {H : F → S → Type 0} {s : S} {line : OpenLine} → 0 < line.length
    → {held : List ℕ} → ((rest : List ℕ) → HoldsRest rest line → held ≡ take 2052 rest) → {s' : S} → Keeps kept step H s held s'
    → (t : Text F) → HoldsText H t s line → H (at_end (step (kept s)) t) s'
ended_some {K = K} {F = F} {kept = kept} {step = step} {H = H} {s = s} l held {s'} ended t h =
    subst (λ (f : F). H f s') (sym (end_some (step (kept s)) t (λ z. absurd (omega (arith, z, l, h.rest.rest_length)))))
    (ended.holds t.file t.rest (held t.rest h.rest) h.file)
