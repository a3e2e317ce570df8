-- What is said of two files, by the record of them.
use Rattle.std.specs.Prelude.{Bool, List, ℕ}
use Rattle.listing_lines.specs.Lines.{different_text, result_text, verdict_text}
use Rattle.verdict_lines.specs.declared.last_lines.Verdict.{Verdict}

abbrev pub different_of : Verdict → List ℕ
different_of v = different_text v.name.now v.other.now v.sizes.name v.sizes.other v.sizes.extra v.sizes.lacking

abbrev pub result_of : Verdict → List ℕ
result_of v = result_text v.name.now v.other.now v.sizes.name v.sizes.other v.sizes.extra v.sizes.lacking

abbrev pub verdict_of : Bool → Verdict → List ℕ
verdict_of several v = verdict_text several v.name.now v.other.now v.sizes.name v.sizes.other v.sizes.extra v.sizes.lacking
