-- What a call gives, as a record with its number.
use Rattle.std.specs.Prelude.{Result}
use Rattle.sets.specs.Refusals.{answer_of}
use Rattle.sets.specs.declared.answers.Part.{Part}
use Rattle.sets.specs.declared.refusal.Refusal.{Refusal}
use Rattle.next_many.specs.declared.answers.Many.{Many}
use Rattle.next_many.specs.declared.answers.ManyPair.{ManyPair}
use Rattle.next_many.specs.declared.answers.NextMany.{NextMany}
use Rattle.next_many.specs.declared.answers.NextManyPair.{NextManyPair}

abbrev pub accepted_many : Many → NextMany
accepted_many m = record { number = 0; count = m.count; part = m.part }

-- refused, nothing is written and the record is as handed in
abbrev pub next_many_of : Part → Result Many Refusal → NextMany
next_many_of part = answer_of (λ m. record { number = m; count = 0; part = part }) accepted_many

abbrev pub accepted_pair : ManyPair → NextManyPair
accepted_pair m = record { number = 0; count = m.count; one = m.one; two = m.two }

abbrev pub next_many_pair_of : Part → Part → Result ManyPair Refusal → NextManyPair
next_many_pair_of one two = answer_of (λ m. record { number = m; count = 0; one = one; two = two }) accepted_pair
