use Rattle.byte_texts.specs.Ascii.{ascii}
use Rattle.text_lines.specs.Messages.{reason_text}
use Rattle.offset_files.proofs.EntryLaws.{first-none, named-once, offset_said, offset_new, offset_third, offset_second}
use Rattle.offset_files.proofs.reader.OffsetReader.offset_line.Goals as goal

pub returns-then-self-clause-held : goal.returns-then-self-clause-held
unfolding ascii reason_text
returns-then-self-clause-held c = λ f l h. offset_said h _ l _ _ c.if-self.true (c.bad_line.ensures.made.holds f h)

pub returns-then-entry-lt2-clause-held : goal.returns-then-entry-lt2-clause-held
returns-then-entry-lt2-clause-held c = λ f l h.
    offset_new h _ l _ _ c.if-self.false c.if-entry-lt2.true (c.new_offset.ensures.held f (first-none h _ l c.if-entry-lt2.true) h)

pub returns-then-entry-eq1-clause-held : goal.returns-then-entry-eq1-clause-held
returns-then-entry-eq1-clause-held c = λ f l h. offset_third h _ l _ _ c.if-self.false c.if-entry-lt2.false c.if-entry-eq1.true (c.blank_line.ensures.made.holds f h)

pub returns-clause-held : goal.returns-clause-held
returns-clause-held c = λ f l h.
    offset_second h _ l _ _ c.if-self.false c.if-entry-lt2.false c.if-entry-eq1.false (c.second_naming.ensures.held f (named-once h _ l c.if-entry-eq1.false) h)
