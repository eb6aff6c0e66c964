-- What `csv` reads first is related to the records of the text by lemmas, which no search finds.
use Rattle.std.proofs.Common.{◌∙◌, inl, inr, refl, sym}
use Rattle.csv.specs.Records.{fields_of}
use Rattle.retire.proofs.ReadsLemmas.{first-fault, rows-fault}
use Rattle.retire.proofs.RecordsLemmas.{records_left-end, records_left-read}
use Rattle.retire.proofs.by_csv.read_beginning.Goals as goal

pub returns-then-not-branch-clause-reads : goal.returns-then-not-branch-clause-reads
returns-then-not-branch-clause-reads g c = λ text source start. (
  records_left-end g.R.Read.remaining c.args.reader.now c.next_record.new.reader _ text c.requires.config source
      (rw c.if-not-branch.true at c.in_ok-next_record.ensures.reads),
  refl,
)

pub returns-then-not-is_header-clause-faults : goal.returns-then-not-is_header-clause-faults
returns-then-not-is_header-clause-faults g c = λ text source start.
    let (z, at_z, still, some) =
    records_left-read g.R.Read.remaining c.args.reader.now c.next_record.new.reader _ text c.requires.config source
    start (rw c.if-not-branch.false at c.in_ok-next_record.ensures.reads) in
    inr (first-fault _ _ _ (fields_of c.next_record.new.line) _ some
    (rw (sym c.is_header.ensures ∙ c.if-not-is_header.true) refl))

pub returns-in-Ok-clause-reads : goal.returns-in-Ok-clause-reads
returns-in-Ok-clause-reads g c = λ text source start.
    let (z, at_z, still, some) =
    records_left-read g.R.Read.remaining c.args.reader.now c.next_record.new.reader _ text c.requires.config source
    start (rw c.if-not-branch.false at c.in_ok-next_record.ensures.reads) in
    record {
      first = fields_of c.next_record.new.line;
      rows = _;
      records_are = some;
      header = sym c.is_header.ensures ∙ c.if-not-is_header.false;
      read = c.in-Ok.ensures.reads z at_z still;
    }

pub returns-in-Err-clause-faults : goal.returns-in-Err-clause-faults
returns-in-Err-clause-faults g c = λ text source start.
    let (z, at_z, still, some) =
    records_left-read g.R.Read.remaining c.args.reader.now c.next_record.new.reader _ text c.requires.config source
    start (rw c.if-not-branch.false at c.in_ok-next_record.ensures.reads) in
    elim (c.in-Err.ensures.faults z at_z still) [
      | inl denied ↦ inl denied
      | inr e ↦
          inr (rows-fault _ _ _ (fields_of c.next_record.new.line) _ some
          (sym c.is_header.ensures ∙ c.if-not-is_header.false) e)
    ]
