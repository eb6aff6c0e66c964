-- What `csv` reads next is related to the records that are left by lemmas, which no search finds.
use Rattle.std.proofs.Common.{◌≡◌, ◌∙◌, [], arith, inr, rules, subst, sym, true}
use Rattle.std.proofs.lemmas.Result.{err_from_is_err_and}
use Rattle.std.specs.Result.{is_ok}
use Rattle.csv.specs.Reading.{reader_state}
use Rattle.csv.specs.Records.{fields_of}
use Rattle.retire.specs.steps.ReadsRows.{ReadsRows}
use Rattle.retire.specs.steps.RowsLeft.{records_left}
use Rattle.retire.proofs.ReadsLemmas.{reads-fault, reads-more, reads-none, reads-too_many}
use Rattle.retire.proofs.RecordsLemmas.{records_left-end, records_left-read}
use Rattle.retire.proofs.by_csv.read_rows.Goals as goal

pub loop-before-init : goal.loop-before-init
loop-before-init g c = record {
  plain = c.requires.plain;
  ready = c.requires.ready;
  config = c.requires.config;
  so_far = λ text source start. (
    text,
    source,
    start,
    reads-none c.args.most c.args.rows (records_left (reader_state c.args.reader.now) text) c.args.events.now.items,
  );
}

pub returns-then-not-branch-clause-reads : goal.returns-then-not-branch-clause-reads
returns-then-not-branch-clause-reads g c = λ text source start.
    let (y, at_y, begins, so_far) = c.loop-before.invariant.so_far text source start in
    let none =
    records_left-end g.R.Read.remaining c.loop-before.reader c.next_record.new.reader _ y c.loop-before.invariant.config
    at_y (rw c.if-not-branch.true at c.in_ok-next_record.ensures.reads) in
    rw (← none) so_far

pub returns-in_err-event-clause-faults : goal.returns-in_err-event-clause-faults
returns-in_err-event-clause-faults g c = λ text source start.
    let made = err_from_is_err_and c.from_residual-in_err-event.result c.from_residual-in_err-event.ensures.1 in
    let (y, at_y, begins, so_far) = c.loop-before.invariant.so_far text source start in
    let (z, at_z, still, some) =
    records_left-read g.R.Read.remaining c.loop-before.reader c.next_record.new.reader _ y
    c.loop-before.invariant.config at_y begins (rw c.if-not-branch.false at c.in_ok-next_record.ensures.reads) in
    rw (made.1, made.2)
    (inr (reads-fault _ _ _ _ _ _ (fields_of c.next_record.new.line) _ _ c.in_err-event.field-0.0 so_far some
    (search (rules, arith)) (sym c.in_err-event.ensures)))

pub loop-before-preserved : goal.loop-before-preserved
loop-before-preserved g c =
    let good : is_ok c.push.result ≡ true = search rules in
    let items = rw good at c.push.ensures.items in
    record {
      plain = c.in_ok-next_record.ensures.trim_same ∙ c.loop-before.invariant.plain;
      ready = c.in_ok-next_record.ensures.still;
      config = c.in_ok-next_record.ensures.config_same ∙ c.loop-before.invariant.config;
      so_far = λ text source start.
          let (y, at_y, begins, so_far) = c.loop-before.invariant.so_far text source start in
          let (z, at_z, still, some) =
          records_left-read g.R.Read.remaining c.loop-before.reader c.next_record.new.reader _ y
          c.loop-before.invariant.config at_y begins
          (rw c.if-not-branch.false at c.in_ok-next_record.ensures.reads) in (
            z,
            at_z,
            still,
            reads-more _ _ _ _ _ _ _ (fields_of c.next_record.new.line) _ _ c.in_ok-event.event so_far some
                (search (rules, arith)) (sym c.in_ok-event.ensures) items,
          );
    }

pub returns-then-branch-clause-faults : goal.returns-then-branch-clause-faults
returns-then-branch-clause-faults g c = λ text source start.
    let (y, at_y, begins, so_far) = c.loop-before.invariant.so_far text source start in
    let (z, at_z, still, some) =
    records_left-read g.R.Read.remaining c.loop-before.reader c.next_record-2.new.reader _ y
    c.loop-before.invariant.config at_y begins (rw c.if-branch.true at c.in_ok-next_record-2.ensures.reads) in
    inr (reads-too_many _ _ _ _ _ _ (fields_of c.next_record-2.new.line) _ _ so_far some (search (rules, arith))
    ∙ search rules)

pub returns-clause-reads : goal.returns-clause-reads
returns-clause-reads g c = λ text source start.
    let (y, at_y, begins, so_far) = c.loop-before.invariant.so_far text source start in
    let none =
    records_left-end g.R.Read.remaining c.loop-before.reader c.next_record-2.new.reader _ y
    c.loop-before.invariant.config at_y (rw c.if-branch.false at c.in_ok-next_record-2.ensures.reads) in
    let last : c.loop-before.before ≡ c.args.most = search (rules, arith) in
    subst
    (λ n. ReadsRows c.args.most c.args.rows (records_left (reader_state c.args.reader.now) text)
    c.args.events.now.items c.loop-before.events.items n [])
    last (rw (← none) so_far)
