-- What is held of the harts is handed from step to step: by lemmas on it, which no tactic finds.
use Rattle.std.proofs.Common.{◌∙◌, subst, sym, refl}
use Rattle.comparing.specs.Compared.{gots_by}
use Rattle.comparing.specs.steps.Held.{count_in}
use Rattle.comparing.proofs.LineTexts.{harts_numbered}
use Rattle.comparing.specs.Sourced.{AreNumbered}
use Rattle.receiver.specs.Received.{events_in}
use Rattle.rvclass.specs.Fetch.{words_of}
use Rattle.ffi.proofs.HartsListed.{gots_listed, lists_many}
use Rattle.ffi.proofs.HeldForLogs.{comparison_found, flags_for, flags_held, held_for, log_refused}
use Rattle.ffi.specs.steps.Comparing.{AreCompared, Writes}
use Rattle.ffi.specs.steps.OfTexts.{AreTextsOf}
use Rattle.ffi.proofs.comparing_logs.compare_logs.Goals as goal

pub returns-then-ends-len : goal.returns-then-ends-len
returns-then-ends-len c =
    let outcome = c.in-Ok-decode_capture.outcome in
    let lists = outcome.harts.items in
    let closed = outcome.closed.items in
    let counts = c.in-Ok-counts_of.counts.items in
    let flags = flags_for c.args.image.now c.args.harts c.args.capture.now c.in-Ok.program c.in-Ok.is lists closed counts
    outcome.fault c.in-Ok-decode_capture.ensures.decoded in (
      refl,
      record {
        program = c.in-Ok.program;
        gots = gots_by (count_in counts) 0 (events_in lists) closed;
        stop = outcome.fault;
        held = held_for c.args.image.now c.args.harts c.args.capture.now c.in-Ok.program c.in-Ok.is lists closed counts
            outcome.fault c.in-Ok-decode_capture.ensures.decoded c.len.result (c.len.ensures ∙ outcome.harts.ok.0)
            c.in-Ok-counts_of.ensures c.stop_fault.result c.stop_fault.ensures c.if-stop_fault-eq-MEMORY.false;
        many = λ e. c.if-ends-len.true
            (e ∙ gots_listed counts lists closed flags ∙ sym (c.len-2.ensures ∙ outcome.harts.ok.0));
      },
    )

pub returns-in-Err-compare_each : goal.returns-in-Err-compare_each
returns-in-Err-compare_each c =
    let outcome = c.in-Ok-decode_capture.outcome in
    let lists = outcome.harts.items in
    let closed = outcome.closed.items in
    let counts = c.in-Ok-counts_of.counts.items in
    let flags = flags_for c.args.image.now c.args.harts c.args.capture.now c.in-Ok.program c.in-Ok.is lists closed counts
    outcome.fault c.in-Ok-decode_capture.ensures.decoded in
    log_refused c.args.image.now c.args.harts c.args.capture.now c.args.logs.now c.args.ends.now c.in-Ok.program
    c.in-Err-compare_each.place c.in-Err-compare_each.why c.in-Ok.is
    (record {
      program = c.in-Ok.program;
      gots = gots_by (count_in counts) 0 (events_in lists) closed;
      stop = outcome.fault;
      held = held_for c.args.image.now c.args.harts c.args.capture.now c.in-Ok.program c.in-Ok.is lists closed counts
          outcome.fault c.in-Ok-decode_capture.ensures.decoded c.len.result (c.len.ensures ∙ outcome.harts.ok.0)
          c.in-Ok-counts_of.ensures c.stop_fault.result c.stop_fault.ensures c.if-stop_fault-eq-MEMORY.false;
      many = c.if-ends-len.false ∙ c.len-2.ensures ∙ outcome.harts.ok.0 ∙ sym (gots_listed counts lists closed flags);
    })
    c.in-Err-compare_each.ensures.refused

pub returns-in-Ok-write_said : goal.returns-in-Ok-write_said
returns-in-Ok-write_said c =
    let outcome = c.in-Ok-decode_capture.outcome in
    let lists = outcome.harts.items in
    let closed = outcome.closed.items in
    let counts = c.in-Ok-counts_of.counts.items in
    let flags = flags_for c.args.image.now c.args.harts c.args.capture.now c.in-Ok.program c.in-Ok.is lists closed counts
    outcome.fault c.in-Ok-decode_capture.ensures.decoded in
    let gots = gots_by (count_in counts) 0 (events_in lists) closed in
    comparison_found c.args.image.now c.args.harts c.args.capture.now c.args.logs.now c.args.ends.now c.in-Ok.program gots
    outcome.fault
    (held_for c.args.image.now c.args.harts c.args.capture.now c.in-Ok.program c.in-Ok.is lists closed counts
    outcome.fault c.in-Ok-decode_capture.ensures.decoded c.len.result (c.len.ensures ∙ outcome.harts.ok.0)
    c.in-Ok-counts_of.ensures c.stop_fault.result c.stop_fault.ensures c.if-stop_fault-eq-MEMORY.false)
    closed
    (flags_held (count_in counts) 0 (events_in lists) closed (flags ∙ sym (lists_many counts lists closed)))
    c.in-Ok-compare_each.said.items
    (subst
    (λ all. AreTextsOf c.in-Ok.program c.args.logs.now c.args.ends.now
    (AreCompared (gots_by (count_in all) 0 (events_in lists) closed) c.in-Ok-compare_each.said.items))
    c.as_slice.ensures.value c.in-Ok-compare_each.ensures.said)
    c.in-Ok-write_said.written
    (subst (λ l. Writes (words_of c.in-Ok.program) c.args.capture.now l closed outcome.fault c.in-Ok-write_said.written) c.as_slice-2.ensures.value
    (subst (λ f. Writes (words_of c.in-Ok.program) c.args.capture.now c.as_slice-2.result.now f outcome.fault
    c.in-Ok-write_said.written) c.as_slice-3.ensures.value
    c.in-Ok-write_said.ensures))

pub write_said-requires : goal.write_said-requires
write_said-requires c =
    let are = c.in-Ok-compare_each.ensures.said in
    subst (AreNumbered 0) (sym c.as_slice-2.ensures.value)
    (subst (AreNumbered 0) (sym are.holds.each)
    (harts_numbered 0 _ are.logs))
