-- One log more is encoded: by lemmas on texts, which no tactic finds.
use Rattle.std.proofs.Common.{[], append-nil, arith, refl, subst, sym}
use Rattle.legalpath.specs.Legal.{Legal}
use Rattle.legalpath.specs.ProgramLog.{program_log}
use Rattle.rvclass.specs.Fetch.{words_of}
use Rattle.ffi.proofs.LogsAdded.{added_more}
use Rattle.ffi.proofs.TextsRead.{text_refused, texts_all, texts_more}
use Rattle.ffi.specs.declared.fault.Fault.TheVariants.{Memory}
use Rattle.ffi.specs.steps.Encoding.{AddsLog, AddsLogs}
use Rattle.ffi.proofs.encoding.encode_each.Goals as goal

pub loop-place-init : goal.loop-place-init
loop-place-init c = record { logs = []; are = tt; holds = sym (append-nil c.args.capture.now.items) }

pub returns-in-Err-clause-refused : goal.returns-in-Err-clause-refused
returns-in-Err-clause-refused c =
    text_refused c.args.program.now c.args.logs.now c.args.ends.now c.loop-place.place _ c.in-Err.why.0 c.in-Err.why.1
    c.loop-place-test.true c.in-Err.ensures.fault.0 c.loop-place.invariant c.in-Err.ensures.fault.1

pub returns-in-Err-add_log-clause-refused : goal.returns-in-Err-add_log-clause-refused
returns-in-Err-add_log-clause-refused c =
    text_refused c.args.program.now c.args.logs.now c.args.ends.now c.loop-place.place _ c.loop-place.place Memory
    c.loop-place-test.true refl c.loop-place.invariant tt

pub loop-place-preserved : goal.loop-place-preserved
loop-place-preserved c =
    let settings = c.args.settings in
    let of = AddsLogs settings.period settings.mode c.args.capture.now.items in
    let now = c.loop-place.capture.items in
    let new = c.add_log.new.capture.items in
    let program = c.args.program.now in
    let log = program_log program c.in-Ok.events.items in
    let adds = c.in-Ok-add_log.ensures
    (subst (Legal (words_of program)) (sym c.as_slice.ensures.value) c.in-Ok.ensures.legal) in
    texts_more program c.args.logs.now c.args.ends.now c.loop-place.place (of now) (of new) log c.loop-place-test.true
    c.in-Ok.ensures.log
    (λ logs many before. added_more settings.period settings.mode c.loop-place.place c.args.capture.now.items now new
    logs log many before
    (subst (λ events. AddsLog c.loop-place.place settings.period settings.mode now new (program_log program events))
    c.as_slice.ensures.value adds)) c.loop-place.invariant

pub returns-clause-added : goal.returns-clause-added
returns-clause-added c =
    let of = AddsLogs c.args.settings.period c.args.settings.mode c.args.capture.now.items c.loop-place.capture.items in
    texts_all c.args.program.now c.args.logs.now c.args.ends.now c.loop-place.place of of (omega arith)
    (λ logs many are. are) c.loop-place.invariant
