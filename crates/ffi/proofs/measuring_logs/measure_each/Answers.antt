-- One log more is measured: by lemmas on texts, which no tactic finds.
use Rattle.std.proofs.Common.{◌+◌, ◌++◌, ◌∷◌, [], ◌∙◌, All, ap, refl, sym, subst, take, arith}
use Rattle.std.proofs.lemmas.List.Elements.{All-nil}
use Rattle.captures.specs.Bounds.{AreWithin, most_counted}
use Rattle.captures.specs.Measures.{measures_of}
use Rattle.legalpath.specs.Legal.{Legal}
use Rattle.legalpath.specs.ProgramLog.{program_log}
use Rattle.rvclass.specs.Fetch.{words_of}
use Rattle.ffi.proofs.MeasuredInTurn.{measured_more}
use Rattle.ffi.proofs.TextsRead.{text_refused, texts_all, texts_more}
use Rattle.ffi.specs.declared.fault.Fault.TheVariants.{Memory}
use Rattle.ffi.specs.steps.Measuring.{AreMeasured}
use Rattle.ffi.specs.steps.OfTexts.{AreTextsOf}
use Rattle.ffi.proofs.measuring_logs.measure_each.Goals as goal

pub loop-place-init : goal.loop-place-init
loop-place-init c = record {
  logs = [];
  are = tt;
  holds = record {
    counted = c.new-measures.ensures.items;
    within = subst (All (AreWithin most_counted)) (sym c.new-measures.ensures.items) (All-nil (AreWithin most_counted));
  };
}

pub returns-in-Err-clause-refused : goal.returns-in-Err-clause-refused
returns-in-Err-clause-refused c =
    text_refused c.args.program.now c.args.logs.now c.args.ends.now c.loop-place.place _ c.in-Err.why.0 c.in-Err.why.1
    c.loop-place-test.true c.in-Err.ensures.fault.0 c.loop-place.invariant c.in-Err.ensures.fault.1

pub returns-in-Err-push-clause-refused : goal.returns-in-Err-push-clause-refused
returns-in-Err-push-clause-refused c =
    text_refused c.args.program.now c.args.logs.now c.args.ends.now c.loop-place.place _ c.loop-place.place Memory
    c.loop-place-test.true refl c.loop-place.invariant tt

pub loop-place-preserved : goal.loop-place-preserved
loop-place-preserved c =
    let program = c.args.program.now in
    let of = AreMeasured c.args.period c.args.mode in
    let before = c.loop-place.measures.items in
    let own = c.count_events.result in
    let log = program_log program c.in-Ok.events.items in
    let value = c.as_slice.ensures.value in
    let counted = c.count_events.ensures.value (subst (Legal (words_of program)) (sym value) c.in-Ok.ensures.legal)
    ∙ ap (λ events. measures_of c.args.period c.args.mode (program_log program events)) value in
    subst (λ all. AreTextsOf program c.args.logs.now (take (c.loop-place.place + 1) c.args.ends.now) (of all)) (sym c.in-Ok-push.ensures.items)
    (texts_more program c.args.logs.now c.args.ends.now c.loop-place.place (of before) (of (before ++ own ∷ [])) log
    c.loop-place-test.true c.in-Ok.ensures.log
    (λ logs many are. measured_more c.args.period c.args.mode before own logs log are counted
    c.count_events.ensures.few) c.loop-place.invariant)

pub returns-clause-measured : goal.returns-clause-measured
returns-clause-measured c =
    let of = AreMeasured c.args.period c.args.mode c.loop-place.measures.items in
    texts_all c.args.program.now c.args.logs.now c.args.ends.now c.loop-place.place of of (omega arith)
    (λ logs many are. are) c.loop-place.invariant
