-- One hart more is compared: by lemmas on texts, which no tactic finds.
use Rattle.std.proofs.Common.{◌≡◌, ◌+◌, ◌++◌, ◌∷◌, ◌∙◌, [], take, ap, refl, sym, subst, arith}
use Rattle.std.proofs.lemmas.List.{take_all}
use Rattle.comparing.specs.Compared.{got_by, gots_by}
use Rattle.comparing.specs.Explained.{explained_hart, explained_harts}
use Rattle.comparing.specs.steps.Held.{count_in}
use Rattle.legalpath.specs.ProgramLog.{program_log}
use Rattle.receiver.specs.Received.{events_in}
use Rattle.ffi.proofs.ComparedInTurn.{compared_more}
use Rattle.ffi.proofs.HartsListed.{got_listed, gots_listed}
use Rattle.ffi.proofs.TextsRead.{text_refused, texts_all, texts_more}
use Rattle.ffi.specs.declared.fault.Fault.TheVariants.{Memory}
use Rattle.ffi.specs.steps.Comparing.{AreCompared}
use Rattle.ffi.specs.steps.OfTexts.{AreTextsOf}
use Rattle.ffi.proofs.comparing_logs.compare_each.Goals as goal

pub loop-place-init : goal.loop-place-init
loop-place-init c = record { logs = []; are = tt; holds = c.new-said.ensures.items }

pub returns-in-Err-clause-refused : goal.returns-in-Err-clause-refused
returns-in-Err-clause-refused c =
    text_refused c.args.program.now c.args.logs.now c.args.ends.now c.loop-place.place _ c.in-Err.why.0 c.in-Err.why.1
    c.loop-place-test.true c.in-Err.ensures.fault.0 c.loop-place.invariant c.in-Err.ensures.fault.1

pub returns-in-Err-push-clause-refused : goal.returns-in-Err-push-clause-refused
returns-in-Err-push-clause-refused c =
    text_refused c.args.program.now c.args.logs.now c.args.ends.now c.loop-place.place _ c.loop-place.place Memory
    c.loop-place-test.true refl c.loop-place.invariant tt

pub loop-place-preserved : goal.loop-place-preserved
loop-place-preserved c =
    let program = c.args.program.now in
    let place = c.loop-place.place in
    let lists = c.args.outcome.now.harts.items in
    let closed = c.args.outcome.now.closed.items in
    let counts = c.args.counts.now in
    let gots = gots_by (count_in counts) 0 (events_in lists) closed in
    let within = c.loop-place-test.true in
    let many = c.requires.many in
    let flags = c.requires.flags in
    let got = got_by c.count_at-count.result c.as_slice.result.now c.index-closed.result.now in
    let there = got_listed counts lists closed place c.index-decoded.result.now c.count_at-count.result
    c.as_slice.result.now c.index-closed.result.now flags (omega (arith, many, within)) c.index-decoded.ensures
    c.count_at-count.ensures c.as_slice.ensures.value c.index-closed.ensures in
    let all = many ∙ sym (gots_listed counts lists closed flags) in
    let before = c.loop-place.said.items in
    let own = c.explained_of-one.result in
    let log = program_log program c.in-Ok.events.items in
    let one = c.explained_of-one.ensures program
    ∙ ap (λ events. explained_hart place got (program_log program events)) c.as_slice-in-loop-place.ensures.value in
    subst (λ said. AreTextsOf program c.args.logs.now (take (place + 1) c.args.ends.now)
    (λ logs. said ≡ explained_harts 0 (take (place + 1) gots) logs)) (sym c.in-Ok-push.ensures.items)
    (texts_more program c.args.logs.now c.args.ends.now place
    (λ logs. before ≡ explained_harts 0 (take place gots) logs)
    (λ logs. before ++ own ∷ [] ≡ explained_harts 0 (take (place + 1) gots) logs) log within c.in-Ok.ensures.log
    (λ logs many said. compared_more gots place before got own logs log (omega (arith, all, within)) there many said one)
    c.loop-place.invariant)

pub returns-clause-said : goal.returns-clause-said
returns-clause-said c =
    let lists = c.args.outcome.now.harts.items in
    let closed = c.args.outcome.now.closed.items in
    let counts = c.args.counts.now in
    let place = c.loop-place.place in
    let said = c.loop-place.said.items in
    let gots = gots_by (count_in counts) 0 (events_in lists) closed in
    let all = c.requires.many ∙ sym (gots_listed counts lists closed c.requires.flags) in
    let past = c.loop-place-test.false in
    let up_to = c.loop-place.auto.place-end in
    texts_all c.args.program.now c.args.logs.now c.args.ends.now place
    (λ logs. said ≡ explained_harts 0 (take place gots) logs) (AreCompared gots said) (omega (arith, past, up_to))
    (λ logs many each. record {
      many = many ∙ all;
      each = each ∙ ap (λ front. explained_harts 0 front logs) (take_all place gots (omega (arith, past, up_to, all)));
    })
    c.loop-place.invariant
