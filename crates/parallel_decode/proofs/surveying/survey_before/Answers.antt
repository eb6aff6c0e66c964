-- What was received of each hart is put together: by the lemmas on this.
use Rattle.std.proofs.Common.{◌≡◌, All, None, Vec, Global, ℕ, ap, arith, drop, length, refl, subst, sym}
use Rattle.rvclass.specs.Fetch.{words_of}
use Rattle.captures.specs.Decoded.{StopsOf}
use Rattle.parallel_decode.specs.Surveyed.{NeverMemory}
use Rattle.parallel_decode.proofs.Merging.{merged, merged-accepted, stop-end, stop-fault}
use Rattle.parallel_decode.specs.declared.hart.HartEnd.{HartEnd}
use Rattle.parallel_decode.specs.steps.Ends.{AreEnds}
use Rattle.parallel_decode.proofs.surveying.survey_before.Goals.{in-End, in-Fault}
use Rattle.parallel_decode.proofs.surveying.survey_before.Goals as goal

pub returns : goal.returns
returns g c =
    let range = c.args.range in
    let words = words_of c.args.work.now.program.now in
    let harts = c.args.harts in
    let announced = c.args.work.now.announced in
    let bytes = c.args.work.now.bytes.now in
    let messages = c.in_ok-walk.ensures.0 in
    let walked = c.in_ok-walk.ensures.1 in
    let walk = c.in_ok-walk.walk in
    let places = walk.places.items in
    let rest = drop walk.place bytes in
    let ends = c.in_ok-ends.ends.items in
    let are = subst (λ l. AreEnds words announced bytes l ends) c.as_slice.ensures.value c.in_ok-ends.ensures in
    let whole = subst (All (λ (end : HartEnd). end.refused ≡ None)) c.as_slice-2.ensures.value
    (c.in_default.ensures refl) in
    let same_len = c.if-len.false in
    let len = c.len.ensures in
    let len_2 = c.len-2.ensures in
    let many : length ends ≡ length places =
    omega (arith, same_len, len, len_2, c.in_ok-ends.ends.ok.0, walk.places.ok.0) in
    let accepted = merged-accepted range words harts announced bytes messages places walk.place walk.passed walked ends
    are whole many in
    let found = c.in_ok-next_ahead.ensures messages walked accepted in
    let fault = c.match-branch-4.fault in
    let stop : StopsOf range words harts announced messages rest fault × NeverMemory fault =
    elim c.match-branch-4.branch [
      | in-End w ↦ (
        subst (StopsOf range words harts announced messages rest) (sym w.fault-is)
            (stop-end range words harts announced messages rest c.in_ok-next_ahead.field-0 w.in-End.is found),
        subst NeverMemory (sym w.fault-is) tt,
      )
      | in-Fault w ↦
          let both = stop-fault range words harts announced messages rest c.in_ok-next_ahead.field-0 w.in-Fault.why
          walk.passed walked.counted w.in-Fault.is found in (
            subst (StopsOf range words harts announced messages rest) (sym w.fault-is) both.0,
            subst NeverMemory (sym w.fault-is) both.1,
          )
    ] in
    let made = c.in_ok-survey.ensures in
    merged range words harts announced bytes messages places walk.place walk.passed walked ends are whole many
    c.in_ok-survey.survey
    (subst (StopsOf range words harts announced messages rest) (sym made.fault) stop.0)
    (subst NeverMemory (sym made.fault) stop.1) (ap (λ (l : Vec (Vec ℕ Global) Global). l.items) made.places)
    made.closed made.marks
