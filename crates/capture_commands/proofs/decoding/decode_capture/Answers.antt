-- Whether messages may be lost is split on by hand.
use Rattle.std.proofs.Common.{◌≡◌, ◌∙◌, Err, arith, false, inr, refl, sym, true, true≢false}
use Rattle.std.proofs.lemmas.Grind.{common_steps}
use Rattle.command_inputs.proofs.Runs.{ends_silently}
use Rattle.capture_commands.specs.CountedHarts.{HasHartBelow}
use Rattle.capture_commands.specs.Decoded.{CanWriteLogsOf, WritesLogsOf}
use Rattle.capture_commands.proofs.DecodedRuns.{logs_cut, logs_printed}
use Rattle.capture_commands.proofs.decoding.decode_capture.Goals as goal

pub returns-in_err-check_harts_below-clause-printed : goal.returns-in_err-check_harts_below-clause-printed
returns-in_err-check_harts_below-clause-printed g c =
    let asked = c.args.asked.now in
    let input = c.args.input.now in
    let why = c.in_err-check_harts_below.field-0.0 in
    let is : c.from_residual.result ≡ Err why = grind (arith, common_steps) in
    ends_silently (WritesLogsOf asked.lossy asked.harts input.only input.program.now input.bytes.now)
    (CanWriteLogsOf asked.lossy asked.harts input.only input.program.now input.bytes.now)
    (HasHartBelow asked.harts input.only input.bytes.now (Err why)) why c.from_residual.result
    (g.O.Write.contents c.args.out.now) is (inr c.in_err-check_harts_below.ensures.found)
    (λ none. (Err why, none, refl))

pub returns-then-asked-clause-printed : goal.returns-then-asked-clause-printed
returns-then-asked-clause-printed g c =
    let input = c.args.input.now in
    logs_printed c.args.asked.now input.only input.program.now input.bytes.now true c.if-asked.true
    tt c.in_ok-check_harts_below.ensures.found c.decode_lossy.result (g.O.Write.contents c.args.out.now)
    (g.O.Write.contents c.decode_lossy.new.out) c.decode_lossy.ensures.printed

pub returns-then-asked-clause-cut : goal.returns-then-asked-clause-cut
returns-then-asked-clause-cut g c =
    let input = c.args.input.now in
    logs_cut c.args.asked.now input.only input.program.now input.bytes.now true c.if-asked.true
    tt c.in_ok-check_harts_below.ensures.found (g.O.Write.contents c.args.out.now)
    (g.O.Write.contents c.decode_lossy.new.out) c.decode_lossy.ensures.cut

pub returns-then-asked-clause-untouched : goal.returns-then-asked-clause-untouched
returns-then-asked-clause-untouched g c = λ whole memory. absurd (true≢false (sym c.if-asked.true ∙ whole))

pub returns-else-asked-clause-printed : goal.returns-else-asked-clause-printed
returns-else-asked-clause-printed g c =
    let input = c.args.input.now in
    logs_printed c.args.asked.now input.only input.program.now input.bytes.now false c.if-asked.false
    tt c.in_ok-check_harts_below.ensures.found c.decode_whole.result (g.O.Write.contents c.args.out.now)
    (g.O.Write.contents c.decode_whole.new.out) c.decode_whole.ensures.printed

pub returns-else-asked-clause-cut : goal.returns-else-asked-clause-cut
returns-else-asked-clause-cut g c =
    let input = c.args.input.now in
    logs_cut c.args.asked.now input.only input.program.now input.bytes.now false c.if-asked.false
    tt c.in_ok-check_harts_below.ensures.found (g.O.Write.contents c.args.out.now)
    (g.O.Write.contents c.decode_whole.new.out) c.decode_whole.ensures.cut
