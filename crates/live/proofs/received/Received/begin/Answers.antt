-- How what is left begins is how what is held does: by lemmas on headers, which no tactic finds.
use Rattle.std.proofs.Common.{◌∙◌, ap, drop, subst}
use Rattle.frames.specs.Start.{IsStart}
use Rattle.live.proofs.ReceivedNext.{receives_on}
use Rattle.live.proofs.ReceivedStart.{begun, begun_lacks}
use Rattle.live.proofs.received.Received.begin.Goals as goal

pub returns-in-Err-clause-start : goal.returns-in-Err-clause-start
returns-in-Err-clause-start g c = λ rest left.
    begun_lacks rest c.in-Err.why c.read_start.new.self (g.R.FileReader.left c.read_start.new.reader)
    (c.in-Err.ensures.read rest left)

pub returns-clause-start : goal.returns-clause-start
returns-clause-start g c = λ rest left.
    let start = c.start_of-start.result in
    begun c.read_start.new.self c.pass.new.self (g.R.FileReader.left c.read_start.new.reader) rest start
    (c.in-Ok.ensures.read rest left)
    (subst (λ l. IsStart l start.header start.fault) c.held.ensures.value c.start_of-start.ensures)
    c.in-Ok.ensures.start
    (c.pass.ensures.bytes ∙ ap (λ n. drop n c.read_start.new.self.bytes) c.first_place.ensures)
    c.pass.ensures.ended

pub returns-clause-receives : goal.returns-clause-receives
returns-clause-receives g c = λ harts receives.
    receives_on harts c.args.self.now c.pass.new.self receives (c.pass.ensures.harts ∙ c.read_start.ensures.harts)
    (c.pass.ensures.most ∙ c.read_start.ensures.most) c.pass.ensures.few
