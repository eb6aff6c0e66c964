-- The lines before a hart's rows and the rows are joined by lemmas, which no tactic finds.
use Rattle.std.proofs.Common.{◌≡◌, Err, arith, subst, sym}
use Rattle.std.proofs.lemmas.Grind.{common_steps}
use Rattle.rvclass.specs.Fetch.{words_of}
use Rattle.parallel_decode.proofs.PutLemmas.{put_behind, put_in_front}
use Rattle.parallel_decode.proofs.SplitLemmas.{rows}
use Rattle.parallel_decode.specs.Parts.{IsPart}
use Rattle.parallel_decode.specs.Put.{IsPut}
use Rattle.parallel_decode.specs.steps.Stretches.{head_if, stretch_text}
use Rattle.parallel_decode.proofs.writing.write_stretch.Goals as goal

pub returns-in_err-write_head_if : goal.returns-in_err-write_head_if
returns-in_err-write_head_if g c = λ part is.
    let old = g.O.Write.contents c.args.out.now in
    let new = g.O.Write.contents c.write_head_if.new.out in
    let stretch = c.args.stretch.now in
    let why = c.in_err-write_head_if.field-0.0 in
    let failed : c.from_residual.result ≡ Err why = grind (arith, common_steps) in
    subst (λ ended. IsPut ended old new (stretch_text stretch part)) (sym failed)
    (put_in_front why old new (head_if stretch.is_first stretch.hart) (rows part) c.in_err-write_head_if.ensures)

pub returns : goal.returns
returns g c = λ part is.
    let old = g.O.Write.contents c.args.out.now in
    let mid = g.O.Write.contents c.write_head_if.new.out in
    let new = g.O.Write.contents c.write_part.new.out in
    let stretch = c.args.stretch.now in
    let plan = c.args.plan.now in
    let own = subst (λ places. IsPart (words_of plan.program.now) plan.bytes.now places stretch.decoder part)
    (sym (c.places.ensures is.lies)) is.is_part in
    put_behind c.write_part.result old mid new (head_if stretch.is_first stretch.hart) (rows part)
    c.in_ok-write_head_if.ensures (c.write_part.ensures part own)
