-- The clauses of the counts hold for any events, which the search does not instantiate.
use Rattle.std.proofs.Common.{◌≡◌, ◌∙◌, [], ap, ap₂, subst, sym}
use Rattle.rvclass.specs.Fetch.{words_of}
use Rattle.legalpath.specs.Legal.{Legal}
use Rattle.legalpath.specs.ProgramLog.{program_log}
use Rattle.captures.specs.HasCounted.{HasCounted}
use Rattle.captures.specs.Measures.{measures_of}
use Rattle.captures.proofs.log_measures.measure_log.Goals as goal

pub returns-clause-value : goal.returns-clause-value
returns-clause-value g c =
    let period = c.args.period in
    let mode = c.args.mode in
    let events = c.events.result.now in
    let legal : Legal (words_of c.program.result.now) events =
    subst (λ image. Legal (words_of image) events) (sym c.program.ensures.program)
    (subst (Legal (words_of c.args.log.now.program)) (sym c.events.ensures.events) c.events.ensures.legal) in
    let none = c.new-counted.ensures.none (words_of c.program.result.now) in
    let all = c.add.ensures.counted period mode [] none legal in
    let same : c.program.result.now ≡ c.program-2.result.now =
    c.program.ensures.program ∙ sym c.program-2.ensures.program in
    c.finish.ensures.value period mode events
    (subst (λ image. HasCounted (words_of image) period mode events c.add.new.self) same all)
    ∙ ap (measures_of period mode) (ap₂ program_log c.program-2.ensures.program c.events.ensures.events)
