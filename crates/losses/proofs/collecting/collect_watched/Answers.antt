-- A promise over all logs follows from what the messages describe, by theorems on logs.
use Rattle.std.proofs.Common.{sym, ◌∙◌}
use Rattle.std.proofs.lemmas.Result.{err_from_is_err_and}
use Rattle.rvclass.specs.Fetch.{words_of}
use Rattle.losses.proofs.AllRuns.{described_last}
use Rattle.losses.proofs.LogsCollected.{collected_of_logs, memory_alone}
use Rattle.losses.proofs.collecting.collect_watched.Goals as goal

pub returns-in_err-collection-clause-memory : goal.returns-in_err-collection-clause-memory
returns-in_err-collection-clause-memory g c = λ period own logs of_logs count.
    let made = err_from_is_err_and c.from_residual.result c.from_residual.ensures.1 in
    rw (made.1, made.2) (memory_alone c.args.program.now period c.args.mode own logs c.args.messages.now of_logs
    c.args.harts count _ c.in_err-collection.ensures)

pub returns-clause-parts : goal.returns-clause-parts
returns-clause-parts g c = λ period own logs of_logs count.
    let made = c.in_ok-collection.collection in
    let all = c.in_ok-collection.ensures in
    collected_of_logs c.args.program.now period c.args.mode own logs c.args.messages.now of_logs
    c.end_all.new.pieces.items
    (c.in_ok-end_all.ensures.count ∙ all.each_hart.pieces ∙ all.count ∙ sym count)
    (described_last (words_of c.args.program.now) c.args.mode c.args.messages.now made.demux made.traces.items
    made.pieces.items c.end_all.new.pieces.items all.of_any (all.each_hart.traces ∙ sym all.each_hart.pieces)
    (sym all.each_hart.pieces) c.in_ok-end_all.ensures)

pub returns-clause-described : goal.returns-clause-described
returns-clause-described g c =
    let made = c.in_ok-collection.collection in
    let all = c.in_ok-collection.ensures in
    described_last (words_of c.args.program.now) c.args.mode c.args.messages.now made.demux made.traces.items
    made.pieces.items c.end_all.new.pieces.items all.of_any (all.each_hart.traces ∙ sym all.each_hart.pieces)
    (sym all.each_hart.pieces) c.in_ok-end_all.ensures
