-- That no trap and handler fit is said of pairs of events, of which a search finds only one.
use Rattle.std.proofs.lemmas.Result.{err_from_is_err_and}
use Rattle.rvclass.specs.Fetch.{words_of}
use Rattle.decoder.proofs.NoTrapFits.{no_trap, no_handler}
use Rattle.decoder.proofs.reporting.trap_and_handler.Goals as goal

pub returns-in_err-trap-clause-none : goal.returns-in_err-trap-clause-none
returns-in_err-trap-clause-none c =
    let made = err_from_is_err_and c.from_residual.result c.from_residual.ensures.1 in
    rw (made.1, made.2) (no_trap (words_of c.args.program.now) c.args.before c.args.reported c.args.cause _
    c.in_err-trap.ensures.none)

pub returns-in_err-event-clause-none : goal.returns-in_err-event-clause-none
returns-in_err-event-clause-none c =
    let made = err_from_is_err_and c.from_residual-in_err-event.result c.from_residual-in_err-event.ensures.1 in
    rw (made.1, made.2) (no_handler (words_of c.args.program.now) c.args.before c.args.reported c.args.cause
    c.in_ok-trap.trap _ c.in_ok-trap.ensures.found c.in_err-event.ensures.none)
