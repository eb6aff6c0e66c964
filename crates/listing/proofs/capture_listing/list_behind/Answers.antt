-- What the receiver's own clauses say of all harts is said of those that are listed.
use Rattle.std.proofs.Common.{[], subst, sym}
use Rattle.std.proofs.lemmas.Result.{err_from_is_err_and}
use Rattle.rvclass.specs.Fetch.{words_of}
use Rattle.receiver.specs.Holds.{HasReceived}
use Rattle.listing.proofs.Parts.{start_kept}
use Rattle.listing.specs.Listing.{AppendsListing}
use Rattle.listing.specs.steps.Started.{IsListedBehind}
use Rattle.listing.proofs.capture_listing.list_behind.Goals as goal

pub returns-in_err-receiver-clause-begun : goal.returns-in_err-receiver-clause-begun
returns-in_err-receiver-clause-begun g c =
    let made = err_from_is_err_and c.from_residual.result c.from_residual.ensures.1 in
    rw made.1 (start_kept c.args.input.now c.args.input.now.harts c.args.messages c.args.header
    (g.W.Write.contents c.args.sink.now))

pub list_started-requires-clause-none : goal.list_started-requires-clause-none
list_started-requires-clause-none g c =
    (c.harts_by.result, c.in_ok-receiver.ensures (λ hart. words_of c.args.input.now.program.now))

pub returns-in_err-fault-clause-begun : goal.returns-in_err-fault-clause-begun
returns-in_err-fault-clause-begun g c =
    let words = words_of c.args.input.now.program.now in
    let has = subst (λ count. HasReceived (λ hart. words) count [] c.in_ok-receiver.receiver) c.harts_by.ensures
    (c.in_ok-receiver.ensures (λ hart. words)) in
    let made = err_from_is_err_and c.from_residual-in_err-fault.result c.from_residual-in_err-fault.ensures.1 in
    rw made.1 (c.in_err-fault.ensures.begun c.args.input.now.harts has)

pub returns-clause-listed : goal.returns-clause-listed
returns-clause-listed g c =
    let words = words_of c.args.input.now.program.now in
    let has = subst (λ count. HasReceived (λ hart. words) count [] c.in_ok-receiver.receiver) c.harts_by.ensures
    (c.in_ok-receiver.ensures (λ hart. words)) in
    subst (λ closed. AppendsListing (IsListedBehind c.args.input.now c.args.input.now.harts c.args.header
    c.args.messages) closed c.in_ok-fault.fault (g.W.Write.contents c.args.sink.now)
    (g.W.Write.contents c.list_started.new.sink)) (sym c.into_parts-closed.ensures.closed)
    (c.in_ok-fault.ensures.listed c.args.input.now.harts has)
