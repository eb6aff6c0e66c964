-- What is listed behind a header or without one: by lemmas on captures, which no tactic finds.
use Rattle.std.proofs.Common.{Ok, Err, ap, subst, sym}
use Rattle.std.proofs.lemmas.Result.{IfOk-weaker, on_err_weaker}
use Rattle.rvclass.specs.Fetch.{words_of}
use Rattle.message.specs.Header.{HasBadHeader, IsCutHeader}
use Rattle.captures.proofs.HeaderFaults.{no_header}
use Rattle.captures.proofs.WholeCaptures.{begins_with}
use Rattle.captures.specs.NoMessage.{BeginsNoHeader}
use Rattle.captures.specs.Whole.{BeginsWith}
use Rattle.listing.proofs.Parts.{capture_begun, capture_listed, nothing_begun, nothing_listed, on_err_given}
use Rattle.listing.specs.Listing.{AppendsListing, IsListing, names_in}
use Rattle.listing.proofs.capture_listing.list_capture.Goals.{In-Err, In-Ok}
use Rattle.listing.proofs.capture_listing.list_capture.Goals as goal

-- What stands in front of the messages.
begins : (g : _) (c : In-Ok g) → BeginsWith c.in-Ok.header c.args.input.now.capture.now c.header.new.self
begins g c =
    let ensured = c.in-Ok.ensures in
    subst (λ bytes. BeginsWith c.in-Ok.header bytes c.header.new.self) c.new-messages.ensures
    (begins_with c.new-messages.result c.header.new.self c.in-Ok.header ensured.header
    (λ is. ensured.none.0 (ap (λ h. Ok h) is)) (λ is. ensured.stays (ap (λ h. Ok h) is)))

-- Why no header stands there.
begins_none : (g : _) (c : In-Err g) → BeginsNoHeader c.args.input.now.capture.now c.in-Err.fault
begins_none g c =
    let bytes = c.new-messages.ensures in
    let ensured = c.in-Err.ensures in
    no_header c.args.input.now.capture.now c.in-Err.fault ensured.fault
    (λ is. subst IsCutHeader bytes (ensured.short.0 (ap (λ f. Err f) is)))
    (λ is. subst HasBadHeader bytes (ensured.bad_header.0 (ap (λ f. Err f) is)))

pub returns-in-Ok-clause-listed : goal.returns-in-Ok-clause-listed
returns-in-Ok-clause-listed g c =
    IfOk-weaker c.list_behind.result _ _
    (λ listed. capture_listed c.args.input.now c.args.input.now.harts c.args.input.now.capture.now c.header.new.self
    c.in-Ok.header (begins g (goal.at.returns-in-Ok-clause-listed g c).In-Ok) (g.W.Write.contents c.args.sink.now)
    (g.W.Write.contents c.list_behind.new.sink) listed.closed.items listed.fault)
    c.list_behind.ensures.listed

pub returns-in-Ok-clause-begun : goal.returns-in-Ok-clause-begun
returns-in-Ok-clause-begun g c =
    on_err_weaker c.list_behind.result
    (capture_begun c.args.input.now c.args.input.now.harts c.args.input.now.capture.now c.header.new.self
    c.in-Ok.header (begins g (goal.at.returns-in-Ok-clause-begun g c).In-Ok) (g.W.Write.contents c.args.sink.now)
    (g.W.Write.contents c.list_behind.new.sink))
    c.list_behind.ensures.begun

pub returns-in-Err-clause-listed : goal.returns-in-Err-clause-listed
returns-in-Err-clause-listed g c =
    let input = c.args.input.now in
    let old = g.W.Write.contents c.args.sink.now in
    let new = g.W.Write.contents c.list_nothing.new.sink in
    let none = begins_none g (goal.at.returns-in-Err-clause-listed g c).In-Err in
    IfOk-weaker c.list_nothing.result _ _
    (λ listed found.
    subst (λ stop. AppendsListing (IsListing (words_of input.program.now) input.form input.only input.harts
    (names_in input) input.capture.now) listed.closed.items stop old new) (sym found.1)
    (nothing_listed input input.harts input.capture.now c.in-Err.fault listed.closed.items old new none found.0
    found.2))
    c.list_nothing.ensures.found

pub returns-in-Err-clause-begun : goal.returns-in-Err-clause-begun
returns-in-Err-clause-begun g c =
    on_err_given c.list_nothing.result
    (nothing_begun c.args.input.now c.args.input.now.harts c.args.input.now.capture.now c.in-Err.fault
    (g.W.Write.contents c.args.sink.now) (g.W.Write.contents c.list_nothing.new.sink)
    (begins_none g (goal.at.returns-in-Err-clause-begun g c).In-Err) c.list_nothing.ensures.begun)
