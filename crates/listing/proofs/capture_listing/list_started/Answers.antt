-- What comes before the messages is written first: by lemmas on listings, which no tactic finds.
use Rattle.std.proofs.Common.{◌+◌, ◌<◌, length, subst, sym}
use Rattle.std.specs.Prelude.{◌^◌, IfOk, OnErr}
use Rattle.std.proofs.lemmas.Result.{IfOk-weaker, on_err_weaker}
use Rattle.listing.proofs.Parts.{messages_begun, messages_listed, on_err_given, start_begun}
use Rattle.listing.specs.Begun.{BeginsPart}
use Rattle.listing.specs.Listing.{AppendsListing}
use Rattle.listing.specs.steps.Part.{AreListedFrom, IsPartOfMessages}
use Rattle.listing.specs.steps.Started.{harts_by}
use Rattle.listing.proofs.capture_listing.list_started.Goals as goal

pub list_messages-requires-clause-room : goal.list_messages-requires-clause-room
list_messages-requires-clause-room g c =
    subst (λ start. start.first + length c.args.messages < 2 ^ 64) (sym c.start_of.ensures) c.requires.room

pub returns-clause-listed : goal.returns-clause-listed
returns-clause-listed g c = λ harts has.
    let mid = g.W.Write.contents c.write_start.new.sink in
    let new = g.W.Write.contents c.list_messages.new.sink in
    let closed = c.list_messages.new.receiver.closed in
    let count = harts_by c.args.header harts in
    IfOk-weaker c.list_messages.result _ _
    (λ stop all. messages_listed c.args.input.now harts c.args.messages c.args.header
    (g.W.Write.contents c.args.sink.now) mid new closed stop c.in_ok-write_start.ensures.text all)
    (subst (λ start. IfOk c.list_messages.result (λ stop. AppendsListing
    (AreListedFrom c.args.input.now count start c.args.messages) closed stop mid new)) c.start_of.ensures
    (c.list_messages.ensures.listed count has))

pub returns-clause-begun : goal.returns-clause-begun
returns-clause-begun g c = λ harts has.
    let mid = g.W.Write.contents c.write_start.new.sink in
    let new = g.W.Write.contents c.list_messages.new.sink in
    let count = harts_by c.args.header harts in
    on_err_weaker c.list_messages.result
    (messages_begun c.args.input.now harts c.args.messages c.args.header (g.W.Write.contents c.args.sink.now) mid new
    c.in_ok-write_start.ensures.text)
    (subst (λ start. OnErr c.list_messages.result (BeginsPart
    (IsPartOfMessages c.args.input.now count start c.args.messages) mid new)) c.start_of.ensures
    (c.list_messages.ensures.begun count has))

pub returns-in_err-write_start-clause-begun : goal.returns-in_err-write_start-clause-begun
returns-in_err-write_start-clause-begun g c = λ harts has.
    on_err_given c.from_residual.result
    (start_begun c.args.input.now harts c.args.messages c.args.header (g.W.Write.contents c.args.sink.now)
    (g.W.Write.contents c.write_start.new.sink) c.write_start.ensures.begun)
