-- What was decoded behind a header or without one: by laws on captures, which no tactic finds.
use Rattle.std.proofs.Common.{◌≡◌, ◌++◌, None, Ok, Err, sym, ap, subst, ◌∙◌}
use Rattle.std.specs.Prelude.{IfSome}
use Rattle.std.proofs.lemmas.Result.{IfOk-weaker}
use Rattle.rvclass.specs.Fetch.{words_of}
use Rattle.message.specs.Header.{HasBadHeader, IsCutHeader, IsHeader, IsMarked, header_bytes}
use Rattle.message.specs.declared.header.Header.{Header}
use Rattle.captures.proofs.HeaderFaults.{no_header}
use Rattle.captures.proofs.capture_decoding.decode_harts.Goals as goal
use Rattle.captures.specs.Decoded.{AreHartsDecoded, NoHeader, Version1, Version2}
use Rattle.captures.specs.NoMessage.{BeginsNoHeader}
use Rattle.receiver.specs.Received.{events_in}

pub returns-in-Ok-Some : goal.returns-in-Ok-Some
returns-in-Ok-Some g c =
    let found : IsHeader c.in-Ok-Some.header × (c.new-messages.result ≡ header_bytes c.in-Ok-Some.header
    ++ c.header.new.self)
    = subst (λ o. IfSome o (λ (h : Header). IsHeader h × (c.new-messages.result ≡ header_bytes h ++ c.header.new.self)))
    c.in-Ok-Some.field-0-is c.in-Ok-Some.ensures.header in
    IfOk-weaker c.decode_messages.result _ _
    (λ outcome here.
    Version2 c.in-Ok-Some.header c.header.new.self found.0
    (subst (λ b. b ≡ header_bytes c.in-Ok-Some.header ++ c.header.new.self) c.new-messages.ensures found.1) here)
    c.decode_messages.ensures

pub returns-in-Ok-None : goal.returns-in-Ok-None
returns-in-Ok-None g c =
    let none = ap (λ h. Ok h) c.in-Ok-None.field-0-is in
    let bytes = c.new-messages.ensures in
    let left : c.header.new.self ≡ c.args.bytes.now = c.in-Ok-None.ensures.stays none ∙ bytes in
    IfOk-weaker c.decode_messages-in-Ok-None.result _ _
    (λ outcome here.
    Version1 (λ marked. c.in-Ok-None.ensures.none.0 none (subst IsMarked (sym bytes) marked))
    (subst
    (λ b. AreHartsDecoded c.args.range (words_of c.args.program.now) c.args.harts None b (events_in outcome.harts.items)
    outcome.closed.items outcome.fault) left here))
    c.decode_messages-in-Ok-None.ensures

pub returns-in-Err : goal.returns-in-Err
returns-in-Err g c =
    let bytes = c.new-messages.ensures in
    let ensured = c.in-Err.ensures in
    let none : BeginsNoHeader c.args.bytes.now c.in-Err.fault =
    no_header c.args.bytes.now c.in-Err.fault ensured.fault
    (λ is. subst IsCutHeader bytes (ensured.short.0 (ap (λ f. Err f) is)))
    (λ is. subst HasBadHeader bytes (ensured.bad_header.0 (ap (λ f. Err f) is))) in
    IfOk-weaker c.decode_nothing.result _ _
    (λ outcome here. NoHeader c.in-Err.fault none here.2 here.0 here.1)
    c.decode_nothing.ensures
