-- What a capture decodes to, with a header or without one: by lemmas on captures, which no tactic finds.
use Rattle.std.proofs.Common.{◌≡◌, ◌++◌, ◌∙◌, Ok, Err, ap, refl, subst, sym}
use Rattle.std.specs.Prelude.{IfSome}
use Rattle.message.specs.Header.{HasBadHeader, IsCutHeader, IsHeader, IsMarked, header_bytes}
use Rattle.message.specs.declared.header.Header.{Header}
use Rattle.captures.proofs.HeaderFaults.{no_header}
use Rattle.captures.specs.NoMessage.{BeginsNoHeader}
use Rattle.captures.specs.Decoded.{NoHeader, Version1, Version2}
use Rattle.parallel_decode.proofs.CaptureLemmas.{behind, body, nothing_decoded}
use Rattle.parallel_decode.proofs.body.body_of.Goals as goal

pub returns-in-Ok-Some : goal.returns-in-Ok-Some
returns-in-Ok-Some c = λ range words lists closed stop are.
    let header = c.in-Ok-Some.header in
    let found : IsHeader header × (c.new-messages.result ≡ header_bytes header ++ c.header.new.self)
    = subst (λ o. IfSome o (λ (h : Header). IsHeader h × (c.new-messages.result ≡ header_bytes h ++ c.header.new.self)))
    c.in-Ok-Some.field-0-is c.in-Ok-Some.ensures.header in
    let here : c.args.bytes.now ≡ header_bytes header ++ c.header.new.self = sym c.new-messages.ensures ∙ found.1 in
    Version2 header (body c.args.bytes.now) found.0
    (here ∙ ap (λ rest. header_bytes header ++ rest) (behind c.args.bytes.now c.header.new.self header here)) are

pub returns-in-Ok-None : goal.returns-in-Ok-None
returns-in-Ok-None c = λ range words lists closed stop are.
    let none = c.in-Ok-None.is ∙ ap (λ h. Ok h) c.in-Ok-None.field-0-is in
    Version1 (λ marked. c.header.ensures.none.0 none (subst IsMarked (sym c.new-messages.ensures) marked)) are

pub returns-in-Err : goal.returns-in-Err
returns-in-Err c = λ range words lists closed stop are.
    let bytes = c.new-messages.ensures in
    let ensured = c.in-Err.ensures in
    let none : BeginsNoHeader c.args.bytes.now c.in-Err.fault =
    no_header c.args.bytes.now c.in-Err.fault ensured.fault
    (λ is. subst IsCutHeader bytes (ensured.short.0 (ap (λ f. Err f) is)))
    (λ is. subst HasBadHeader bytes (ensured.bad_header.0 (ap (λ f. Err f) is))) in
    let nothing = nothing_decoded range words c.args.harts lists closed stop are in
    NoHeader c.in-Err.fault none refl nothing.0 nothing.1
