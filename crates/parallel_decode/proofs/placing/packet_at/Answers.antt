-- The message is the one that is read: by what is said of bytes that begin with a message, which no tactic uses.
use Rattle.std.proofs.Common.{◌≡◌, ◌++◌, ◌∙◌, Ok, sym, subst}
use Rattle.std.specs.Prelude.{IfSome}
use Rattle.std.proofs.lemmas.List.{take_rest}
use Rattle.payload.specs.Reading.{reading}
use Rattle.message.specs.Capture.{message_bytes}
use Rattle.message.specs.Cut.{IsMessage}
use Rattle.message.specs.declared.message.Message.{Message}
use Rattle.parallel_decode.proofs.PlaceLemmas.{packet_here}
use Rattle.parallel_decode.proofs.placing.packet_at.Goals as goal

pub returns-in-Ok-Some-clause-read : goal.returns-in-Ok-Some-clause-read
returns-in-Ok-Some-clause-read c = λ message packet is read.
    let back = (c.next.ensures.reads_back message is.rest is.ranges (c.new-messages.ensures ∙ take_rest c.args.bytes.now c.args.place ∙ is.begins)).0 in
    let found = c.in-Ok-Some.is in
    let some = c.in-Ok-Some.field-0-is in
    let same : c.in-Ok-Some.message ≡ message = cc in
    c.packet_of.ensures.read packet (subst (λ (m : Message). reading m.payload ≡ Ok packet) (sym same) read)

pub returns-in-Ok-None-clause-read : goal.returns-in-Ok-None-clause-read
returns-in-Ok-None-clause-read c = λ message packet is read.
    let back = (c.next.ensures.reads_back message is.rest is.ranges (c.new-messages.ensures ∙ take_rest c.args.bytes.now c.args.place ∙ is.begins)).0 in
    let found = c.in-Ok-None.is in
    let none = c.in-Ok-None.field-0-is in
    cc

pub returns-in-Err-clause-read : goal.returns-in-Err-clause-read
returns-in-Err-clause-read c = λ message packet is read.
    let back = (c.next.ensures.reads_back message is.rest is.ranges (c.new-messages.ensures ∙ take_rest c.args.bytes.now c.args.place ∙ is.begins)).0 in
    let found = c.in-Err.is in
    cc

pub returns-in-Ok-Some-clause-found : goal.returns-in-Ok-Some-clause-found
returns-in-Ok-Some-clause-found c =
    let message = c.in-Ok-Some.message in
    let left = c.next.new.self in
    let ranges : IsMessage message = subst (λ found. IfSome found (λ (m : Message). IsMessage m)) c.in-Ok-Some.field-0-is
    c.in-Ok-Some.ensures.ranges in
    let begins : c.new-messages.result ≡ message_bytes message ++ left =
    subst (λ found. IfSome found (λ (m : Message). c.new-messages.result ≡ message_bytes m ++ left))
    c.in-Ok-Some.field-0-is c.in-Ok-Some.ensures.message in
    packet_here c.args.bytes.now left c.args.place message c.packet_of.result c.if-bytes-place.false
    (sym (c.new-messages.ensures ∙ take_rest c.args.bytes.now c.args.place) ∙ begins) ranges c.packet_of.ensures.found
