-- What is read is what the bytes begin with: by lemmas on captures, which no tactic finds.
use Rattle.std.proofs.Common.{◌≡◌, ◌++◌, ◌∙◌, Err, refl, ap, subst, sym}
use Rattle.std.specs.Prelude.{IfSome}
use Rattle.auditing.proofs.Counting.{begins_none}
use Rattle.captures.specs.NoMessage.{BeginsNone}
use Rattle.message.specs.Capture.{message_bytes}
use Rattle.message.specs.Cut.{IsMessage}
use Rattle.message.specs.declared.message.Message.{Message}
use Rattle.ffi.specs.Sending.{Read, Refused}
use Rattle.ffi.proofs.messages.tracebench_read_message.Goals as goal

pub returns-in-Ok-Some-clause-read : goal.returns-in-Ok-Some-clause-read
returns-in-Ok-Some-clause-read c =
    let found = c.in-Ok-Some.field-0-is in
    let next = c.next.new.self in
    let is = subst (λ o. IfSome o (λ m. IsMessage m)) found c.in-Ok-Some.ensures.ranges in
    let begins =
    subst (λ o. IfSome o (λ (m : Message). c.new.result ≡ message_bytes m ++ next)) found
    c.in-Ok-Some.ensures.message in
    Read c.in-Ok-Some.found next is (sym c.new.ensures ∙ begins) c.size.ensures.bytes c.numbers_of_message.ensures refl

pub returns-in-Err-clause-read : goal.returns-in-Err-clause-read
returns-in-Err-clause-read c =
    let why = c.in-Err.why in
    let says = c.in-Err.ensures in
    Refused why
    (subst (λ bytes. BeginsNone bytes why) c.new.ensures
    (begins_none c.new.result why says.fault (λ is. says.short.0 (ap Err is)) (λ is. says.bad_length.0 (ap Err is))))
    refl refl c.message_status.ensures
