-- What is read is what the bytes begin with: by lemmas on captures, which no tactic finds.
use Rattle.std.proofs.Common.{◌≡◌, ◌++◌, ◌∙◌, Err, refl, ap, subst, sym}
use Rattle.std.specs.Prelude.{IfSome}
use Rattle.captures.proofs.HeaderFaults.{no_header}
use Rattle.captures.specs.NoMessage.{BeginsNoHeader}
use Rattle.message.specs.Header.{IsHeader, header_bytes}
use Rattle.message.specs.declared.header.Header.{Header}
use Rattle.ffi.specs.Sending.{HeaderRead, HeaderRefused}
use Rattle.ffi.proofs.headers.tracebench_read_header.Goals as goal

pub returns-in-Ok-Some-clause-read : goal.returns-in-Ok-Some-clause-read
returns-in-Ok-Some-clause-read c =
    let next = c.header.new.self in
    let says =
    subst (λ o. IfSome o (λ (h : Header). IsHeader h × (c.new.result ≡ header_bytes h ++ next))) c.in-Ok-Some.field-0-is
    c.in-Ok-Some.ensures.header in
    HeaderRead c.in-Ok-Some.found next says.0 (sym c.new.ensures ∙ says.1) refl c.numbers_of_header.ensures refl

pub returns-in-Err-clause-read : goal.returns-in-Err-clause-read
returns-in-Err-clause-read c =
    let why = c.in-Err.why in
    let says = c.in-Err.ensures in
    HeaderRefused why
    (subst (λ bytes. BeginsNoHeader bytes why) c.new.ensures
    (no_header c.new.result why says.fault (λ is. says.short.0 (ap Err is)) (λ is. says.bad_header.0 (ap Err is))))
    refl refl c.message_status.ensures

pub returns-in-Err-clause-reads_back : goal.returns-in-Err-clause-reads_back
returns-in-Err-clause-reads_back c = λ sent rest ranges begins.
    let no = (c.in-Err.ensures.reads_back sent rest ranges (c.new.ensures ∙ begins)).0 in cc
