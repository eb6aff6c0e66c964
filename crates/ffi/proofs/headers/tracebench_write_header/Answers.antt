-- A header is known by its numbers: by a lemma, which no tactic finds.
use Rattle.std.proofs.Common.{◌++◌, ◌∙◌, sym, subst}
use Rattle.message.specs.Header.{header_bytes, mark}
use Rattle.ffi.proofs.HeadersKnown.{same_header}
use Rattle.ffi.specs.Handed.{IsHandedOut}
use Rattle.ffi.proofs.headers.tracebench_write_header.Goals as goal

pub returns-in-Some-clause-written : goal.returns-in-Some-clause-written
returns-in-Some-clause-written c = λ own is same.
    let status = c.hand_out_both.result in
    let wanted = c.hand_out_both.new.wanted in
    let old = c.args.buffer.now in
    let new = c.hand_out_both.new.buffer in
    subst (λ h. IsHandedOut (header_bytes h) status wanted old new)
    (same_header c.in-Some.own own (sym c.in-Some.ensures.some.1 ∙ same))
    (subst (λ settings. IsHandedOut (mark ++ settings) status wanted old new) c.settings_of.ensures
    c.hand_out_both.ensures)
