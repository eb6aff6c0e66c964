-- The steps of `audit` follow one another: by lemmas on what each found, which no tactic finds.
use Rattle.std.proofs.Common.{◌≡◌, ◌∙◌, Err, List, Ok, Result, inr, ℕ, refl, subst, arith}
use Rattle.std.proofs.lemmas.Grind.{common_steps}
use Rattle.auditing.specs.Sent.{IsSent, IsSentFault, harts_of}
use Rattle.command_inputs.specs.Begun.{IsCutOf}
use Rattle.command_inputs.specs.Found.{IsRead}
use Rattle.command_inputs.specs.Printed.{PrintsUnlessDenied}
use Rattle.command_inputs.specs.declared.words.Audit.{Audit}
use Rattle.log_streams.specs.Known.{Content}
use Rattle.std.specs.Prelude.{⊤}
use Rattle.path_commands.proofs.AuditSteps.{both_cut, both_printed, not_received, not_sent, unread}
use Rattle.path_commands.specs.Audited.{IsReceivedOf, IsSentOf, WritesNumbered}
use Rattle.path_commands.specs.Faults.{Fault}
use Rattle.path_commands.specs.Sides.{Sent}
use Rattle.path_commands.proofs.comparing.audit_numbered.Goals.{After-received_of}
use Rattle.path_commands.proofs.comparing.audit_numbered.Goals as goal

pub returns-in_err-sent-clause-printed : goal.returns-in_err-sent-clause-printed
returns-in_err-sent-clause-printed g c =
    let content = g.F.Files.content c.args.files.now in
    let asked = c.args.asked.now in
    let why = c.in_err-sent.field-0.0 in
    let is : c.from_residual.result ≡ Err why = grind (arith, common_steps) in
    not_sent (WritesNumbered asked.format asked c.args.harts) content asked c.args.harts why c.from_residual.result
    (g.O.Write.contents c.args.out.now) is
    (unread why (IsRead content asked.sent (Err why)) (IsSentOf content asked (Err why)) (λ none. (Err why, none, refl))
    c.in_err-sent.ensures.lacked)

pub returns-in-Err-clause-printed : goal.returns-in-Err-clause-printed
returns-in-Err-clause-printed g c =
    let content = g.F.Files.content c.args.files.now in
    let asked = c.args.asked.now in
    let found = c.in-Err.why in
    not_sent (WritesNumbered asked.format asked c.args.harts) content asked c.args.harts c.sent_fault.result
    (Err c.sent_fault.result) (g.O.Write.contents c.args.out.now) refl
    (inr (
      Ok c.in_ok-sent.sent.items,
      c.in_ok-sent.ensures.held,
      (
        found,
        subst (λ bytes. IsSentFault bytes found) c.as_slice.ensures.value c.in-Err.ensures.fault,
        c.sent_fault.ensures,
      ),
    ))

module _ (g : _) (c : After-received_of g) where
  abbrev content : Content
  content = g.F.Files.content c.args.files.now

  abbrev asked : Audit
  asked = c.args.asked.now

  -- SENT, with the messages that the audit knows.
  abbrev sent : Sent
  sent = record { header = c.in-Ok.path.header; messages = c.in-Ok.ensures.audits.0 }

  is_sent : IsSentOf content asked (Ok sent)
  is_sent = (
    Ok c.in_ok-sent.sent.items,
    c.in_ok-sent.ensures.held,
    subst (λ bytes. IsSent bytes sent.header sent.messages) c.as_slice.ensures.value c.in-Ok.ensures.audits.1,
  )

  -- It has as many harts as the audit counts.
  counted : c.harts.result ≡ harts_of sent.header sent.messages
  counted = c.harts.ensures ∙ c.in-Ok.ensures.audits.2.count

  -- What is found of RECEIVED by what the audit counts is found of it by SENT.
  received_by : (found : Result (List ℕ) Fault)
      → IsReceivedOf (g.F.Files.content c.content_of.new.files) asked c.args.harts c.harts.result found
      → IsReceivedOf content asked c.args.harts (harts_of sent.header sent.messages) found
  received_by found is =
      subst (λ known. IsReceivedOf known asked c.args.harts (harts_of sent.header sent.messages) found)
      c.in_ok-sent.ensures.kept
      (subst (λ count. IsReceivedOf (g.F.Files.content c.content_of.new.files) asked c.args.harts count found) counted is)

pub returns-in_err-received-clause-printed : goal.returns-in_err-received-clause-printed
returns-in_err-received-clause-printed g c =
    let at = (goal.at.returns-in_err-received-clause-printed g c).After-received_of in
    let why = c.in_err-received.field-0.0 in
    let is : c.from_residual-in_err-received.result ≡ Err why = grind (arith, common_steps) in
    not_received (WritesNumbered c.args.asked.now.format c.args.asked.now c.args.harts) (content g at) (asked g at)
    c.args.harts (sent g at) (is_sent g at) why c.from_residual-in_err-received.result
    (g.O.Write.contents c.args.out.now) is
    (unread why (IsReceivedOf (g.F.Files.content c.content_of.new.files) c.args.asked.now c.args.harts c.harts.result (Err why))
    (IsReceivedOf (content g at) (asked g at) c.args.harts
    (harts_of (sent g at).header (sent g at).messages) (Err why)) (received_by g at (Err why))
    c.in_err-received.ensures.lacked)

pub returns-clause-printed : goal.returns-clause-printed
returns-clause-printed g c =
    let at = (goal.at.returns-clause-printed g c).After-received_of in
    let asked = c.args.asked.now in
    let received = c.in_ok-received.received.items in
    let old = g.O.Write.contents c.args.out.now in
    let new = g.O.Write.contents c.write_audit.new.out in
    both_printed (WritesNumbered asked.format asked c.args.harts) (content g at) asked c.args.harts (sent g at)
    (is_sent g at) received (received_by g at (Ok received) c.in_ok-received.ensures.found) c.write_audit.result old new
    (subst (λ bytes. PrintsUnlessDenied (WritesNumbered asked.format asked c.args.harts (sent g at) bytes) ⊤
    c.write_audit.result old new) c.as_slice-2.ensures.value
    (c.write_audit.ensures.printed c.in-Ok.ensures.audits.0 c.in-Ok.ensures.audits.2
    (c.in-Ok.ensures.by ∙ c.by_packets.ensures)))

pub returns-clause-cut : goal.returns-clause-cut
returns-clause-cut g c =
    let at = (goal.at.returns-clause-cut g c).After-received_of in
    let asked = c.args.asked.now in
    let received = c.in_ok-received.received.items in
    let old = g.O.Write.contents c.args.out.now in
    let new = g.O.Write.contents c.write_audit.new.out in
    both_cut (WritesNumbered asked.format asked c.args.harts) (content g at) asked c.args.harts (sent g at)
    (is_sent g at) received (received_by g at (Ok received) c.in_ok-received.ensures.found) old new
    (subst (λ bytes. IsCutOf (WritesNumbered asked.format asked c.args.harts (sent g at) bytes) old new)
    c.as_slice-2.ensures.value
    (c.write_audit.ensures.cut c.in-Ok.ensures.audits.0 c.in-Ok.ensures.audits.2
    (c.in-Ok.ensures.by ∙ c.by_packets.ensures)))
