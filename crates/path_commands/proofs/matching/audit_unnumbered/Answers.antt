-- The steps follow one another: by lemmas on what each found, which no tactic finds.
use Rattle.std.proofs.Common.{◌≡◌, ◌∙◌, Err, List, Ok, Result, ℕ, subst, arith}
use Rattle.std.proofs.lemmas.Grind.{common_steps}
use Rattle.std.specs.Prelude.{⊤}
use Rattle.auditing.specs.Sent.{harts_of}
use Rattle.command_inputs.specs.Begun.{IsCutOf}
use Rattle.command_inputs.specs.Printed.{PrintsUnlessDenied}
use Rattle.command_inputs.specs.declared.words.Audit.{Audit}
use Rattle.log_streams.specs.Known.{Content}
use Rattle.path_commands.proofs.AuditSteps.{both_cut, both_printed, not_received, not_sent, unread}
use Rattle.path_commands.specs.Audited.{IsReceivedOf, IsSentOf}
use Rattle.path_commands.specs.Faults.{Fault}
use Rattle.path_commands.specs.Unnumbered.{WritesAligned}
use Rattle.path_commands.specs.Sides.{Sent}
use Rattle.path_commands.proofs.matching.audit_unnumbered.Goals.{After-received_of}
use Rattle.path_commands.proofs.matching.audit_unnumbered.Goals as goal

pub returns-in_err-sent-clause-printed : goal.returns-in_err-sent-clause-printed
returns-in_err-sent-clause-printed g c =
    let content = g.F.Files.content c.args.files.now in
    let asked = c.args.asked.now in
    let why = c.in_err-sent.field-0.0 in
    let is : c.from_residual.result ≡ Err why = grind (arith, common_steps) in
    not_sent (WritesAligned asked.format asked c.args.harts) content asked c.args.harts why c.from_residual.result
    (g.O.Write.contents c.args.out.now) is c.in_err-sent.ensures.lacked

module _ (g : _) (c : After-received_of g) where
  abbrev content : Content
  content = g.F.Files.content c.args.files.now

  abbrev asked : Audit
  asked = c.args.asked.now

  -- SENT, with the messages whose payloads are kept.
  abbrev sent : Sent
  sent = record { header = c.in_ok-sent.sent.header; messages = c.in_ok-sent.ensures.held.2.messages }

  is_sent : IsSentOf content asked (Ok sent)
  is_sent = (Ok c.in_ok-sent.ensures.held.0, c.in_ok-sent.ensures.held.1, c.in_ok-sent.ensures.held.2.sent)

  -- It has as many harts as are kept.
  counted : c.harts.result ≡ harts_of sent.header sent.messages
  counted = c.harts.ensures ∙ c.in_ok-sent.ensures.held.2.kept.split.count

  -- What is found of RECEIVED by what is kept is found of it by SENT.
  received_by : (found : Result (List ℕ) Fault)
      → IsReceivedOf (g.F.Files.content c.read_sent.new.files) asked c.args.harts c.harts.result found
      → IsReceivedOf content asked c.args.harts (harts_of sent.header sent.messages) found
  received_by found is =
      subst (λ known. IsReceivedOf known asked c.args.harts (harts_of sent.header sent.messages) found)
      c.in_ok-sent.ensures.kept
      (subst (λ count. IsReceivedOf (g.F.Files.content c.read_sent.new.files) asked c.args.harts count found) counted is)

pub returns-in_err-received-clause-printed : goal.returns-in_err-received-clause-printed
returns-in_err-received-clause-printed g c =
    let at = (goal.at.returns-in_err-received-clause-printed g c).After-received_of in
    let why = c.in_err-received.field-0.0 in
    let is : c.from_residual-in_err-received.result ≡ Err why = grind (arith, common_steps) in
    not_received (WritesAligned c.args.asked.now.format c.args.asked.now c.args.harts) (content g at) (asked g at)
    c.args.harts (sent g at) (is_sent g at) why c.from_residual-in_err-received.result
    (g.O.Write.contents c.args.out.now) is
    (unread why (IsReceivedOf (g.F.Files.content c.read_sent.new.files) c.args.asked.now c.args.harts c.harts.result (Err why))
    (IsReceivedOf (content g at) (asked g at) c.args.harts
    (harts_of (sent g at).header (sent g at).messages) (Err why)) (received_by g at (Err why))
    c.in_err-received.ensures.lacked)

pub returns-clause-printed : goal.returns-clause-printed
returns-clause-printed g c =
    let at = (goal.at.returns-clause-printed g c).After-received_of in
    let asked = c.args.asked.now in
    let held = c.in_ok-sent.ensures.held in
    let received = c.in_ok-received.received.items in
    let old = g.O.Write.contents c.args.out.now in
    let new = g.O.Write.contents c.write_matched.new.out in
    both_printed (WritesAligned asked.format asked c.args.harts) (content g at) asked c.args.harts (sent g at)
    (is_sent g at) received (received_by g at (Ok received) c.in_ok-received.ensures.found) c.write_matched.result old new
    (subst (λ bytes. PrintsUnlessDenied (WritesAligned asked.format asked c.args.harts (sent g at) bytes) ⊤
    c.write_matched.result old new)
    c.as_slice.ensures.value (c.write_matched.ensures.printed held.2.messages held.2.kept))

pub returns-clause-cut : goal.returns-clause-cut
returns-clause-cut g c =
    let at = (goal.at.returns-clause-cut g c).After-received_of in
    let asked = c.args.asked.now in
    let held = c.in_ok-sent.ensures.held in
    let received = c.in_ok-received.received.items in
    let old = g.O.Write.contents c.args.out.now in
    let new = g.O.Write.contents c.write_matched.new.out in
    both_cut (WritesAligned asked.format asked c.args.harts) (content g at) asked c.args.harts (sent g at)
    (is_sent g at) received (received_by g at (Ok received) c.in_ok-received.ensures.found) old new
    (subst (λ bytes. IsCutOf (WritesAligned asked.format asked c.args.harts (sent g at) bytes) old new)
    c.as_slice.ensures.value
    (c.write_matched.ensures.cut held.2.messages held.2.kept))
