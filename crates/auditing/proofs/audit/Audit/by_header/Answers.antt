-- What stands behind the header, or without one, makes the whole: by a law on captures, which no tactic finds.
use Rattle.std.proofs.Common.{◌≡◌, ◌-◌, ◌++◌, drop, length, take, Some, None, Ok, refl, sym, ap, subst, ◌∙◌}
use Rattle.std.specs.Prelude.{IfSome}
use Rattle.message.specs.Header.{IsHeader, IsMarked, header_bytes}
use Rattle.message.specs.declared.header.Header.{Header}
use Rattle.captures.specs.Whole.{BeginsWith}
use Rattle.auditing.proofs.Starting.{begins_header, sent_refused, sent_started}
use Rattle.auditing.proofs.audit.Audit.by_header.Goals.{After-of_messages, After-of_messages-in-Ok-None}
use Rattle.auditing.proofs.audit.Audit.by_header.Goals as goal

module _ (g : _) (c : After-of_messages g) where
  -- The bytes begin with the header.
  headed : BeginsWith (Some c.in-Ok-Some.header) c.args.bytes.now
      (take (length c.args.bytes.now - 16) (drop 16 c.args.bytes.now))
  headed =
      let found = c.in-Ok-Some.field-0-is in
      let has =
      subst
      (λ o. IfSome o (λ (h : Header). IsHeader h × (c.new-messages.result ≡ header_bytes h ++ c.header.new.self)))
      found c.in-Ok-Some.ensures.header in
      begins_header c.args.bytes.now c.header.new.self c.in-Ok-Some.header has.0 (sym c.new-messages.ensures ∙ has.1)

module _ (g : _) (c : After-of_messages-in-Ok-None g) where
  -- Or they do not begin as with one.
  bare : BeginsWith None c.args.bytes.now c.args.bytes.now
  bare =
      let found = c.in-Ok-None.field-0-is in
      let none = c.in-Ok-None.ensures.none.0 (ap Ok found) in
      (subst (λ bytes. ¬ IsMarked bytes) c.new-messages.ensures none, refl)

pub returns-in-Ok-Some-clause-audits : goal.returns-in-Ok-Some-clause-audits
returns-in-Ok-Some-clause-audits g c =
    sent_started c.args.bytes.now (take (length c.args.bytes.now - 16) (drop 16 c.args.bytes.now))
    (Some c.in-Ok-Some.header) c.in-Ok-Some.header.harts
    c.of_messages.result (headed g (goal.at.returns-in-Ok-Some-clause-audits g c).After-of_messages) refl
    c.of_messages.ensures.audits

pub returns-in-Ok-Some-clause-fault : goal.returns-in-Ok-Some-clause-fault
returns-in-Ok-Some-clause-fault g c =
    sent_refused c.args.bytes.now (take (length c.args.bytes.now - 16) (drop 16 c.args.bytes.now))
    (Some c.in-Ok-Some.header) c.in-Ok-Some.header.harts
    c.of_messages.result (headed g (goal.at.returns-in-Ok-Some-clause-fault g c).After-of_messages) refl
    c.of_messages.ensures.fault

pub returns-in-Ok-None-clause-audits : goal.returns-in-Ok-None-clause-audits
returns-in-Ok-None-clause-audits g c =
    sent_started c.args.bytes.now c.args.bytes.now None 1024 c.of_messages-in-Ok-None.result
    (bare g (goal.at.returns-in-Ok-None-clause-audits g c).After-of_messages-in-Ok-None) refl
    c.of_messages-in-Ok-None.ensures.audits

pub returns-in-Ok-None-clause-fault : goal.returns-in-Ok-None-clause-fault
returns-in-Ok-None-clause-fault g c =
    sent_refused c.args.bytes.now c.args.bytes.now None 1024 c.of_messages-in-Ok-None.result
    (bare g (goal.at.returns-in-Ok-None-clause-fault g c).After-of_messages-in-Ok-None) refl
    c.of_messages-in-Ok-None.ensures.fault
