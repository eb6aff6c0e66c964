-- What payloads are known by: by lemmas on packets, which no tactic finds.
use Rattle.std.proofs.Common.{rules, ◌≡◌, ◌∙◌, true, ap, sym}
use Rattle.std.proofs.lemmas.Slice.Eq.{bytes_eq-Decides}
use Rattle.std.specs.Str.{bytes_eq}
use Rattle.payload.specs.Reading.{reading}
use Rattle.payload.proofs.SameLemmas.{by_no_packet, by_packet, otherwise}
use Rattle.payload.proofs.comparing.same.Goals.{After-same_otherwise}
use Rattle.payload.proofs.comparing.same.Goals as goal

pub returns-then-eq-clause-packets : goal.returns-then-eq-clause-packets
returns-then-eq-clause-packets c = λ packet by sent_is.
    let equal : c.args.came.now ≡ c.args.sent.now = search rules in
    (λ _. ap reading equal ∙ sent_is, λ _. c.if-eq.true)

pub returns-then-eq-clause-unread : goal.returns-then-eq-clause-unread
returns-then-eq-clause-unread c = λ why by sent_is.
    let equal : c.args.came.now ≡ c.args.sent.now = search rules in
    (λ _. equal, λ _. c.if-eq.true)

module _ (c : After-same_otherwise) where
  differ : c.args.came.now ≡ c.args.sent.now → ⊥
  differ equal =
      let same : bytes_eq c.args.sent.now c.args.came.now ≡ true =
      (bytes_eq-Decides c.args.sent.now c.args.came.now).1 (sym equal) in
      let is = c.eq.ensures in
      let not_same = c.if-eq.false in
      cc

pub returns-else-eq-clause-value : goal.returns-else-eq-clause-value
returns-else-eq-clause-value c =
    let says = c.same_otherwise.ensures in
    otherwise c.args.by c.args.sent.now c.args.came.now c.same_otherwise.result says.sent_bytes says.came_bytes says.alike
    (differ (goal.at.returns-else-eq-clause-value c).After-same_otherwise)

pub returns-else-eq-clause-packets : goal.returns-else-eq-clause-packets
returns-else-eq-clause-packets c = λ packet by sent_is.
    let alike = c.same_otherwise.ensures.alike in
    let both = by_packet c.args.by c.args.sent.now c.args.came.now packet by sent_is in
    (λ yes. both.0 (alike.0 yes), λ is. alike.1 (both.1 is))

pub returns-else-eq-clause-unread : goal.returns-else-eq-clause-unread
returns-else-eq-clause-unread c = λ why by sent_is.
    let at = (goal.at.returns-else-eq-clause-unread c).After-same_otherwise in
    let alike = c.same_otherwise.ensures.alike in (
      λ yes. absurd (by_no_packet c.args.by c.args.sent.now c.args.came.now why by sent_is (alike.0 yes)),
      λ equal. absurd (differ at equal),
    )
