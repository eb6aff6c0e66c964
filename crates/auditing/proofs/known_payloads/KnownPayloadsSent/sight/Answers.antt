-- What is known of a message is by the set of keys: by what it returns, which no search finds.
use Rattle.std.proofs.Common.{◌≡◌, ◌∙◌, Bool, true, false, ap, ap₂, sym}
use Rattle.payload.specs.Same.{known_by}
use Rattle.auditing.proofs.Recognised.{any_parts}
use Rattle.auditing.specs.PayloadSights.{KnownSent, has_key, sight_by}
use Rattle.auditing.specs.steps.Recognising.{parts_of}
use Rattle.auditing.proofs.known_payloads.KnownPayloadsSent.sight.Goals as goal

pub returns-then-self : goal.returns-then-self
returns-then-self g c =
    let own = c.args.self.now in
    let m = c.args.message.now in
    let framed : own.framed ≡ true = sym (ap (λ (k : KnownSent). k.framed) c.self.view_is) ∙ c.if-self.true in
    sym (ap (λ (f : Bool). sight_by f (has_key m.hart (known_by own.by m.payload) own.keys)) framed)

pub returns-then-contains : goal.returns-then-contains
returns-then-contains g c =
    let own = c.args.self.now in
    let m = c.args.message.now in
    let framed : own.framed ≡ false = sym (ap (λ (k : KnownSent). k.framed) c.self.view_is) ∙ c.if-self.false in
    let has : has_key m.hart (known_by own.by m.payload) own.keys ≡ true =
    ap (λ (k : KnownSent). has_key m.hart (known_by k.by m.payload) k.keys) (sym c.self.view_is)
    ∙ ap (λ its. has_key m.hart its (parts_of c.self.inside.keys.keys))
    (sym (c.bytes_of.ensures ∙ c.known-payload.ensures))
    ∙ sym (any_parts m.hart c.bytes_of.result.items c.self.inside.keys.keys) ∙ sym c.contains.ensures ∙ c.if-contains.true in
    sym (ap₂ sight_by framed has)

pub returns-else-contains : goal.returns-else-contains
returns-else-contains g c =
    let own = c.args.self.now in
    let m = c.args.message.now in
    let framed : own.framed ≡ false = sym (ap (λ (k : KnownSent). k.framed) c.self.view_is) ∙ c.if-self.false in
    let has : has_key m.hart (known_by own.by m.payload) own.keys ≡ false =
    ap (λ (k : KnownSent). has_key m.hart (known_by k.by m.payload) k.keys) (sym c.self.view_is)
    ∙ ap (λ its. has_key m.hart its (parts_of c.self.inside.keys.keys))
    (sym (c.bytes_of.ensures ∙ c.known-payload.ensures))
    ∙ sym (any_parts m.hart c.bytes_of.result.items c.self.inside.keys.keys) ∙ sym c.contains.ensures ∙ c.if-contains.false in
    sym (ap₂ sight_by framed has)
