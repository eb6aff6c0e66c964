-- A key more is in the set: by what the set returns, which no search finds.
use Rattle.std.proofs.Common.{◌∙◌, ◌==◌, ◌&&◌, ◌||◌, Bool, ap, sym}
use Rattle.std.specs.List.{list_any}
use Rattle.std.specs.Str.{bytes_eq}
use Rattle.auditing.proofs.Recognised.{any_parts, cond_or}
use Rattle.auditing.specs.PayloadSights.{KnownSent, has_key}
use Rattle.auditing.proofs.known_payloads.KnownPayloads.insert.Goals as goal

pub returns-clause-has : goal.returns-clause-has
returns-clause-has g c = λ other bytes.
    let hart = c.args.hart in
    let old = c.self.inside.keys.keys in
    sym (any_parts other bytes c.insert.new.self.keys)
    ∙ c.in_ok-insert.ensures.updates.0 (other, record { items = bytes }) ∙ cond_or ((hart == other) && bytes_eq c.bytes_of.result.items bytes)
    (list_any (λ key. (other == key.0) && bytes_eq bytes key.1.items) old)
    ∙ ap (λ its. ((hart == other) && bytes_eq its bytes)
    || list_any (λ key. (other == key.0) && bytes_eq bytes key.1.items) old) c.bytes_of.ensures
    ∙ ap (λ (b : Bool). ((hart == other) && bytes_eq c.args.payload.now bytes) || b) (any_parts other bytes old)
    ∙ ap (λ (k : KnownSent). ((hart == other) && bytes_eq c.args.payload.now bytes) || has_key other bytes k.keys)
    c.self.view_is
