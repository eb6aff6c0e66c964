-- An empty set has no key: by what it returns, which no search finds.
use Rattle.std.proofs.Common.{ap, refl}
use Rattle.auditing.specs.PayloadSights.{has_key}
use Rattle.auditing.specs.steps.Recognising.{parts_of}
use Rattle.auditing.proofs.known_payloads.KnownPayloads.new.Goals as goal

pub returns : goal.returns
returns g c = record {
  by = refl;
  is_framed = refl;
  each = λ no hart payload. ap (λ keys. has_key hart payload (parts_of keys)) c.new.ensures.empty;
}
