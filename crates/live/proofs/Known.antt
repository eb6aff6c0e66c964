-- Messages as payloads are compared: as many of each hart, and as many were read.
use Rattle.std.proofs.Common.{◌≡◌, ℕ, ◌<◌, List, [], ◌∷◌, length, sym, ap, subst, ◌∙◌}
use Rattle.payload.specs.declared.by.By.{By}
use Rattle.message.specs.OfHart.{of_hart}
use Rattle.message.specs.declared.message.Message.{Message}
use Rattle.auditing.proofs.KnownLemmas.{known-count, known-of_hart}
use Rattle.auditing.specs.Known.{known_all}
use Rattle.live.specs.Holds.{AreRead}

-- As many are of a hart.
pub known_hart : (how : By) (hart : ℕ) (messages : List Message)
    → length (of_hart hart (known_all how messages)) ≡ length (of_hart hart messages)
known_hart how hart messages = ap length (known-of_hart how hart messages) ∙ known-count how (of_hart hart messages)

-- A number that was read.
pub known_low : (how : By) (sent : List Message) (hart number : ℕ) → number < length (of_hart hart sent)
    → number < length (of_hart hart (known_all how sent))
known_low how sent hart number low = subst (λ n. number < n) (sym (known_hart how hart sent)) low

-- The same of each message.
pub known_read : (how : By) (sent messages : List Message) → AreRead sent messages
    → AreRead (known_all how sent) (known_all how messages)
known_read how sent [] read = tt
known_read how sent (one ∷ messages) read =
    (known_low how sent one.hart one.number read.0, known_read how sent messages read.1)
