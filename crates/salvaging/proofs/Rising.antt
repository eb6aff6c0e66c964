-- Messages whose numbers rise from one to the next.
use Rattle.std.proofs.Common.{◌≡◌, ℕ, zero, suc, ◌+◌, ◌<◌, List, [], ◌∷◌, length, get_or, subst, arith}
use Rattle.std.specs.List.{AllAdjacentBelow}
use Rattle.std.proofs.lemmas.List.Elements.{All-map}
use Rattle.salvaging.specs.declared.received.ReceivedMessage.{ReceivedMessage}
use Rattle.salvaging.specs.steps.Arrivals.{Arrival, Rise, arrivals_in, arrival_of}

-- The number of the first is below that of the other.
abbrev pub IsBelow : ReceivedMessage → ReceivedMessage → Type 0
IsBelow one other = one.message.now.number < other.message.now.number

-- The later ones rise too.
later_adjacent : (first : ReceivedMessage) (came : List ReceivedMessage)
    → AllAdjacentBelow IsBelow (first ∷ came) (length (first ∷ came)) → AllAdjacentBelow IsBelow came (length came)
later_adjacent first came adjacent k d within =
    let on : suc k + 1 ≡ suc (k + 1) = omega arith in
    subst (λ j. IsBelow (get_or came k d) (get_or (first ∷ came) j d)) on
    (adjacent (suc k) d (omega (arith, within)))

-- The number of a message is below those behind it.
below_all : (first : ReceivedMessage) (came : List ReceivedMessage) → AllAdjacentBelow IsBelow (first ∷ came) (length
    (first ∷ came))
    → (k : ℕ) (d : ReceivedMessage) → k < length came → IsBelow first (get_or came k d)
below_all first came adjacent zero d within = adjacent 0 d (omega (arith, within))
below_all first came adjacent (suc k) d within =
    let before = below_all first came adjacent k d (omega (arith, within)) in
    let on : k + 1 ≡ suc k = omega arith in
    let next = subst (λ j. IsBelow (get_or came k d) (get_or came j d)) on
    (later_adjacent first came adjacent k d (omega (arith, within))) in
    omega (arith, before, next)

pub rises : (came : List ReceivedMessage) → AllAdjacentBelow IsBelow came (length came) → Rise (arrivals_in came)
rises [] adjacent = tt
rises (first ∷ came) adjacent = (
  All-map (λ (other : Arrival). first.message.now.number < other.message.number) arrival_of came
      (below_all first came adjacent),
  rises came (later_adjacent first came adjacent),
)
