-- Messages that are taken in turn.
use Rattle.std.proofs.Common.{◌≡◌, ◌≢◌, ◌⊎◌, inl, inr, ℕ, ◌+◌, ◌-◌, ◌<◌, ◌≤◌, ◌^◌, All, false, List, [], ◌∷◌, ◌++◌}
use Rattle.std.proofs.Common.{drop, length, map, take, Option, Some, None, Ok, get_or}
use Rattle.std.proofs.Common.{refl, sym, ap, subst, ◌∙◌, arith, slice_get}
use Rattle.std.specs.Prelude.{IsOk, is_ok, slice_set}
use Rattle.std.proofs.lemmas.Bool.{lt-ltb}
use Rattle.std.proofs.lemmas.List.{drop_more, length-set, length-take-le, take-append-drop}
use Rattle.std.proofs.lemmas.List.Elements.{All-head, All-tail}
use Rattle.rvclass.specs.Words.{Words}
use Rattle.payload.specs.Reading.{reading}
use Rattle.payload.specs.declared.mode.Mode.{Mode}
use Rattle.payload.specs.declared.packet.Packet.{Packet}
use Rattle.message.proofs.AcceptedLemmas.{slice_get-set}
use Rattle.message.proofs.AnsweringLossy.{answer_lossy-next}
use Rattle.message.proofs.Elements.{slice_get-some}
use Rattle.message.proofs.OfHartLemmas.{of_hart-own, of_hart-others}
use Rattle.message.specs.Accepted.{newcomers}
use Rattle.message.specs.Accepting.{next_of}
use Rattle.message.specs.Harts.{Harts, is_over}
use Rattle.message.specs.Lossy.{accepting_lossy, answer_lossy, answer_lossy_of, harts_after_found_lossy}
use Rattle.message.specs.Lossy.{harts_after_lossy, state_after_lossy, state_by_lossy}
use Rattle.message.specs.OfHart.{of_hart}
use Rattle.message.specs.declared.hart.Hart.{Hart}
use Rattle.message.specs.declared.message.Message.{Message}
use Rattle.losses.specs.Apart.{AreRising}
use Rattle.losses.specs.Stops.{AreAcceptedLossy, CollectingStopsBy, expected_lossy}
use Rattle.losses.specs.DescribedParts.{EachHartDescribes}
use Rattle.losses.specs.steps.Collecting.{IsNotCollected}
use Rattle.losses.specs.steps.FollowingRuns.{IsMessageFault}
use Rattle.losses.specs.declared.fault.LossyFault.{LossyFault}
use Rattle.losses.specs.declared.fault.LossyFault.TheVariants as fault

pub taken-push : (expected : Harts) (front : List Message) (message : Message) → AreAcceptedLossy expected front
    → IsOk (accepting_lossy (expected_lossy expected front) message) → AreAcceptedLossy expected (front ++ message ∷ [])
taken-push expected [] message taken ok = (ok, tt)
taken-push expected (first ∷ front) message taken ok =
    (taken.0, taken-push (harts_after_lossy expected first) front message taken.1 ok)

pub expected-push : (expected : Harts) (front : List Message) (message : Message)
    → expected_lossy expected (front ++ message ∷ []) ≡ harts_after_lossy (expected_lossy expected front) message
expected-push expected [] message = refl
expected-push expected (first ∷ front) message = expected-push (harts_after_lossy expected first) front message

-- A demultiplexer knows as many harts after a message.
pub length-harts_after : (harts : Harts) (message : Message) → length (harts_after_lossy harts message) ≡ length harts
length-harts_after harts message = by_hart (slice_get harts message.hart)
  where
    by_hart : (hart : Option Hart) → length (harts_after_found_lossy harts message hart) ≡ length harts
    by_hart None = refl
    by_hart (Some hart) = length-set harts message.hart (state_after_lossy hart message)

-- A message is taken, where this is expected of its hart.
pub record IsTakenHere (expects : Hart) (message : Message) : Type 0 where
  pub goes : expects.closed ≡ false
  pub least : expects.expected ≤ message.number
  pub small : message.number < 2 ^ 63
  pub packet : Packet
  pub read : reading message.payload ≡ Ok packet

-- A hart's messages are taken, each in its turn.
abbrev pub AreTakenFrom : Hart → List Message → Type 0
AreTakenFrom expects [] = Unit {0}
AreTakenFrom expects (message ∷ messages) =
    (taken : IsTakenHere expects message) × AreTakenFrom (next_of message.number taken.packet) messages

-- Their numbers rise.
pub taken_rise : (expects : Hart) (messages : List Message) → AreTakenFrom expects messages
    → AreRising expects.expected (map (λ (m : Message). m.number) messages)
taken_rise expects [] taken = tt
taken_rise expects (message ∷ messages) (taken, later) =
    (taken.least, taken_rise (next_of message.number taken.packet) messages later)

-- A message that is taken is accepted.
taken_accepted : (harts : Harts) (message : Message) (expects : Hart) → slice_get harts message.hart ≡ Some expects
    → (taken : IsTakenHere expects message)
    → (accepting_lossy harts message ≡ Ok (taken.packet, message.number - expects.expected))
    × (harts_after_lossy harts message ≡ slice_set harts message.hart (next_of message.number taken.packet))
taken_accepted harts message expects at taken = (
  ap (λ o. answer_lossy_of o message) at ∙ answered,
  ap (harts_after_found_lossy harts message) at
      ∙ ap (λ r. slice_set harts message.hart (state_by_lossy expects message.number r)) answered,
)
  where
    goes : is_over expects ≡ false
    goes =
        let stays = taken.goes in
        let least = taken.least in
        let small = taken.small in
        let few = lt-ltb expects.expected (2 ^ 63) (omega (arith, least, small)) in
        rw (stays, few) refl

    answered : answer_lossy expects message ≡ Ok (taken.packet, message.number - expects.expected)
    answered = answer_lossy-next expects message taken.packet goes taken.least taken.small taken.read

-- Messages are accepted where those of each hart are taken, each in its turn.
pub accepted_from : (messages : List Message) (harts : Harts)
    → All (λ (m : Message). m.hart < length harts) messages
    → ((hart : ℕ) (expects : Hart) → slice_get harts hart ≡ Some expects
    → AreTakenFrom expects (of_hart hart messages)) → AreAcceptedLossy harts messages
accepted_from [] harts known taken = tt
accepted_from (message ∷ messages) harts known taken =
    (ap is_ok is.0, accepted_from messages (harts_after_lossy harts message) known_later taken_later)
  where
    within : message.hart < length harts
    within = All-head (λ (m : Message). m.hart < length harts) message messages known

    found : (expects : Hart) × (slice_get harts message.hart ≡ Some expects)
    found = slice_get-some harts message.hart within

    own : AreTakenFrom found.0 (message ∷ of_hart message.hart messages)
    own = subst (AreTakenFrom found.0) (of_hart-own message messages) (taken message.hart found.0 found.1)

    is : (accepting_lossy harts message ≡ Ok (own.0.packet, message.number - found.0.expected))
        × (harts_after_lossy harts message ≡ slice_set harts message.hart (next_of message.number own.0.packet))
    is = taken_accepted harts message found.0 found.1 own.0

    known_later : All (λ (m : Message). m.hart < length (harts_after_lossy harts message)) messages
    known_later = subst (λ n. All (λ (m : Message). m.hart < n) messages) (sym (length-harts_after harts message))
        (All-tail (λ (m : Message). m.hart < length harts) message messages known)

    taken_later : (hart : ℕ) (expects : Hart) → slice_get (harts_after_lossy harts message) hart ≡ Some expects
        → AreTakenFrom expects (of_hart hart messages)
    taken_later hart expects at =
        by_place (slice_get-set harts message.hart (next_of message.number own.0.packet) hart expects
        (ap (λ hs. slice_get hs hart) (sym is.1) ∙ at))
      where
        by_place : ((message.hart ≡ hart) × (expects ≡ next_of message.number own.0.packet))
            ⊎ ((message.hart ≢ hart) × (slice_get harts hart ≡ Some expects))
            → AreTakenFrom expects (of_hart hart messages)
        by_place (inl (same, next)) = subst (λ h. AreTakenFrom expects (of_hart h messages)) same
            (subst (λ e. AreTakenFrom e (of_hart message.hart messages)) (sym next) own.1)
        by_place (inr (apart, stood)) =
            subst (AreTakenFrom expects) (of_hart-others hart message messages apart) (taken hart expects stood)

-- So each of them is, where it stands.
pub accepted_at : (harts : Harts) (front later : List Message) (message : Message)
    → AreAcceptedLossy harts (front ++ message ∷ later) → IsOk (accepting_lossy (expected_lossy harts front) message)
accepted_at harts [] later message accepted = accepted.0
accepted_at harts (first ∷ front) later message accepted =
    accepted_at (harts_after_lossy harts first) front later message accepted.1

-- What stands at a place, and what is behind it.
pub split_at : (messages : List Message) (place : ℕ) (message : Message) → place < length messages
    → message ≡ get_or messages place message → drop place messages ≡ message ∷ drop (place + 1) messages
split_at messages place message within is =
    drop_more messages place message within ∙ ap (λ m. m ∷ drop (place + 1) messages) (sym is)

-- Why collecting stops at a place.
pub stops_at : (words : Words) (mode : Mode) (harts : ℕ) (messages : List Message) (place : ℕ) (message : Message)
    (demux : Harts)
    → place < length messages → message ≡ get_or messages place message
    → demux ≡ expected_lossy (newcomers harts) (take place messages)
    → AreAcceptedLossy (newcomers harts) (take place messages)
    → (why : LossyFault) → IsNotCollected demux message place why
    → IsMessageFault words mode (take place messages) message why
    → EachHartDescribes words mode harts (take place messages)
    → CollectingStopsBy words mode harts messages why
stops_at words mode harts messages place message demux within is expected taken why not unread described =
    by_fault why not unread
  where
    whole : messages ≡ take place messages ++ message ∷ drop (place + 1) messages
    whole = sym (take-append-drop place messages)
        ∙ ap (λ l. take place messages ++ l) (split_at messages place message within is)

    here : place ≡ length (take place messages)
    here = sym (length-take-le place messages (omega (arith, within)))

    by_fault : (why : LossyFault) → IsNotCollected demux message place why
        → IsMessageFault words mode (take place messages) message why → CollectingStopsBy words mode harts messages why
    by_fault (fault.Demux at why) (same, answer) unread = record {
      front = take place messages;
      message = message;
      later = drop (place + 1) messages;
      whole = whole;
      here = same ∙ here;
      taken = taken;
      described = described;
      refused = ap (λ hs. accepting_lossy hs message) (sym expected) ∙ answer;
    }
    by_fault (fault.Decode at why) (same, ok, memory) unread = record {
      front = take place messages;
      message = message;
      later = drop (place + 1) messages;
      whole = whole;
      here = same ∙ here;
      taken = taken-push (newcomers harts) (take place messages) message taken
          (subst (λ hs. IsOk (accepting_lossy hs message)) expected ok);
      not_memory = memory;
      described = described;
      not_decoded = unread;
    }
    by_fault fault.Memory not unread = tt
