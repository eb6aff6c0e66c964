-- What is known of a hart's messages that a demultiplexer takes, each in its turn.
use Rattle.std.proofs.Common.{◌≡◌, ◌≢◌, ◌⊎◌, inl, inr, ℕ, ◌<◌, ◌^◌, List, [], ◌∷◌}
use Rattle.std.proofs.Common.{Some, Ok, length, slice_get, refl, sym, ap, subst, ◌∙◌, arith}
use Rattle.std.specs.Prelude.{Result, Err, IsOk, slice_set}
use Rattle.std.proofs.lemmas.List.{length-set}
use Rattle.std.proofs.lemmas.Option.{same_Some, slice_get_within}
use Rattle.payload.specs.declared.packet.Packet.{Packet}
use Rattle.message.proofs.AcceptedLemmas.{slice_get-set}
use Rattle.message.proofs.AnsweringLossy.{answer_lossy-taken}
use Rattle.message.proofs.Elements.{slice_get-some}
use Rattle.message.proofs.OfHartLemmas.{of_hart-own, of_hart-others}
use Rattle.message.specs.Accepting.{next_of}
use Rattle.message.specs.Harts.{Harts}
use Rattle.message.specs.Lossy.{accepting_lossy, answer_lossy_of, harts_after_lossy}
use Rattle.message.specs.OfHart.{of_hart}
use Rattle.message.specs.declared.fault.DemuxFault.{DemuxFault}
use Rattle.message.specs.declared.hart.Hart.{Hart}
use Rattle.message.specs.declared.message.Message.{Message}
use Rattle.losses.proofs.InTurn.{AreTakenFrom, IsTakenHere, length-harts_after}
use Rattle.losses.proofs.MessageSteps.{IsTaken, taken_by}
use Rattle.losses.specs.Stops.{AreAcceptedLossy}

not_ok : (why : DemuxFault) → ¬ IsOk {T = Packet × ℕ} (Err why)
not_ok why ok = cc

abbrev answer_of_ok : (answer : Result (Packet × ℕ) DemuxFault) → IsOk answer
    → (packet : Packet) × (missed : ℕ) × (answer ≡ Ok (packet, missed))
answer_of_ok (Ok taken) ok = (taken.0, taken.1, refl)
answer_of_ok (Err why) ok = absurd (not_ok why ok)

module _ (harts : Harts) (message : Message) (ok : IsOk (accepting_lossy harts message)) where
  abbrev answer : (packet : Packet) × (missed : ℕ) × (accepting_lossy harts message ≡ Ok (packet, missed))
  answer = answer_of_ok (accepting_lossy harts message) ok

  abbrev taken : IsTaken harts message answer.0 answer.1
  taken = taken_by harts message answer.0 answer.1 answer.2

  small : message.number < 2 ^ 63
  small = by_hart taken.expects taken.at
    where
      by_hart : (h : Hart) → slice_get harts message.hart ≡ Some h → message.number < 2 ^ 63
      by_hart h at =
          let read : accepting_lossy harts message ≡ Ok (answer.0, answer.1) = answer.2 in
          let here = (answer_lossy-taken (Some h) message answer.0 answer.1).0
          (sym (ap (λ o. answer_lossy_of o message) at) ∙ read) in
          here.0.1.1

  pub known_and_small : (message.hart < length harts) × (message.number < 2 ^ 63)
  known_and_small = (slice_get_within harts message.hart taken.expects taken.at, small)

  abbrev here : IsTakenHere taken.expects message
  here =
      let number = taken.number in
      record { goes = taken.goes; least = omega (arith, number); small = small; packet = answer.0; read = taken.read }

  -- What is expected then of a hart.
  after : (hart : ℕ) (expects : Hart) → slice_get harts hart ≡ Some expects
      → ((message.hart ≡ hart) × (expects ≡ taken.expects)
      × (slice_get (harts_after_lossy harts message) hart ≡ Some (next_of message.number answer.0)))
      ⊎ ((message.hart ≢ hart) × (slice_get (harts_after_lossy harts message) hart ≡ Some expects))
  after hart expects at =
      let whole = taken.after in
      let set_to = next_of message.number answer.0 in
      let within = slice_get_within harts hart expects at in
      let long = length-set harts message.hart set_to in
      let there = slice_get-some (slice_set harts message.hart set_to) hart (omega (arith, within, long)) in
      by_place there.0 there.1 (ap (λ hs. slice_get hs hart) whole ∙ there.1)
      (slice_get-set harts message.hart set_to hart there.0 there.1)
    where
      by_place : (found : Hart)
          → slice_get (slice_set harts message.hart (next_of message.number answer.0)) hart ≡ Some found
          → slice_get (harts_after_lossy harts message) hart ≡ Some found
          → ((message.hart ≡ hart) × (found ≡ next_of message.number answer.0))
          ⊎ ((message.hart ≢ hart) × (slice_get harts hart ≡ Some found))
          → ((message.hart ≡ hart) × (expects ≡ taken.expects)
          × (slice_get (harts_after_lossy harts message) hart ≡ Some (next_of message.number answer.0)))
          ⊎ ((message.hart ≢ hart) × (slice_get (harts_after_lossy harts message) hart ≡ Some expects))
      by_place found there then (inl (same, is)) =
          let own = subst (λ h. slice_get harts h ≡ Some taken.expects) same taken.at in
          inl (same, same_Some expects taken.expects (sym at ∙ own), then ∙ ap Some is)
      by_place found there then (inr (apart, is)) =
          inr (apart, then ∙ ap Some (same_Some found expects (sym is ∙ at)))

-- The messages of one hart among those taken.
step : (message : Message) (messages : List Message) (hart : ℕ) (harts : Harts) (expects : Hart)
    → (ok : IsOk (accepting_lossy harts message)) → slice_get harts hart ≡ Some expects
    → ((h : Hart) → slice_get (harts_after_lossy harts message) hart ≡ Some h
    → AreTakenFrom h (of_hart hart messages))
    → AreTakenFrom expects (of_hart hart (message ∷ messages))
step message messages hart harts expects ok at later = by_hart (after harts message ok hart expects at)
  where
    by_hart : ((message.hart ≡ hart) × (expects ≡ (taken harts message ok).expects)
        × (slice_get (harts_after_lossy harts message) hart
        ≡ Some (next_of message.number (answer harts message ok).0)))
        ⊎ ((message.hart ≢ hart) × (slice_get (harts_after_lossy harts message) hart ≡ Some expects))
        → AreTakenFrom expects (of_hart hart (message ∷ messages))
    by_hart (inl (same, is, then)) =
        let both = subst (λ h. AreTakenFrom h (message ∷ of_hart hart messages)) (sym is)
        (here harts message ok, later (next_of message.number (answer harts message ok).0) then) in
        subst (AreTakenFrom expects) (sym (subst (λ h. of_hart h (message ∷ messages) ≡ message ∷ of_hart h messages)
        same (of_hart-own message messages))) both
    by_hart (inr (apart, then)) =
        subst (AreTakenFrom expects) (sym (of_hart-others hart message messages apart)) (later expects then)

pub taken_from : (messages : List Message) (harts : Harts) → AreAcceptedLossy harts messages → (hart : ℕ)
    (expects : Hart) → slice_get harts hart ≡ Some expects → AreTakenFrom expects (of_hart hart messages)
taken_from [] harts accepted hart expects at = tt
taken_from (message ∷ messages) harts accepted hart expects at =
    step message messages hart harts expects accepted.0 at
    (λ h then. taken_from messages (harts_after_lossy harts message) accepted.1 hart h then)

-- All messages are of harts that are known, and their numbers are such that a hart may have.
abbrev pub AreKnown : ℕ → List Message → Type 0
AreKnown count [] = Unit {0}
AreKnown count (message ∷ messages) =
    ((message.hart < count) × (message.number < 2 ^ 63)) × AreKnown count messages

pub known_all : (messages : List Message) (harts : Harts) → AreAcceptedLossy harts messages
    → AreKnown (length harts) messages
known_all [] harts accepted = tt
known_all (message ∷ messages) harts accepted = (
  known_and_small harts message accepted.0,
  subst (λ n. AreKnown n messages) (length-harts_after harts message)
      (known_all messages (harts_after_lossy harts message) accepted.1),
)
