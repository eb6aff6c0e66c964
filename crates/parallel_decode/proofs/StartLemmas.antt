-- Messages that begin at places, and are accepted, are at these places.
use Rattle.std.proofs.Common.{ℕ, List, [], ◌∷◌, Some, Ok}
use Rattle.message.proofs.AcceptedLemmas.{answered}
use Rattle.message.proofs.Answering.{answer-unpacked}
use Rattle.message.specs.Accepting.{answer, state_after}
use Rattle.message.specs.declared.hart.Hart.{Hart}
use Rattle.message.specs.declared.message.Message.{Message}
use Rattle.parallel_decode.specs.Places.{AreAt}
use Rattle.parallel_decode.specs.steps.OwnMessages.{AreOwnAccepted}
use Rattle.parallel_decode.specs.steps.Starts.{StartAt}

pub starts-read : (bytes places : List ℕ) (messages : List Message) (h : Hart) → StartAt bytes places messages
    → AreOwnAccepted h messages → AreAt bytes places messages
starts-read bytes [] [] h are all = tt
starts-read bytes [] (first ∷ messages) h are all = absurd are
starts-read bytes (at ∷ places) [] h are all = absurd are
starts-read bytes (at ∷ places) (first ∷ messages) h are all =
    let packet = answered (answer h first) all.0 in
    let read = ((answer-unpacked (Some h) first (Ok packet.0)).0 packet.1).1 in
    let here = are.0 in (
      record {
        rest = here.rest;
        within = here.within;
        begins = here.begins;
        ranges = here.ranges;
        read = record { packet = packet.0; read = read };
      },
      starts-read bytes places messages (state_after h first) are.1 all.1,
    )
