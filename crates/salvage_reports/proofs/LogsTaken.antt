-- Messages of legal logs have effects, and are taken with them.
use Rattle.std.proofs.Common.{◌≡◌, ◌≤◌, ◌++◌, ◌^◌, ℕ, All, List, [], ◌∷◌, Ok, length, refl, sym, ap}
use Rattle.std.proofs.Common.{slice_get, subst, ◌∙◌, arith, append_assoc}
use Rattle.std.specs.Prelude.{is_ok}
use Rattle.retire.specs.declared.event.Event.{Event}
use Rattle.rvclass.proofs.WordsLemmas.{words_of-IsProgram}
use Rattle.rvclass.specs.Fetch.{words_of}
use Rattle.rvclass.specs.Image.{Image}
use Rattle.rvclass.specs.Words.{Words}
use Rattle.legalpath.specs.Join.{join}
use Rattle.legalpath.specs.ProgramLog.{ProgramLog}
use Rattle.payload.specs.ClosedTrace.{last_is_closing}
use Rattle.payload.specs.declared.mode.Mode.{Mode}
use Rattle.payload.specs.declared.packet.Packet.{Packet}
use Rattle.decoder.proofs.ExtendingLemmas.{front_describes}
use Rattle.decoder.specs.Describes.{Describes}
use Rattle.decoder.specs.SettledPieces.{settled_pieces}
use Rattle.message.proofs.AcceptedLemmas.{AreAccepted-next, expected_after-next}
use Rattle.message.proofs.Answering.{answer-unpacked}
use Rattle.message.proofs.HartMessages.{packets_of-next}
use Rattle.message.specs.Accepted.{AreAccepted, expected_after, newcomers}
use Rattle.message.specs.OfHart.{packets_of}
use Rattle.message.specs.declared.message.Message.{Message}
use Rattle.captures.proofs.NextMessages.{next_message, program_image}
use Rattle.captures.specs.Messages.{messages_of_harts}
use Rattle.captures.specs.Returned.{IsLongLegalLog}
use Rattle.listing.specs.Effect.{Effect, HasEffect, HaveEffects, last_is_waiting}
use Rattle.salvage_reports.specs.ListedAlike.{LogsAreTaken}
use Rattle.salvage_reports.proofs.AcceptedTaken.{accepted_taken}

-- The packets of messages that are accepted, with one more, describe a log: that one has an effect.
record OneEffect (words : Words) (front : List Message) (message : Message) : Type 0 where
  effect : Effect
  has : HasEffect words front message effect

one_effect : (words : Words) (front : List Message) (message : Message) (packet : Packet) (log : List Event)
    → packets_of message.hart (front ++ message ∷ []) ≡ packets_of message.hart front ++ packet ∷ []
    → Describes words (packets_of message.hart front ++ packet ∷ []) log → OneEffect words front message
one_effect words front message packet log more described =
    let packets = packets_of message.hart front in
    let all = packets_of message.hart (front ++ message ∷ []) in
    let before = front_describes words packets (packet ∷ []) log described in
    let earlier = join (settled_pieces packets described.pieces) in
    let added = before.1.rest in
    record {
      effect = record {
        added = added;
        rows = length (earlier ++ added);
        waits = last_is_waiting all;
        closes = last_is_closing all;
      };
      has = record {
        earlier = earlier;
        described_before = before.0;
        described = subst (λ ps. Describes words ps (earlier ++ added)) (sym more)
            (subst (Describes words (packets ++ packet ∷ [])) before.1.is described);
        counted = refl;
        waiting = refl;
        closing = refl;
      };
    }

module _ (program : Image) (period : ℕ) (mode : Mode) (logs : List ProgramLog) (legal : All IsLongLegalLog logs)
    (same : All (λ (log : ProgramLog). log.program ≡ program) logs) (few : length logs ≤ 2 ^ 16) where
  -- What is still to come after these messages is accepted, and has effects.
  record Goes (front later : List Message) : Type 0 where
    effects : List Effect
    have : HaveEffects (words_of program) front later effects
    accepted : AreAccepted (expected_after (newcomers (length logs)) front) later

  goes_on : (front later : List Message) → messages_of_harts period mode 0 logs ≡ front ++ later
      → AreAccepted (newcomers (length logs)) front → Goes front later
  goes_on front [] whole accepted = record { effects = []; have = tt; accepted = tt }
  goes_on front (message ∷ later) whole accepted =
      let harts = length logs in
      let next = next_message program period mode logs legal same few front message later whole in
      let taken = next.taken accepted in
      let fact = (answer-unpacked (slice_get (expected_after (newcomers harts) front) message.hart) message
      (Ok next.packet)).0 taken in
      let rest = goes_on (front ++ message ∷ []) later (whole ∙ sym (append_assoc front (message ∷ []) later))
      (AreAccepted-next (newcomers harts) front message next.packet accepted taken) in
      let one = one_effect (words_of program) front message next.packet next.log
      (packets_of-next front message next.packet fact.1) next.described in
      record {
        effects = one.effect ∷ rest.effects;
        have = (one.has, rest.have);
        accepted = (
          ap is_ok taken,
          subst (λ e. AreAccepted e later) (expected_after-next (newcomers harts) front message) rest.accepted,
        );
      }

-- Without a log there is no message.
none_treated : {X : Type 0} (xs : List X) → length xs ≡ 0 → xs ≡ []
none_treated [] none = refl
none_treated (x ∷ xs) none = absurd (omega (arith, none))

pub logs_taken : LogsAreTaken
logs_taken program period mode handed [] treated legal same few are =
    ([], tt, none_treated treated are.count)
logs_taken program period mode handed (log ∷ logs) treated legal same few are =
    let harts = length (log ∷ logs) in
    let all = messages_of_harts period mode 0 (log ∷ logs) in
    let image = program_image program period mode (log ∷ logs) legal same few 0 log refl in
    let goes = goes_on program period mode (log ∷ logs) legal same few [] all refl tt in (
      goes.effects,
      goes.have,
      accepted_taken (words_of program) handed harts all goes.effects treated (words_of-IsProgram program image)
          goes.accepted goes.have are,
    )
