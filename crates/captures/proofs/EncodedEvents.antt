-- Events of a log are encoded by calls of `push_until_packet`, a piece of the log at a time.
use Rattle.std.proofs.Common.{◌≡◌, ℕ, ◌+◌, ◌≤◌, IfSome, List, [], ◌∷◌, ◌++◌, Option, length, take, drop}
use Rattle.std.proofs.Common.{sym, ap, ◌∙◌, arith, append_assoc, subst}
use Rattle.std.proofs.lemmas.List.{append-nil, length-append, take_all}
use Rattle.std.proofs.Math.Seq.{take-add}
use Rattle.std.specs.Option.{option_to_list}
use Rattle.retire.specs.declared.event.Event.{Event}
use Rattle.rvclass.specs.Words.{Words}
use Rattle.legalpath.specs.Legal.{Legal}
use Rattle.encoder.specs.EncoderStands.{EncoderStands}
use Rattle.encoder.specs.PacketsSoFar.{packets_so_far}
use Rattle.encoder.specs.declared.encoder.Encoder.{Encoder}
use Rattle.encoder.proofs.SeveralEvents.{legal_part}
use Rattle.message.specs.declared.message.Message.{Message}
use Rattle.payload.specs.Profile.{InProfile}
use Rattle.payload.specs.declared.mode.Mode.{Mode}
use Rattle.payload.specs.declared.packet.Packet.{Packet}
use Rattle.captures.specs.declared.messages.Messages.{Messages}
use Rattle.captures.specs.HasEncoded.{AreWritten, packets_text}
use Rattle.captures.specs.steps.Adds.{Adds}
use Rattle.captures.specs.steps.Encodes.{EncodedSoFar, Encodes}
use Rattle.captures.proofs.AddedPackets.{packets_text-append}

module _ (text : Message → List ℕ) where
  -- The messages of more packets are written.
  pub written_more : (hart : ℕ) (before packets : List Packet) (old new : Messages) → AreWritten text hart before old
      → Adds text packets old new → AreWritten text hart (before ++ packets) new
  written_more hart before packets old new written adds =
      let front = packets_text text hart 0 before in
      let next : old.number ≡ 0 + length before = omega (arith, written.number) in record {
        of_hart = adds.hart ∙ written.of_hart;
        number = omega (arith, adds.number, written.number, length-append before packets);
        bytes = adds.bytes
            ∙ ap (λ bytes. bytes ++ packets_text text old.hart old.number packets) written.bytes
            ∙ ap (λ h. front ++ packets_text text h old.number packets) written.of_hart
            ∙ ap (λ n. front ++ packets_text text hart n packets) next
            ∙ sym (packets_text-append text hart 0 before packets);
      }

  module _ (words : Words) where
    -- The first events of a list, as many as this number, are encoded after any log that the complete list follows on.
    abbrev pub EncodesFront : List Event → ℕ → Encoder → Messages → Encoder → Messages → Type 0
    EncodesFront events taken encoder messages encoder_after messages_after =
        (period : ℕ) (mode : Mode) (hart : ℕ) (log : List Event)
        → EncodedSoFar text words period mode hart log encoder messages → Legal words (log ++ events)
        → EncodedSoFar text words period mode hart (log ++ take taken events) encoder_after messages_after

    -- No event is encoded, and nothing changes.
    pub encodes_none : (events : List Event) (encoder : Encoder) (messages : Messages)
        → EncodesFront events 0 encoder messages encoder messages
    encodes_none events encoder messages period mode hart log encoded legal =
        subst (λ log. EncodedSoFar text words period mode hart log encoder messages) (sym (append-nil log)) encoded

    module _ (events rest : List Event) (taken count : ℕ) (first e e' : Encoder) (none m : Messages)
        (packet : Option Packet) (rest_is : rest ≡ drop taken events)
        (encodes : EncodesFront events taken first none e m) where
      -- After a log, the events that were taken and then the next ones are the first of all.
      behind : (log : List Event)
          → (log ++ take taken events) ++ take count rest ≡ log ++ take (taken + count) events
      behind log =
          append_assoc log (take taken events) (take count rest)
          ∙ ap (λ l. log ++ (take taken events ++ take count l)) rest_is
          ∙ ap (λ l. log ++ l) (sym (take-add taken count events))

      -- The next ones are legal after a log and those that were taken, if all are legal after it.
      next_legal : (log : List Event) → Legal words (log ++ events)
          → Legal words ((log ++ take taken events) ++ take count rest)
      next_legal log legal =
          subst (Legal words) (sym (behind log)) (legal_part words log events (taken + count) legal)

      -- More events are encoded, by what `push_until_packet` says of them and by what is written then.
      pub encodes_more : (m' : Messages)
          → ((period : ℕ) (mode : Mode) (log : List Event) → EncoderStands words period mode log e
          → Legal words (log ++ take count rest) → EncoderStands words period mode (log ++ take count rest) e')
          → ((period : ℕ) (mode : Mode) (log : List Event) → EncoderStands words period mode log e
          → Legal words (log ++ take count rest) → packets_so_far words period mode (log ++ take count rest)
          ≡ packets_so_far words period mode log ++ option_to_list packet)
          → ((period : ℕ) (mode : Mode) (log : List Event) → EncoderStands words period mode log e
          → Legal words (log ++ take count rest) → IfSome packet InProfile)
          → (IfSome packet InProfile → Adds text (option_to_list packet) m m')
          → EncodesFront events (taken + count) first none e' m'
      encodes_more m' stands packets profile adds period mode hart log encoded legal =
          let front = log ++ take taken events in
          let legal' = next_legal log legal in
          let before = encodes period mode hart log encoded legal in
          subst (λ log. EncodedSoFar text words period mode hart log e' m') (behind log) (record {
            stands = stands period mode front before.stands legal';
            written = subst (λ ps. AreWritten text hart ps m') (sym (packets period mode front before.stands legal'))
                (written_more hart (packets_so_far words period mode front) (option_to_list packet) m m' before.written
                (adds (profile period mode front before.stands legal')));
          })

    -- All events are encoded.
    pub encodes_all : (events : List Event) (taken : ℕ) (first e : Encoder) (none m : Messages)
        → length events ≤ taken → EncodesFront events taken first none e m → Encodes text words events first none e m
    encodes_all events taken first e none m whole encodes period mode hart log encoded legal =
        subst (λ l. EncodedSoFar text words period mode hart (log ++ l) e m) (take_all taken events whole)
        (encodes period mode hart log encoded legal)

    -- The opening packet's message is written, and no event is encoded yet.
    pub encoded_none : (period : ℕ) (mode : Mode) (hart : ℕ) (opening : Packet) (e e' : Encoder) (none new : Messages)
        → EncoderStands words period mode [] e → e' ≡ e → packets_so_far words period mode [] ≡ opening ∷ []
        → AreWritten text hart [] none → Adds text (opening ∷ []) none new
        → EncodedSoFar text words period mode hart [] e' new
    encoded_none period mode hart opening e e' none new stands same is written adds = record {
      stands = subst (EncoderStands words period mode []) (sym same) stands;
      written = subst (λ ps. AreWritten text hart ps new) (sym is)
          (written_more hart [] (opening ∷ []) none new written adds);
    }
