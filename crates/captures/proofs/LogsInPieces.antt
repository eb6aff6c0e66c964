-- The counts of no event, of events after others, and of the end of a log.
use Rattle.std.proofs.Common.{◌≡◌, ℕ, List, [], ◌∷◌, ◌++◌, sym, ap, ◌∙◌, subst}
use Rattle.std.specs.Prelude.{map}
use Rattle.retire.specs.declared.event.Event.{Event}
use Rattle.rvclass.specs.Words.{Words}
use Rattle.legalpath.specs.Legal.{Legal}
use Rattle.encoder.specs.EncoderStands.{EncoderStands}
use Rattle.encoder.specs.PacketsSoFar.{packets_so_far}
use Rattle.encoder.specs.declared.encoder.Encoder.{Encoder}
use Rattle.payload.specs.Spelling.{payload_of}
use Rattle.payload.specs.declared.mode.Mode.{Mode}
use Rattle.payload.specs.declared.packet.Packet.{Packet}
use Rattle.captures.specs.HasCounted.{Counted, HasCounted, measured_so_far}
use Rattle.captures.specs.Measures.{measured, together}
use Rattle.captures.specs.declared.measures.Measures.{Measures}
use Rattle.captures.specs.steps.Counting.{PacketsCounted}
use Rattle.captures.proofs.CountedTogether.{measured-events, measured-packets, together-none}

-- What is kept, by its encoder and its measures.
abbrev pub kept : Encoder → Measures → Counted
kept encoder measures = record { encoder = encoder; measures = measures; rows = measures.events }

module _ (words : Words) (period : ℕ) (mode : Mode) where
  -- The opening packet is counted, and no event.
  pub opened : (opening : Packet) (e e' : Encoder) (none m : Measures) → EncoderStands words period mode [] e → e' ≡ e
      → packets_so_far words period mode [] ≡ opening ∷ [] → none ≡ measured [] [] []
      → m ≡ together none (measured [] (opening ∷ []) (payload_of opening ∷ []))
      → HasCounted words period mode [] (kept e' m)
  opened opening e e' none m stands same packets is_none counted =
      let one = measured [] (opening ∷ []) (payload_of opening ∷ []) in
      let value : m ≡ measured_so_far words period mode [] =
      counted ∙ ap (λ before. together before one) is_none ∙ together-none one
      ∙ ap (λ ps. measured [] ps (map payload_of ps)) (sym packets) in record {
        legal = tt;
        stands = subst (EncoderStands words period mode []) (sym same) stands;
        value = value;
        rows = ap (λ (m : Measures). m.events) value;
      }

  module _ (seen : List Event) (e : Encoder) (m : Measures) (has : HasCounted words period mode seen (kept e m)) where
    -- The next events are counted, and their packets not yet.
    pub events_added : (events : List Event) (m' : Measures) → m' ≡ together m (measured events [] [])
        → PacketsCounted words period mode (seen ++ events) seen e m'
    events_added events m' added =
        let before = packets_so_far words period mode seen in record {
          stands = has.stands;
          value = added ∙ ap (λ before. together before (measured events [] [])) has.value
              ∙ sym (measured-events seen events before (map payload_of before));
        }

    -- The packets that are left at the end are counted.
    pub ended : (packets burst : List Packet) (m' : Measures) → packets ≡ packets_so_far words period mode seen ++ burst
        → m' ≡ together m (measured [] burst (map payload_of burst))
        → m' ≡ measured seen packets (map payload_of packets)
    ended packets burst m' is added =
        added ∙ ap (λ before. together before (measured [] burst (map payload_of burst))) has.value
        ∙ sym (measured-packets seen (packets_so_far words period mode seen) burst)
        ∙ ap (λ ps. measured seen ps (map payload_of ps)) (sym is)

  -- The events and their packets are counted.
  pub all_added : (log : List Event) (e : Encoder) (m : Measures) → Legal words log
      → PacketsCounted words period mode log log e m → HasCounted words period mode log (kept e m)
  all_added log e m legal counted = record {
    legal = legal;
    stands = counted.stands;
    value = counted.value;
    rows = ap (λ (m : Measures). m.events) counted.value;
  }
