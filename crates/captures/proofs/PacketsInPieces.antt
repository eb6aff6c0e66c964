-- The packets of a log are counted by calls of `push_until_packet`, a piece of the log at a time.
use Rattle.std.proofs.Common.{◌≡◌, ℕ, ◌+◌, ◌≤◌, IfSome, List, [], ◌∷◌, ◌++◌, Option, Some, None, length, take, drop}
use Rattle.std.proofs.Common.{sym, ap, ◌∙◌, append_assoc, subst}
use Rattle.std.specs.Prelude.{map}
use Rattle.std.proofs.lemmas.List.{append-nil, take_all}
use Rattle.std.proofs.Math.Seq.{take-add}
use Rattle.std.specs.Option.{option_to_list}
use Rattle.retire.specs.declared.event.Event.{Event}
use Rattle.rvclass.specs.Words.{Words}
use Rattle.legalpath.specs.Legal.{Legal}
use Rattle.encoder.specs.EncoderStands.{EncoderStands}
use Rattle.encoder.specs.PacketsSoFar.{packets_so_far}
use Rattle.encoder.specs.declared.encoder.Encoder.{Encoder}
use Rattle.encoder.proofs.SeveralEvents.{legal_part}
use Rattle.payload.specs.Profile.{InProfile}
use Rattle.payload.specs.Spelling.{payload_of}
use Rattle.payload.specs.declared.mode.Mode.{Mode}
use Rattle.payload.specs.declared.packet.Packet.{Packet}
use Rattle.captures.specs.Measures.{measured, together}
use Rattle.captures.specs.declared.measures.Measures.{Measures}
use Rattle.captures.specs.steps.Counting.{CountsPackets, PacketsCounted}
use Rattle.captures.proofs.CountedTogether.{measured-packets}

-- A packet, if there is one, is counted if it is of the profile.
abbrev pub IsCounted : Option Packet → Measures → Measures → Type 0
IsCounted None old new = new ≡ old
IsCounted (Some packet) old new =
    InProfile packet → new ≡ together old (measured [] (packet ∷ []) (payload_of packet ∷ []))

one_more : (es : List Event) (ps : List Packet) (packet : Option Packet) (old new : Measures) → IsCounted packet old new
    → IfSome packet InProfile → old ≡ measured es ps (map payload_of ps)
    → new ≡ measured es (ps ++ option_to_list packet) (map payload_of (ps ++ option_to_list packet))
one_more es ps None old new same profile value =
    same ∙ value ∙ ap (λ l. measured es l (map payload_of l)) (sym (append-nil ps))
one_more es ps (Some packet) old new counted profile value =
    counted profile
    ∙ ap (λ before. together before (measured [] (packet ∷ []) (payload_of packet ∷ []))) value
    ∙ sym (measured-packets es ps (packet ∷ []))

module _ (words : Words) where
  -- The packets of the first events of a list, as many as this number, are counted after those of any log that the
  -- complete list follows on.
  abbrev pub CountsFront : List Event → ℕ → Encoder → Measures → Encoder → Measures → Type 0
  CountsFront more taken first none encoder measures =
      (period : ℕ) (mode : Mode) (events log : List Event)
      → PacketsCounted words period mode events log first none → Legal words (log ++ more)
      → PacketsCounted words period mode events (log ++ take taken more) encoder measures

  module _ (more rest : List Event) (taken count : ℕ) (first e e' : Encoder) (none m : Measures)
      (packet : Option Packet) (rest_is : rest ≡ drop taken more)
      (counts : CountsFront more taken first none e m) where
    -- After a log, the events that were taken and then the next ones are the first of all.
    behind : (log : List Event) → (log ++ take taken more) ++ take count rest ≡ log ++ take (taken + count) more
    behind log =
        append_assoc log (take taken more) (take count rest)
        ∙ ap (λ l. log ++ (take taken more ++ take count l)) rest_is
        ∙ ap (λ l. log ++ l) (sym (take-add taken count more))

    -- The next ones are legal after a log and those that were taken, if all are legal after it.
    next_legal : (log : List Event) → Legal words (log ++ more)
        → Legal words ((log ++ take taken more) ++ take count rest)
    next_legal log legal =
        subst (Legal words) (sym (behind log)) (legal_part words log more (taken + count) legal)

    -- More events are taken, by what `push_until_packet` says of them, and the packet that it gives is counted.
    pub counts_more : (m' : Measures)
        → ((period : ℕ) (mode : Mode) (log : List Event) → EncoderStands words period mode log e
        → Legal words (log ++ take count rest) → EncoderStands words period mode (log ++ take count rest) e')
        → ((period : ℕ) (mode : Mode) (log : List Event) → EncoderStands words period mode log e
        → Legal words (log ++ take count rest) → packets_so_far words period mode (log ++ take count rest)
        ≡ packets_so_far words period mode log ++ option_to_list packet)
        → ((period : ℕ) (mode : Mode) (log : List Event) → EncoderStands words period mode log e
        → Legal words (log ++ take count rest) → IfSome packet InProfile)
        → IsCounted packet m m' → CountsFront more (taken + count) first none e' m'
    counts_more m' stands packets profile is_counted period mode events log counted legal =
        let front = log ++ take taken more in
        let legal' = next_legal log legal in
        let before = counts period mode events log counted legal in
        let more_packets = packets period mode front before.stands legal' in
        subst (λ log. PacketsCounted words period mode events log e' m') (behind log) (record {
          stands = stands period mode front before.stands legal';
          value = one_more events (packets_so_far words period mode front) packet m m' is_counted
              (profile period mode front before.stands legal') before.value
              ∙ ap (λ ps. measured events ps (map payload_of ps)) (sym more_packets);
        })

  -- All events are taken.
  pub counts_all : (more : List Event) (taken : ℕ) (first e : Encoder) (none m : Measures) → length more ≤ taken
      → CountsFront more taken first none e m → CountsPackets words more first none e m
  counts_all more taken first e none m whole counts period mode events log counted legal =
      subst (λ l. PacketsCounted words period mode events (log ++ l) e m) (take_all taken more whole)
      (counts period mode events log counted legal)
