-- How far a hart's messages are collected, whatever they are.
use Rattle.std.specs.Prelude.{◌≡◌, ◌≢◌, ◌⊎◌, ◌↔◌, ◌≤◌, ◌+◌, ℕ, zero, suc, Bool, false, List, [], ◌∷◌, ◌++◌, Option}
use Rattle.std.specs.Prelude.{Some}
use Rattle.std.specs.Prelude.{⊤, Result, Err, OnOk, IfErr, length, slice_get}
use Rattle.payload.specs.Closing.{is_closing_packet}
use Rattle.std.specs.Option.{unwrap_or}
use Rattle.retire.specs.declared.event.Event.{Event}
use Rattle.rvclass.specs.Words.{Words}
use Rattle.payload.specs.ClosedTrace.{last_is_closing}
use Rattle.payload.specs.declared.mode.Mode.{Mode}
use Rattle.payload.specs.declared.packet.Packet.{Packet}
use Rattle.decoder.specs.Describes.{Describes}
use Rattle.decoder.specs.Order.{IsOpen, open_packet}
use Rattle.decoder.specs.Resuming.{HasMode, IsClosed, PassesOver}
use Rattle.decoder.specs.DecoderStands.{DecoderStands}
use Rattle.decoder.specs.declared.decoding.Decoder.{Decoder}
use Rattle.decoder.specs.declared.fault.DecodeFault.{DecodeFault}
use Rattle.decoder.specs.declared.fault.DecodeFault.TheVariants.{NotOpened, AfterClose, Memory}
use Rattle.message.specs.Harts.{Harts}
use Rattle.message.specs.OfHart.{of_hart, packets_of}
use Rattle.message.specs.declared.hart.Hart.{Hart}
use Rattle.message.specs.declared.message.Message.{Message}
use Rattle.losses.specs.Parts.{LogPart, gap}
use Rattle.losses.specs.PartsIn.{parts_in}
use Rattle.losses.specs.Runs.{Run, first_run, from_sync, mode_in, run_of, runs_on, trace_after}
use Rattle.losses.specs.Stops.{IsNotDecodedLossy}
use Rattle.losses.specs.DescribedParts.{RunsDescribe}
use Rattle.losses.specs.declared.fault.LossyFault.{LossyFault}
use Rattle.losses.specs.declared.fault.LossyFault.TheVariants as fault
use Rattle.losses.specs.declared.hart_trace.HartTrace.{HartTrace}
use Rattle.losses.specs.declared.part.HartPieces.{HartPieces}

-- The state of a decoder after a loss, by the packets of a run from the first synchronisation packet on. Before one
-- comes, it passes over packets, and there is no event.
abbrev pub StandsAfter : Words → Mode → List Packet → List Event → Decoder → Type 0
StandsAfter words mode [] events decoder = PassesOver mode decoder × (events ≡ [])
StandsAfter words mode (packet ∷ packets) events decoder =
    DecoderStands words (open_packet mode ∷ packet ∷ packets) events decoder

-- The state of a decoder by the packets of a run, before which so many numbers are missing.
abbrev pub StandsRun : Words → Mode → ℕ → List Packet → List Event → Decoder → Type 0
StandsRun words mode zero packets events decoder = DecoderStands words packets events decoder
StandsRun words mode (suc missing) packets events decoder = StandsAfter words mode (from_sync packets) events decoder

-- A decoder follows a run, whose trace describes these events. Until a packet closes the trace, the decoder is in the
-- state after the packets and is open. It reads in the mode that was announced, or in the one handed in where none was.
pub record FollowsRun (words : Words) (mode reads : Mode) (missing : ℕ) (packets : List Packet) (closed : Bool)
    (events : List Event) (decoder : Decoder) : Type 0 where
  pub described : Describes words (trace_after missing reads packets) events
  pub stands : closed ≡ false → StandsRun words reads missing packets events decoder
  pub stays_open : closed ≡ false → ¬ IsClosed decoder
  pub announced : Option Mode
  pub has_mode : HasMode announced decoder
  pub right : unwrap_or announced mode ≡ reads

-- The runs before this one are collected. This one is under way: so many numbers are missing before it, and these
-- packets of it came. The parts so far are those of the runs before and then the gap before this one. The events are
-- what its trace describes so far.
pub record FollowsRuns (words : Words) (mode : Mode) (done : List Run) (missing : ℕ) (packets : List Packet) (next : ℕ)
    (closed : Bool) (decoder : Decoder) (seen : List LogPart) (events : List Event) : Type 0 where
  pub from_zero : missing ≡ 0 → (done ≡ []) × (next ≡ length packets)
  pub beyond : missing + length packets ≤ next
  pub front : List LogPart
  pub before : RunsDescribe words (mode_in mode (done ++ run_of missing packets ∷ [])) done front
  pub so_far : seen ≡ front ++ gap missing
  pub follows : FollowsRun words mode (mode_in mode (done ++ run_of missing packets ∷ [])) missing packets closed events
      decoder

-- These messages of a hart are collected, and this number is expected next.
pub record FollowsMessages (words : Words) (mode : Mode) (messages : List Message) (next : ℕ) (closed : Bool)
    (decoder : Decoder) (seen : List LogPart) (events : List Event) : Type 0 where
  pub done : List Run
  pub missing : ℕ
  pub packets : List Packet
  pub whole : (later : List Message)
      → runs_on first_run 0 (messages ++ later) ≡ done ++ runs_on (run_of missing packets) next later
  pub runs : FollowsRuns words mode done missing packets next closed decoder seen events

-- What a decoder promises of the faults of one packet.
pub record Refuses (words : Words) (p : Packet) (old : Decoder) (before : List Event) (result : Result ⊤ DecodeFault)
    : Type 0 where
  pub not_opened : (ps : List Packet) → DecoderStands words ps before old
      → (result ≡ Err NotOpened) ↔ ((ps ≡ []) × ¬ IsOpen p)
  pub after_close : (result ≡ Err AfterClose) ↔ IsClosed old
  pub never_unopened : (mode : Mode) → PassesOver mode old → ¬ (result ≡ Err NotOpened)

-- Why a packet is not decoded after these packets of a run: an allocation failed, or no log is described by the trace of
-- the run with it. The reason is NotOpened if and only if the packet has number 0 and opens no trace. It is never
-- AfterClose.
pub record IsNotDecodedInRun (words : Words) (reads : Mode) (missing : ℕ) (before : List Packet) (packet : Packet)
    (why : DecodeFault) : Type 0 where
  pub not_opened : (why ≡ NotOpened) ↔ (((missing ≡ 0) × (before ≡ [])) × ¬ IsOpen packet)
  pub stays_open : why ≢ AfterClose
  pub reason : (why ≡ Memory)
      ⊎ ((log : List Event) → ¬ Describes words (trace_after missing reads (before ++ packet ∷ [])) log)

-- A packet was fed after these packets of the run under way. It is collected; or an allocation failed, or the fault says
-- why it is not decoded.
pub record FedRuns (words : Words) (mode : Mode) (done : List Run) (missing : ℕ) (packets : List Packet) (next : ℕ)
    (packet : Packet) (new : Decoder) (seen : List LogPart) (after : List Event) (result : Result ⊤ DecodeFault)
    : Type 0 where
  pub follows : OnOk result (FollowsRuns words mode done missing (packets ++ packet ∷ []) (next + 1)
      (is_closing_packet packet) new seen after)
  pub refused : IfErr result (λ why. (why ≡ Memory) ⊎ IsNotDecodedInRun words
      (mode_in mode (done ++ run_of missing (packets ++ packet ∷ []) ∷ [])) missing packets packet why)

-- The fault for a message that is not collected after these messages. Of a packet that is not decoded it says why.
abbrev pub IsMessageFault : Words → Mode → List Message → Message → LossyFault → Type 0
IsMessageFault words mode messages message (fault.Demux place why) = Unit {0}
IsMessageFault words mode messages message (fault.Decode place why) = IsNotDecodedLossy words mode messages message why
IsMessageFault words mode messages message fault.Memory = Unit {0}

-- Of every hart, its messages among these are collected.
pub record FollowsEveryHart {A : Type 0} (words : Words) (mode : Mode) (messages : List Message) (harts : Harts)
    (traces : List (HartTrace A)) (pieces : List (HartPieces A)) : Type 0 where
  pub each : (hart : ℕ) (expects : Hart) (trace : HartTrace A) (collected : HartPieces A)
      → slice_get harts hart ≡ Some expects → slice_get traces hart ≡ Some trace
      → slice_get pieces hart ≡ Some collected
      → FollowsMessages words mode (of_hart hart messages) expects.expected expects.closed trace.decoder
      (parts_in collected.parts.items) trace.stretch.items
  pub closed : (hart : ℕ) (collected : HartPieces A) → slice_get pieces hart ≡ Some collected
      → collected.closed ≡ last_is_closing (packets_of hart messages)
