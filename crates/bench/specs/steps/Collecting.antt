-- What one message changes of the outcome of its hart.
use Rattle.std.specs.Prelude.{◌≡◌, All, Bool, true, false, List, [], length, map}
use Rattle.retire.specs.declared.event.Event.{Event}
use Rattle.legalpath.specs.ProgramLog.{IsLegalLog}
use Rattle.receiver.specs.Received.{IsReceived}
use Rattle.bench.specs.Collected.{Collected, Taken}
use Rattle.bench.specs.declared.collecting.CollectFault.{CollectFault}
use Rattle.bench.specs.declared.collecting.CollectFault.TheVariants as fault
use Rattle.bench.specs.declared.outcome.HartOutcome.{HartOutcome}

-- The outcome of a hart, without its events and whether it is closed.
abbrev pub taken_of_outcome : {A : Type 0} → HartOutcome A → Taken
taken_of_outcome hart = record {
  packets = hart.packets.items;
  taken = hart.taken;
  bytes = hart.bytes;
  refused = hart.refused;
}

-- The outcome of each hart, without its events and whether it is closed.
abbrev pub taken_in : {A : Type 0} → List (HartOutcome A) → List Taken
taken_in harts = map taken_of_outcome harts

-- The events of each outcome.
abbrev pub decoded_in : {A : Type 0} → List (HartOutcome A) → List (List Event)
decoded_in harts = map (λ hart. hart.decoded.items) harts

-- Whether the closing packet of each hart was decoded, by its outcome.
abbrev pub closed_in : {A : Type 0} → List (HartOutcome A) → List Bool
closed_in harts = map (λ hart. hart.closed) harts

-- The outcome of a hart before its first message.
abbrev pub nothing : Taken
nothing = record { packets = []; taken = 0; bytes = 0; refused = false }

-- The outcome of a hart after a packet of it was not decoded. It is the same, but the flag that an allocation failed is
-- set where that is the reason. A fault of the demultiplexer is not the reason.
abbrev pub IsLeftBy : CollectFault → Taken → Taken → Type 0
IsLeftBy fault.Memory old new = new ≡ record old { refused = true }
IsLeftBy (fault.Decode why) old new = new ≡ old
IsLeftBy (fault.Demux why) old new = ⊥

-- A collector has a log, an outcome and a part of the receiver for each hart, and its logs are legal.
pub record IsCollected (collected : Collected) : Type 0 where
  pub received : IsReceived collected.received
  pub logs : length collected.logs ≡ length collected.received.expected
  pub harts : length collected.harts ≡ length collected.received.expected
  pub legal : All IsLegalLog collected.logs
