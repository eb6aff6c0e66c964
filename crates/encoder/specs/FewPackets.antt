-- A log has few packets.
use Rattle.std.specs.Prelude.{ℕ, ◌+◌, ◌≤◌, List, length}
use Rattle.retire.specs.declared.event.Event.{Event}
use Rattle.rvclass.specs.Words.{Words}
use Rattle.payload.specs.declared.mode.Mode.{Mode}
use Rattle.encoder.specs.Packets.{packets}

-- A log has at most two packets more than events.
abbrev pub HaveFewPackets : Type 0
HaveFewPackets =
    (words : Words) (period : ℕ) (mode : Mode) (log : List Event) →
    length (packets words period mode log) ≤ length log + 2
