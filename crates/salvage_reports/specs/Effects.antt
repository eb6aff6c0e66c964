-- What a message adds is listed as a listing without damage says it.
use Rattle.std.specs.Prelude.{ℕ, ◌≡◌, Bool, List, Option, Result}
use Rattle.retire.specs.declared.event.Event.{Event}
use Rattle.payload.specs.declared.fault.PackFault.{PackFault}
use Rattle.payload.specs.declared.packet.Packet.{Packet}
use Rattle.listing.specs.EffectText.{effect_text}
use Rattle.listing.specs.PacketEnding.{read_closes, read_waits}
use Rattle.salvaging.specs.Shares.{Adds}
use Rattle.salvaging.specs.Treatments.{treatment_of}
use Rattle.salvage_reports.specs.Words.{word_text}

-- The word for a message that adds events is the text of that effect in a listing, with its rows or without.
abbrev pub TakenHaveTheirEffect : Type 0
TakenHaveTheirEffect = (shows : Bool) (symbols : Option (List ℕ)) (read : Result Packet PackFault) (rows : ℕ) (events : List Event)
    → word_text shows symbols read rows (treatment_of (Adds events))
    ≡ effect_text shows symbols (record { added = events; rows = rows; waits = read_waits read; closes = read_closes read })
