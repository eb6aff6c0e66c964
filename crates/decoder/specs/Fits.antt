-- Which events a packet reports.
use Rattle.std.specs.Prelude.{◌≡◌, ℕ, Bool, true, false, List, [], ◌∷◌, Option, Some, None}
use Rattle.retire.specs.Events.{is_retirement, is_taken}
use Rattle.retire.specs.declared.event.Event.{Event}
use Rattle.retire.specs.declared.event.Event.TheVariants.{Retire, Trap}
use Rattle.rvclass.specs.Words.{Words}
use Rattle.legalpath.specs.Discontinuity.{is_discontinuity}
use Rattle.payload.specs.AddressField.{aim}
use Rattle.payload.specs.declared.mode.Mode.{Mode}
use Rattle.payload.specs.declared.packet.Packet.{Packet}
use Rattle.payload.specs.declared.packet.Packet.TheVariants as packet
use Rattle.decoder.specs.Settling.{AddressKind, Explicit, Target, Unknown, settled}
use Rattle.decoder.specs.Walk.{AtBranch, AtAddress, AtTarget, IsWalkFrom}

-- The event before is a retirement.
abbrev pub AfterRetirement : Option Event → Type 0
AfterRetirement None = ⊥
AfterRetirement (Some before) = is_retirement before ≡ true

-- The event before is a retirement, and no uninferable discontinuity: it leads to one address.
abbrev pub AfterInferable : Words → Option Event → Type 0
AfterInferable words None = ⊥
AfterInferable words (Some before) =
    (is_retirement before ≡ true) × (is_discontinuity words before ≡ false)

-- The event is a retirement at this address and privilege, and it is a taken branch if and only if `taken` is true.
abbrev pub IsReported : Bool → ℕ → ℕ → Event → Type 0
IsReported taken priv address event =
    (itype : ℕ) × (event ≡ Retire address itype priv) × (is_taken event ≡ taken)

-- The events of a synchronisation packet: the retirement that it reports.
abbrev pub FitsSync : Bool → ℕ → ℕ → List Event → Type 0
FitsSync taken priv address piece =
    (event : Event) × (piece ≡ event ∷ []) × IsReported taken priv address event

-- The events of a trap packet. Without the handler's address they are the trap alone, and the packet reports no taken
-- branch (its branch bit is 1). With it they are a trap and the first retirement of its handler, after a retirement
-- that leads to one address. The packet does not report the exception program counter and the privilege of that trap.
-- In a legal log both follow from the retirement before.
abbrev pub FitsTrap : Words → Option Event → Bool → ℕ → ℕ → Bool → Bool → ℕ → ℕ → List Event → Type 0
FitsTrap words before taken priv cause interrupt false epc tval piece =
    (piece ≡ Trap priv interrupt cause epc tval ∷ []) × (taken ≡ false)
FitsTrap words before taken priv cause interrupt true address tval piece =
    AfterInferable words before × (epc : ℕ) × (from : ℕ) × (event : Event) ×
    (piece ≡ Trap from interrupt cause epc tval ∷ event ∷ []) × IsReported taken priv address event

-- The events of an address packet with these outcomes and this address. They are a walk to the address, explicit or a
-- target. As long as it is not known which it is, there are none, and the event before is a retirement.
abbrev pub FitsAddress : Words → Option Event → List Bool → ℕ → AddressKind → List Event → Type 0
FitsAddress words before taken addr Explicit piece = IsWalkFrom words before taken (AtAddress addr) piece
FitsAddress words before taken addr Target piece = IsWalkFrom words before taken (AtTarget addr) piece
FitsAddress words before taken addr Unknown piece = AfterRetirement before × (piece ≡ [])

-- The events of a packet of a trace in this mode. The event `before` comes before them, and `reported` is the last
-- reported address before the packet. The packet `next` follows it, if one does. A support packet has no events.
abbrev pub Fits : Words → Mode → Option Event → ℕ → Packet → Option Packet → List Event → Type 0
Fits words mode before reported (packet.Sync taken priv address) next piece =
    FitsSync taken priv address piece
Fits words mode before reported (packet.Trap taken priv cause interrupt handler address tval) next piece =
    FitsTrap words before taken priv cause interrupt handler address tval piece
Fits words mode before reported (packet.Support support) next piece = piece ≡ []
Fits words mode before reported (packet.Address taken delta report) next piece =
    FitsAddress words before taken (aim mode reported delta) (settled report next) piece
Fits words mode before reported (packet.Map taken) next piece =
    IsWalkFrom words before taken AtBranch piece
