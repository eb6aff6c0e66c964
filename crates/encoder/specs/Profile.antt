-- Every packet of a legal log is of the profile.
use Rattle.std.specs.Prelude.{ℕ, All, List}
use Rattle.retire.specs.Is64Bit.{Is64Bit}
use Rattle.retire.specs.declared.event.Event.{Event}
use Rattle.rvclass.specs.Words.{Words, IsProgram}
use Rattle.legalpath.specs.Legal.{Legal}
use Rattle.payload.specs.Profile.{InProfile}
use Rattle.payload.specs.declared.mode.Mode.{Mode}
use Rattle.encoder.specs.Packets.{packets}

-- The packets of a legal log of 64-bit numbers are of the profile.
abbrev pub PacketsAreInProfile : Type 0
PacketsAreInProfile =
    (words : Words) (period : ℕ) (mode : Mode) (log : List Event) →
    IsProgram words →
    All Is64Bit log →
    Legal words log →
    All InProfile (packets words period mode log)
