-- Faults that are found on the way.
use Rattle.decoder.specs.declared.fault.DecodeFault.{DecodeFault}
use Rattle.decoder.specs.declared.fault.DecodeFault.TheVariants.{NotOpened, OffProgram, MissedNotify, Branches}
use Rattle.decoder.specs.declared.fault.DecodeFault.TheVariants.{WrongPlace, WrongPrivilege, AfterClose, Memory}

-- The fault is about the events that a packet reports. It is not about a trace that is not open, and not about a
-- failed allocation.
abbrev pub IsOnTheWay : DecodeFault → Type 0
IsOnTheWay NotOpened = ⊥
IsOnTheWay OffProgram = Unit {0}
IsOnTheWay MissedNotify = Unit {0}
IsOnTheWay Branches = Unit {0}
IsOnTheWay WrongPlace = Unit {0}
IsOnTheWay WrongPrivilege = Unit {0}
IsOnTheWay AfterClose = ⊥
IsOnTheWay Memory = ⊥
