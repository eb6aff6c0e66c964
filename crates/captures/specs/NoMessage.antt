-- Bytes that begin with no whole message, or with no header.
use Rattle.std.specs.Prelude.{ℕ, List}
use Rattle.message.specs.Cut.{IsCut, HasBadLength}
use Rattle.message.specs.Header.{HasBadHeader, IsCutHeader}
use Rattle.message.specs.declared.fault.MessageFault.{MessageFault}
use Rattle.message.specs.declared.fault.MessageFault.TheVariants as fault

-- Why the bytes begin with no whole message: they end inside one, or the length of its payload is bad.
abbrev pub BeginsNone : List ℕ → MessageFault → Type 0
BeginsNone bytes fault.Short = IsCut bytes
BeginsNone bytes fault.BadLength = HasBadLength bytes
BeginsNone bytes other = ⊥

-- Why the bytes, which begin as a capture of version 2 does, begin with no header: they end inside it, or a number of
-- it is out of range.
abbrev pub BeginsNoHeader : List ℕ → MessageFault → Type 0
BeginsNoHeader bytes fault.Short = IsCutHeader bytes
BeginsNoHeader bytes fault.BadHeader = HasBadHeader bytes
BeginsNoHeader bytes other = ⊥
