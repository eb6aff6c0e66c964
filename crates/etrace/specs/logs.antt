-- What the contracts of programs and logs cite.
pub use Rattle.isa.specs.Privilege
pub use Rattle.isa.specs.Address
pub use Rattle.rvclass.specs.Piece
pub use Rattle.rvclass.specs.Memory
pub use Rattle.rvclass.specs.FetchedBytes as FetchedBytes
pub use Rattle.rvclass.specs.Adding
pub use Rattle.rvclass.specs.Halves
pub use Rattle.rvclass.specs.PieceFaultText as PieceFaultText
pub use Rattle.rvclass.specs.Bits
pub use Rattle.rvclass.specs.Offset
pub use Rattle.rvclass.specs.Word32
pub use Rattle.rvclass.specs.Word16
pub use Rattle.rvclass.specs.Words
pub use Rattle.rvclass.specs.Image
pub use Rattle.rvclass.specs.Fetch
pub use Rattle.rvclass.specs.Instruction
pub use Rattle.rvclass.specs.Program
pub use Rattle.rvclass.specs.FaultText as ProgramFaultText
pub use Rattle.retire.specs.Itype
pub use Rattle.retire.specs.Events
pub use Rattle.retire.specs.Is64Bit
pub use Rattle.retire.specs.Number
pub use Rattle.retire.specs.Row
pub use Rattle.retire.specs.Log
pub use Rattle.retire.specs.LogText
pub use Rattle.retire.specs.Split as SplitLog
pub use Rattle.retire.specs.FaultText as LogFaultText
pub use Rattle.retire.specs.InRange
pub use Rattle.retire.specs.ReadBack
pub use Rattle.retire.specs.PlainText
pub use Rattle.retire.specs.PlainLog
pub use Rattle.legalpath.specs.WordOf
pub use Rattle.legalpath.specs.Successor
pub use Rattle.legalpath.specs.Right
pub use Rattle.legalpath.specs.Step
pub use Rattle.legalpath.specs.Legal
pub use Rattle.legalpath.specs.Reason
pub use Rattle.legalpath.specs.FirstFault
pub use Rattle.legalpath.specs.FaultText as PathFaultText
pub use Rattle.legalpath.specs.Discontinuity
pub use Rattle.legalpath.specs.Backward
pub use Rattle.legalpath.specs.NoneOf
pub use Rattle.legalpath.specs.OnlyLast
pub use Rattle.legalpath.specs.Join
pub use Rattle.legalpath.specs.LastPlace
pub use Rattle.legalpath.specs.StepLaws
pub use Rattle.legalpath.specs.FollowOnLaws
pub use Rattle.legalpath.specs.ReasonLaws
pub use Rattle.legalpath.specs.LegalUpTo
pub use Rattle.legalpath.specs.ProgramLog
pub use Rattle.legalpath.specs.Allowed
pub use Rattle.legalpath.specs.Passed
pub use Rattle.explaining.specs.Digits as WordDigits
pub use Rattle.explaining.specs.Standing
pub use Rattle.explaining.specs.Following as WhatFollows
pub use Rattle.explaining.specs.ElfImage
pub use Rattle.explaining.specs.Explanation
pub use Rattle.explaining.specs.StandsAt
pub use Rattle.explaining.specs.Listed as ListedStandings
