-- What is collected of harts' messages.
use Rattle.std.specs.Prelude.{ℕ, ◌≡◌, List, Some, length, slice_get}
use Rattle.rvclass.specs.Fetch.{words_of}
use Rattle.rvclass.specs.Image.{Image}
use Rattle.legalpath.specs.ProgramLog.{ProgramLog}
use Rattle.payload.specs.ClosedTrace.{last_is_closing}
use Rattle.payload.specs.declared.mode.Mode.{Mode}
use Rattle.message.specs.OfHart.{packets_of}
use Rattle.message.specs.declared.message.Message.{Message}
use Rattle.losses.specs.Losses.{numbers_of}
use Rattle.losses.specs.Parts.{parts}
use Rattle.losses.specs.PartsIn.{parts_in}
use Rattle.losses.specs.declared.part.HartPieces.{HartPieces}

-- The parts of each hart are those of its log, where the packets with the numbers of its messages came. A hart is
-- marked as closed if and only if the last of its packets closes the trace.
pub record AreCollected {A : Type 0} (program : Image) (period : ℕ) (own : ℕ → Mode) (logs : List ProgramLog)
    (messages : List Message) (harts : List (HartPieces A)) : Type 0 where
  pub count : length harts ≡ length logs
  pub parts : (hart : ℕ) (log : ProgramLog) (pieces : HartPieces A) → slice_get logs hart ≡ Some log
      → slice_get harts hart ≡ Some pieces
      → parts_in pieces.parts.items ≡ parts (words_of program) period (own hart) log.events (numbers_of hart messages)
  pub closed : (hart : ℕ) (pieces : HartPieces A) → slice_get harts hart ≡ Some pieces
      → pieces.closed ≡ last_is_closing (packets_of hart messages)
