-- What is known of what collecting returns: the parts of each hart, or the fault.
use Rattle.std.specs.Prelude.{ℕ, ◌≡◌, List, length}
use Rattle.rvclass.specs.Fetch.{words_of}
use Rattle.rvclass.specs.Image.{Image}
use Rattle.legalpath.specs.ProgramLog.{ProgramLog}
use Rattle.payload.specs.declared.mode.Mode.{Mode}
use Rattle.message.specs.Accepted.{newcomers}
use Rattle.message.specs.declared.message.Message.{Message}
use Rattle.losses.specs.Collected.{AreCollected}
use Rattle.losses.specs.Losses.{AreOfLogs}
use Rattle.losses.specs.Stops.{AreAcceptedLossy, CollectingStopsBy}
use Rattle.losses.specs.DescribedParts.{AreDescribed}
use Rattle.losses.specs.declared.fault.LossyFault.{LossyFault}
use Rattle.losses.specs.declared.fault.LossyFault.TheVariants.{Memory}
use Rattle.losses.specs.declared.part.HartPieces.{HartPieces}

-- Collecting the messages of so many harts returns these pieces, where this mode is handed in. A demultiplexer accepts
-- the messages, one after the other, and the pieces are what they describe. Where the messages are some of those of
-- legal logs of the program, the pieces are those of the logs.
pub record GivesPieces {A : Type 0} (program : Image) (harts : ℕ) (mode : Mode) (messages : List Message)
    (pieces : List (HartPieces A)) : Type 0 where
  pub count : length pieces ≡ harts
  pub taken : AreAcceptedLossy (newcomers harts) messages
  pub described : AreDescribed (words_of program) mode messages pieces
  pub parts : (period : ℕ) (own : ℕ → Mode) (logs : List ProgramLog)
      → AreOfLogs program period mode own logs messages → length logs ≡ harts
      → AreCollected program period own logs messages pieces

-- Collecting the messages of so many harts returns this fault, where this mode is handed in. The fault names the first
-- message that is refused or whose packet is not decoded, unless an allocation failed. Where the messages are some of
-- those of legal logs of the program, an allocation failed.
pub record GivesFault (program : Image) (harts : ℕ) (mode : Mode) (messages : List Message) (fault : LossyFault)
    : Type 0 where
  pub stops : CollectingStopsBy (words_of program) mode harts messages fault
  pub memory : (period : ℕ) (own : ℕ → Mode) (logs : List ProgramLog)
      → AreOfLogs program period mode own logs messages → length logs ≡ harts → fault ≡ Memory
