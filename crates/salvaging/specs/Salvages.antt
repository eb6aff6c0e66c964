-- What is known of what salvaging returns.
use Rattle.std.specs.Prelude.{ℕ, ◌≡◌, List, length}
use Rattle.rvclass.specs.Fetch.{words_of}
use Rattle.rvclass.specs.Image.{Image}
use Rattle.legalpath.specs.ProgramLog.{ProgramLog}
use Rattle.payload.specs.declared.mode.Mode.{Mode}
use Rattle.message.specs.declared.message.Message.{Message}
use Rattle.losses.specs.Collects.{GivesPieces}
use Rattle.losses.specs.declared.part.HartPieces.{HartPieces}
use Rattle.salvaging.specs.FromLogs.{AreFromLogs}
use Rattle.salvaging.specs.LogsSalvaged.{AreLogsSalvaged}
use Rattle.salvaging.specs.LossyParts.{AreCollectedToo}
use Rattle.salvaging.specs.Salvaged.{IsSalvaged}
use Rattle.salvaging.specs.declared.salvaged.Salvaged.{Salvaged}

-- Salvaging the messages of so many harts returns this, where this mode is handed in. It is what is salvaged of these
-- messages. Where they are of legal logs of the program, it is what is salvaged of the logs. Where collecting them
-- returns pieces, it is what is collected.
pub record GivesSalvaged {A : Type 0} (program : Image) (harts : ℕ) (mode : Mode) (messages : List Message)
    (salvaged : Salvaged A) : Type 0 where
  pub left : IsSalvaged (words_of program) mode harts messages salvaged
  pub logs : (period : ℕ) (own : ℕ → Mode) (logs : List ProgramLog)
      → AreFromLogs program period mode own logs messages → length logs ≡ harts
      → AreLogsSalvaged program period own logs messages salvaged
  pub collected : (pieces : List (HartPieces A)) → GivesPieces program harts mode messages pieces
      → AreCollectedToo pieces salvaged
