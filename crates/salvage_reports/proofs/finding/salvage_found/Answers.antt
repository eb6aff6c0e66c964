-- What is known of what was salvaged is put together by cases on whether an allocation failed, which no tactic does.
use Rattle.std.proofs.Common.{ℕ, ◌≡◌, List, Ok, Err, length}
use Rattle.std.specs.Prelude.{Result, IfOk}
use Rattle.rvclass.specs.Fetch.{words_of}
use Rattle.rvclass.specs.Image.{Image}
use Rattle.payload.specs.declared.mode.Mode.{Mode}
use Rattle.message.specs.declared.message.Message.{Message}
use Rattle.losses.specs.Collects.{GivesPieces}
use Rattle.losses.specs.declared.part.HartPieces.{HartPieces}
use Rattle.salvaging.specs.FromLogs.{AreFromLogs}
use Rattle.salvaging.specs.LogsSalvaged.{AreLogsSalvaged}
use Rattle.salvaging.specs.LossyParts.{AreCollectedToo}
use Rattle.salvaging.specs.Salvaged.{IsSalvaged}
use Rattle.salvaging.specs.Salvages.{GivesSalvaged}
use Rattle.salvaging.specs.declared.salvaged.Salvaged.{Salvaged}
use Rattle.salvage_reports.proofs.finding.salvage_found.Goals as goal

gives : {A E : Type 0} (program : Image) (harts : ℕ) (mode : Mode) (messages : List Message)
    (found : Result (Salvaged A) E)
    → IfOk found (IsSalvaged (words_of program) mode harts messages)
    → ((period : ℕ) (own : ℕ → Mode) (logs : List _)
    → AreFromLogs program period mode own logs messages → length logs ≡ harts
    → IfOk found (λ salvaged. AreLogsSalvaged program period own logs messages salvaged))
    → ((pieces : List (HartPieces A)) → GivesPieces program harts mode messages pieces
    → IfOk found (AreCollectedToo pieces))
    → IfOk found (GivesSalvaged program harts mode messages)
gives program harts mode messages (Ok salvaged) left logs collected = record {
  left = left;
  logs = logs;
  collected = collected;
}
gives program harts mode messages (Err why) left logs collected = tt

pub returns : goal.returns
returns g c =
    let known = c.salvage_watched-salvaged.ensures in
    gives c.args.program.now c.args.harts c.args.mode c.args.messages.now c.salvage_watched-salvaged.result
    known.salvaged known.logs known.collected
