-- Whether a file is opened goes by what is known of it, which no tactic finds.
use Rattle.std.proofs.Common.{Err, subst, sym}
use Rattle.path_commands.proofs.FollowedRuns.{not_opened, some_file}
use Rattle.path_commands.specs.steps.Following.{IsStream}
use Rattle.path_commands.proofs.following.open.Goals as goal

pub returns-in-Ok : goal.returns-in-Ok
returns-in-Ok g c =
    some_file (g.F.Files.content c.args.files.now c.args.path.now) (g.F.Reader.FileReader.given c.in-Ok.reader)
    (g.F.Reader.FileReader.left c.in-Ok.reader) c.in-Ok.ensures.opened

pub returns-in-Err : goal.returns-in-Err
returns-in-Err g c =
    subst (λ why. IsStream {U = Unit {0}} (g.F.Files.content c.args.files.now c.args.path.now) c.args.path (Err why))
    (sym c.of_file.ensures)
    (not_opened (g.F.Files.content c.args.files.now c.args.path.now) c.args.path c.in-Err.why c.in-Err.ensures.lacked)
