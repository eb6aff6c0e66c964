-- Nothing was written yet.
use Rattle.std.proofs.Common.{[], refl}
use Rattle.std.proofs.KnownBytes.{Appends-nil}
use Rattle.salvage_reports.proofs.found_writing.write_found.Goals as goal

pub returns-in_err-room-clause-begun : goal.returns-in_err-room-clause-begun
returns-in_err-room-clause-begun g c =
    record { text = []; rest = _; parted = refl; appended = Appends-nil (g.O.Write.contents c.args.out.now) }
