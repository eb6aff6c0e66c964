-- The capture that was written is that of the log, which the prover is told.
use Rattle.std.proofs.Common.{◌≡◌, ◌≤◌, [], ◌∷◌, List, length, arith, rules}
use Rattle.std.proofs.lemmas.List.Elements.{All-cons, All-nil}
use Rattle.etrace.specs.capture.Header.{IsHeader}
use Rattle.etrace.specs.capture.Returned.{IsLongLegalLog}
use Rattle.etrace.specs.capture.Versions.{capture_of, header_of}
use Rattle.etrace.specs.declared.capture.Version.TheVariants.{Two}
use Rattle.etrace.specs.declared.packets.Mode.TheVariants.{Differential}
use Rattle.etrace.specs.logs.Log.{most_long_rows}
use Rattle.etrace.specs.logs.ProgramLog.{ProgramLog}
use Rattle.first_use.proofs.there_and_back.there_and_back.Goals as goal

pub returns : goal.returns
returns c =
    let log : ProgramLog = c.in_ok-map_err.field-0 in
    let logs : List ProgramLog = log ∷ [] in
    let short : length log.events ≤ most_long_rows = omega (arith, c.events.ensures.short) in
    let legal : IsLongLegalLog log =
    record {
      legal = c.events.ensures.legal;
      short = short;
      numbers = c.events.ensures.numbers;
      image = c.events.ensures.image;
    } in
    let same : log.program ≡ c.in_ok-program.program = search rules in
    let start : IsHeader (header_of 1024 Differential logs) =
    record {
      some_period = omega arith;
      period = omega arith;
      some_harts = omega arith;
      harts = omega arith;
    } in
    let written : c.as_slice.result.now ≡ capture_of Two 1024 Differential logs = search rules in
    let back = c.in_ok-decoded.ensures.whole Two 1024 Differential logs
    (record {
      legal = All-cons IsLongLegalLog log [] legal (All-nil IsLongLegalLog);
      same = All-cons (λ (it : ProgramLog). it.program ≡ c.in_ok-program.program) log [] same
          (All-nil (λ (it : ProgramLog). it.program ≡ c.in_ok-program.program));
      start = start;
      whole = written;
    }) tt in
    search (back, c.in-None.is, rules)
