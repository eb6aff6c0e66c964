-- The capture that was written is one of the logs, which the prover is told.
use Rattle.std.proofs.Common.{◌≡◌, ◌≤◌, List, get_or, length, arith, rules}
use Rattle.etrace.specs.capture.Header.{IsHeader}
use Rattle.etrace.specs.capture.Returned.{IsLongLegalLog}
use Rattle.etrace.specs.capture.Versions.{capture_of, header_of}
use Rattle.etrace.specs.declared.capture.Version.TheVariants.{Two}
use Rattle.etrace.specs.declared.packets.Mode.TheVariants.{Differential}
use Rattle.etrace.specs.logs.Log.{most_long_rows}
use Rattle.etrace.specs.logs.ProgramLog.{ProgramLog}
use Rattle.first_use.proofs.TwoLogs.{all_of_two}
use Rattle.first_use.proofs.two_harts.there_and_back.Goals as goal

pub returns : goal.returns
returns g c =
    let logs : List ProgramLog = c.args.logs.now in
    let two = c.type_inv.logs in
    let short : length (get_or logs 0 c.index-logs-0.result).events ≤ most_long_rows =
    omega (arith, c.events.ensures.short) in
    let short-2 : length (get_or logs 1 c.index-logs-1.result).events ≤ most_long_rows =
    omega (arith, c.events-2.ensures.short) in
    let first : IsLongLegalLog (get_or logs 0 c.index-logs-0.result) =
    record {
      legal = c.events.ensures.legal;
      short = short;
      numbers = c.events.ensures.numbers;
      image = c.events.ensures.image;
    } in
    let second : IsLongLegalLog (get_or logs 1 c.index-logs-1.result) =
    record {
      legal = c.events-2.ensures.legal;
      short = short-2;
      numbers = c.events-2.ensures.numbers;
      image = c.events-2.ensures.image;
    } in
    let start : IsHeader (header_of 1024 Differential logs) =
    record {
      some_period = omega arith;
      period = omega arith;
      some_harts = omega (arith, two);
      harts = omega (arith, two);
    } in
    let written : c.as_slice.result.now ≡ capture_of Two 1024 Differential logs = search rules in
    let back = c.in_ok-decoded.ensures.whole Two 1024 Differential logs
    (record {
      legal = all_of_two IsLongLegalLog logs _ _ two first second;
      same = c.requires;
      start = start;
      whole = written;
    }) tt in
    search (back, c.in-None.is, rules)
