use Rattle.std.proofs.Common.{◌≡◌, ◌≤◌, List, length}
use Rattle.symbols.proofs.LineLemmas.{IsReading}
use Rattle.symbols.specs.declared.entry.Entry.{Entry}
use Rattle.symbols.proofs.reading.count_entries.Given as goal

abbrev pub invariant-loop-place : goal.invariant-loop-place
invariant-loop-place l =
    (done : List Entry) × (l.count ≡ length done) × (l.count ≤ l.from) × IsReading l.bytes l.from l.place done
