use Rattle.symbols.proofs.LineLemmas.{IsReading}
use Rattle.symbols.proofs.reading.all_entries.Given as goal

abbrev pub invariant-loop-place : goal.invariant-loop-place
invariant-loop-place g l = IsReading l.bytes l.from l.place l.entries.items
