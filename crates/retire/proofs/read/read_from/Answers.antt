-- What the pieces say of all bytes of the source is named by hand.
use Rattle.std.proofs.Common.{◌∙◌, Ok, ap, rules, sym}
use Rattle.csv.proofs.ReadFacts.{keeps-trans}
use Rattle.retire.specs.Log.{most_rows}
use Rattle.retire.proofs.KnownLemmas.{ended-log, fault-log}
use Rattle.retire.proofs.read.read_from.Goals as goal

pub returns-in-Ok-false-clause-events : goal.returns-in-Ok-false-clause-events
returns-in-Ok-false-clause-events g c =
    let (same, end, log) = c.in-Ok-false.ensures.end most_rows c.loop.events.items c.loop.invariant.read
    (search rules) in
    ended-log most_rows (g.R.Read.remaining c.args.source) _ _ c.next.new.events.items
    (keeps-trans _ _ _ c.loop.invariant.kept c.next.ensures.kept) end (log ∙ ap Ok (sym same))

pub returns-in-Err-next-clause-faults : goal.returns-in-Err-next-clause-faults
returns-in-Err-next-clause-faults g c =
    fault-log most_rows (g.R.Read.remaining c.args.source) _ _ c.in-Err-next.fault
    (keeps-trans _ _ _ c.loop.invariant.kept c.next.ensures.kept)
    (c.in-Err-next.ensures.faults most_rows c.loop.events.items c.loop.invariant.read)
