-- The prover tries no chain of steps by itself: what the first step found is handed to it, and then the dump.
use Rattle.std.proofs.Common.{◌≡◌, refl, arith, inr, Ok, Err}
use Rattle.std.proofs.lemmas.Grind.{common_steps}
use Rattle.command_inputs.proofs.Beginnings.{cut_leads}
use Rattle.command_inputs.proofs.Formats.{found_ends, none_ends}
use Rattle.command_inputs.proofs.Runs.{ends_silently, leads_on}
use Rattle.command_inputs.specs.OnlyHarts.{IsOnly, asked_harts}
use Rattle.command_inputs.specs.Order.{only_fault}
use Rattle.capture_commands.specs.Dumping.{CanDump, CanDumpHarts, Dumps, DumpsHarts}
use Rattle.capture_commands.proofs.dumping.dump.Goals as goal

pub returns-in_err-harts-clause-early : goal.returns-in_err-harts-clause-early
returns-in_err-harts-clause-early g c =
    let why = c.in_err-harts.field-0.0 in
    let is : c.from_residual.result ≡ Err why = grind (arith, common_steps) in
    found_ends (only_fault (asked_harts c.args.asked.now.only)) why c.from_residual.result c.in_err-harts.ensures.none is

pub returns-in_err-harts-clause-printed : goal.returns-in_err-harts-clause-printed
returns-in_err-harts-clause-printed g c =
    let asked = c.args.asked.now in
    let content = g.F.Files.content c.args.files.now in
    let why = c.in_err-harts.field-0.0 in
    let is : c.from_residual.result ≡ Err why = grind (arith, common_steps) in
    ends_silently (Dumps content asked) (CanDump content asked) (IsOnly asked.only (Err why)) why
    c.from_residual.result (g.O.Write.contents c.args.out.now) is (inr c.in_err-harts.ensures.found)
    (λ none. (Err why, none, refl))

pub returns-clause-early : goal.returns-clause-early
returns-clause-early g c =
    none_ends (only_fault (asked_harts c.args.asked.now.only)) c.dump_named.result c.in_ok-harts.ensures.some

pub returns-clause-printed : goal.returns-clause-printed
returns-clause-printed g c =
    let asked = c.args.asked.now in
    let content = g.F.Files.content c.args.files.now in
    let harts = c.in_ok-harts.harts in
    leads_on (DumpsHarts content asked harts) (Dumps content asked) (CanDumpHarts content asked harts)
    (CanDump content asked) c.dump_named.result (g.O.Write.contents c.args.out.now) (g.O.Write.contents c.dump_named.new.out)
    (λ printed is. (Ok harts, c.in_ok-harts.ensures.found, is)) (λ can. (harts, c.in_ok-harts.ensures.found, can))
    c.dump_named.ensures.printed

pub returns-clause-cut : goal.returns-clause-cut
returns-clause-cut g c =
    let asked = c.args.asked.now in
    let content = g.F.Files.content c.args.files.now in
    let harts = c.in_ok-harts.harts in
    cut_leads (DumpsHarts content asked harts) (Dumps content asked) (g.O.Write.contents c.args.out.now)
    (g.O.Write.contents c.dump_named.new.out) (λ printed is. (Ok harts, c.in_ok-harts.ensures.found, is))
    c.dump_named.ensures.cut
