-- The prover tries no chain of steps by itself: what the first step found is handed to it, and then the dump.
use Rattle.std.proofs.Common.{◌≡◌, refl, arith, subst, ◌∙◌, Ok, Err}
use Rattle.std.proofs.lemmas.Grind.{common_steps}
use Rattle.command_inputs.proofs.Beginnings.{cut_leads}
use Rattle.command_inputs.proofs.Runs.{ends_silently, leads_on}
use Rattle.command_inputs.specs.Begun.{IsCutOf}
use Rattle.command_inputs.specs.Printed.{PrintsUnlessDenied}
use Rattle.command_inputs.specs.Symbols.{AreSymbols}
use Rattle.capture_commands.specs.Dumping.{CanDumpHarts, CanDumpNamed, DumpsHarts, DumpsNamed}
use Rattle.capture_commands.proofs.dumping.dump_named.Goals as goal

pub returns-in_err-symbols-clause-printed : goal.returns-in_err-symbols-clause-printed
returns-in_err-symbols-clause-printed g c =
    let asked = c.args.asked.now in
    let content = g.F.Files.content c.args.files.now in
    let harts = c.args.harts in
    let why = c.in_err-symbols.field-0.0 in
    let is : c.from_residual.result ≡ Err why = grind (arith, common_steps) in
    ends_silently (DumpsHarts content asked harts) (CanDumpHarts content asked harts)
    (AreSymbols content asked.symbols (Err why)) why c.from_residual.result (g.O.Write.contents c.args.out.now) is
    c.in_err-symbols.ensures.fault (λ none. (Err why, none, refl))

pub returns-clause-printed : goal.returns-clause-printed
returns-clause-printed g c =
    let asked = c.args.asked.now in
    let content = g.F.Files.content c.args.files.now in
    let harts = c.args.harts in
    let symbols = c.in_ok-symbols.symbols in
    let old = g.O.Write.contents c.args.out.now in
    let new = g.O.Write.contents c.dump_of.new.out in
    let ended = c.dump_of.result in
    let printed = subst (λ known. PrintsUnlessDenied (DumpsNamed known asked harts symbols)
    (CanDumpNamed known asked harts) ended old new) c.in_ok-symbols.ensures.kept
    (subst (λ names. PrintsUnlessDenied (DumpsNamed (g.F.Files.content c.symbols_of.new.files) asked harts names)
    (CanDumpNamed (g.F.Files.content c.symbols_of.new.files) asked harts) ended old new) c.as_ref.ensures.value
    c.dump_of.ensures.printed) in
    leads_on (DumpsNamed content asked harts symbols) (DumpsHarts content asked harts)
    (CanDumpNamed content asked harts) (CanDumpHarts content asked harts) ended old new
    (λ printed is. (Ok symbols, c.in_ok-symbols.ensures.symbols, is))
    (λ can. (symbols, c.in_ok-symbols.ensures.symbols, can)) printed

pub returns-clause-cut : goal.returns-clause-cut
returns-clause-cut g c =
    let asked = c.args.asked.now in
    let content = g.F.Files.content c.args.files.now in
    let harts = c.args.harts in
    let symbols = c.in_ok-symbols.symbols in
    let old = g.O.Write.contents c.args.out.now in
    let new = g.O.Write.contents c.dump_of.new.out in
    let cut = subst (λ known. IsCutOf (DumpsNamed known asked harts symbols) old new) c.in_ok-symbols.ensures.kept
    (subst (λ names. IsCutOf (DumpsNamed (g.F.Files.content c.symbols_of.new.files) asked harts names) old new)
    c.as_ref.ensures.value c.dump_of.ensures.cut) in
    cut_leads (DumpsNamed content asked harts symbols) (DumpsHarts content asked harts) old new
    (λ printed is. (Ok symbols, c.in_ok-symbols.ensures.symbols, is)) cut
