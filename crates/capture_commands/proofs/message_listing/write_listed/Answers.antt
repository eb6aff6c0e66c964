-- Which of both is asked for is split on by hand.
use Rattle.std.proofs.Common.{◌≡◌, Err, arith, inl, inr, subst, sym}
use Rattle.std.proofs.KnownBytes.{Keeps-refl}
use Rattle.std.proofs.lemmas.Grind.{common_steps}
use Rattle.std.specs.Io.KnownBytes.{Keeps}
use Rattle.std.specs.Prelude.{⊤}
use Rattle.command_inputs.proofs.Beginnings.{cut_leads}
use Rattle.command_inputs.proofs.Runs.{ends_silently, leads_on}
use Rattle.command_inputs.specs.Begun.{IsCutOf}
use Rattle.command_inputs.specs.Printed.{PrintsUnlessDenied}
use Rattle.capture_commands.specs.CountedHarts.{HasHartBelow}
use Rattle.capture_commands.specs.Listed.{CanWriteListed, WritesListed, WritesListedPart, WritesListing, WritesPart}
use Rattle.capture_commands.specs.steps.Inputs.{names_in}
use Rattle.capture_commands.proofs.ListedRuns.{can_lists, lists, lists_nothing, lists_part, memory_leads}
use Rattle.capture_commands.proofs.message_listing.write_listed.Goals as goal

pub returns-then-asked-clause-printed : goal.returns-then-asked-clause-printed
returns-then-asked-clause-printed g c =
    let asked = c.args.asked.now in
    let input = c.args.input.now in
    subst (λ salvage. PrintsUnlessDenied
    (WritesListed asked.format asked.rows salvage input.only asked.harts input.program.now (names_in input) input.bytes.now)
    (CanWriteListed salvage input.only asked.harts input.bytes.now) c.list_salvaged.result
    (g.O.Write.contents c.args.out.now) (g.O.Write.contents c.list_salvaged.new.out))
    (sym c.if-asked.true) c.list_salvaged.ensures.printed

pub returns-then-asked-clause-begun : goal.returns-then-asked-clause-begun
returns-then-asked-clause-begun g c = λ memory.
    inl (subst (λ out. Keeps (g.O.Write.contents c.args.out.now) (g.O.Write.contents out))
    (sym (c.list_salvaged.ensures.untouched memory)) (Keeps-refl (g.O.Write.contents c.args.out.now)))

pub returns-then-asked-clause-cut : goal.returns-then-asked-clause-cut
returns-then-asked-clause-cut g c =
    let asked = c.args.asked.now in
    let input = c.args.input.now in
    subst (λ salvage. IsCutOf
    (WritesListedPart asked.format asked.rows salvage input.only asked.harts input.program.now (names_in input) input.bytes.now)
    (g.O.Write.contents c.args.out.now) (g.O.Write.contents c.list_salvaged.new.out))
    (sym c.if-asked.true) c.list_salvaged.ensures.cut

pub returns-in_err-check_harts_below-clause-printed : goal.returns-in_err-check_harts_below-clause-printed
returns-in_err-check_harts_below-clause-printed g c =
    let asked = c.args.asked.now in
    let input = c.args.input.now in
    let harts = c.harts_or_one-harts.result in
    let why = c.in_err-check_harts_below.field-0.0 in
    let is : c.from_residual.result ≡ Err why = grind (arith, common_steps) in
    ends_silently
    (WritesListed asked.format asked.rows asked.salvage input.only asked.harts input.program.now (names_in input) input.bytes.now)
    (CanWriteListed asked.salvage input.only asked.harts input.bytes.now)
    (HasHartBelow harts input.only input.bytes.now (Err why)) why c.from_residual.result
    (g.O.Write.contents c.args.out.now) is (inr c.in_err-check_harts_below.ensures.found)
    (lists_nothing asked.format asked.rows asked.salvage input.only asked.harts input.program.now (names_in input)
    input.bytes.now c.if-asked.false harts c.harts_or_one-harts.ensures why)

pub returns-clause-printed : goal.returns-clause-printed
returns-clause-printed g c =
    let asked = c.args.asked.now in
    let input = c.args.input.now in
    let harts = c.harts_or_one-harts.result in
    let has = c.in_ok-check_harts_below.ensures.found in
    leads_on (WritesListing asked.format asked.rows input.only harts input.program.now (names_in input) input.bytes.now)
    (WritesListed asked.format asked.rows asked.salvage input.only asked.harts input.program.now (names_in input) input.bytes.now)
    ⊤ (CanWriteListed asked.salvage input.only asked.harts input.bytes.now) c.write_listing.result
    (g.O.Write.contents c.args.out.now) (g.O.Write.contents c.write_listing.new.out)
    (lists asked.format asked.rows asked.salvage input.only asked.harts input.program.now (names_in input) input.bytes.now
    c.if-asked.false harts c.harts_or_one-harts.ensures tt has)
    (can_lists asked.format asked.rows asked.salvage input.only asked.harts input.program.now (names_in input) input.bytes.now
    c.if-asked.false harts c.harts_or_one-harts.ensures tt has) c.write_listing.ensures.printed

pub returns-clause-begun : goal.returns-clause-begun
returns-clause-begun g c = λ memory.
    let asked = c.args.asked.now in
    let input = c.args.input.now in
    let harts = c.harts_or_one-harts.result in
    memory_leads (WritesListing asked.format asked.rows input.only harts input.program.now (names_in input) input.bytes.now)
    (WritesListed asked.format asked.rows asked.salvage input.only asked.harts input.program.now (names_in input) input.bytes.now)
    (lists asked.format asked.rows asked.salvage input.only asked.harts input.program.now (names_in input) input.bytes.now
    c.if-asked.false harts c.harts_or_one-harts.ensures tt c.in_ok-check_harts_below.ensures.found)
    (g.O.Write.contents c.args.out.now) (g.O.Write.contents c.write_listing.new.out)
    (c.write_listing.ensures.begun memory)

pub returns-clause-cut : goal.returns-clause-cut
returns-clause-cut g c =
    let asked = c.args.asked.now in
    let input = c.args.input.now in
    let harts = c.harts_or_one-harts.result in
    cut_leads (WritesPart asked.format asked.rows input.only harts input.program.now (names_in input) input.bytes.now)
    (WritesListedPart asked.format asked.rows asked.salvage input.only asked.harts input.program.now (names_in input)
    input.bytes.now) (g.O.Write.contents c.args.out.now) (g.O.Write.contents c.write_listing.new.out)
    (lists_part asked.format asked.rows asked.salvage input.only asked.harts input.program.now (names_in input) input.bytes.now
    c.if-asked.false harts c.harts_or_one-harts.ensures tt c.in_ok-check_harts_below.ensures.found)
    c.write_listing.ensures.cut
