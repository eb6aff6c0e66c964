-- The format is looked at, and then the harts: by lemmas on what each found, which no tactic finds.
use Rattle.std.proofs.Common.{◌≡◌, ◌∙◌, Err, arith, inl, refl, sym}
use Rattle.std.proofs.KnownBytes.{Keeps-refl}
use Rattle.std.proofs.lemmas.Grind.{common_steps}
use Rattle.command_inputs.proofs.Formats.{found_ends}
use Rattle.command_inputs.specs.OnlyHarts.{asked_harts}
use Rattle.path_commands.specs.Audited.{Audits, early_fault}
use Rattle.path_commands.proofs.Formats.{begun_live, early_is, early_live, format_named, format_refused, no_format, only_cut}
use Rattle.path_commands.proofs.Formats.{only_printed, only_refused, same_keeps}
use Rattle.path_commands.proofs.choosing.audit.Goals as goal

pub returns-in_err-check_format-clause-early : goal.returns-in_err-check_format-clause-early
returns-in_err-check_format-clause-early g c =
    let asked = c.args.asked.now in
    let why = c.in_err-check_format.field-0.0 in
    let is : c.from_residual.result ≡ Err why = grind (arith, common_steps) in
    found_ends (early_fault asked) why c.from_residual.result
    (early_is asked why (no_format asked.format (asked_harts asked.only) why c.in_err-check_format.ensures.none)) is

pub returns-in_err-check_format-clause-printed : goal.returns-in_err-check_format-clause-printed
returns-in_err-check_format-clause-printed g c =
    let why = c.in_err-check_format.field-0.0 in
    let is : c.from_residual.result ≡ Err why = grind (arith, common_steps) in
    format_refused (g.F.Files.content c.args.files.now) c.args.asked.now why c.from_residual.result
    (g.O.Write.contents c.args.out.now) (sym c.in_err-check_format.was ∙ c.check_format.ensures.found) is

pub returns-in_err-harts-clause-early : goal.returns-in_err-harts-clause-early
returns-in_err-harts-clause-early g c =
    let asked = c.args.asked.now in
    let why = c.in_err-harts.field-0.0 in
    let is : c.from_residual-in_err-harts.result ≡ Err why = grind (arith, common_steps) in
    found_ends (early_fault asked) why c.from_residual-in_err-harts.result
    (early_is asked why (format_named asked.format (asked_harts asked.only) c.in_ok-check_format.ensures.some ∙
    c.in_err-harts.ensures.none)) is

pub returns-in_err-harts-clause-printed : goal.returns-in_err-harts-clause-printed
returns-in_err-harts-clause-printed g c =
    let why = c.in_err-harts.field-0.0 in
    let is : c.from_residual-in_err-harts.result ≡ Err why = grind (arith, common_steps) in
    only_refused (g.F.Files.content c.args.files.now) c.args.asked.now
    (sym c.in_ok-check_format.was ∙ c.check_format.ensures.found) why c.from_residual-in_err-harts.result
    (g.O.Write.contents c.args.out.now) c.in_err-harts.ensures.found is

pub returns-clause-early : goal.returns-clause-early
returns-clause-early g c =
    let asked = c.args.asked.now in
    early_live asked c.audit_asked.result
    (format_named asked.format (asked_harts asked.only) c.in_ok-check_format.ensures.some ∙ c.in_ok-harts.ensures.some)
    c.audit_asked.ensures.early

pub returns-clause-printed : goal.returns-clause-printed
returns-clause-printed g c =
    only_printed (g.F.Files.content c.args.files.now) c.args.asked.now
    (sym c.in_ok-check_format.was ∙ c.check_format.ensures.found) c.in_ok-harts.harts c.in_ok-harts.ensures.found
    c.audit_asked.result (g.O.Write.contents c.args.out.now) (g.O.Write.contents c.audit_asked.new.out)
    c.audit_asked.ensures.printed

pub returns-clause-cut : goal.returns-clause-cut
returns-clause-cut g c =
    only_cut (g.F.Files.content c.args.files.now) c.args.asked.now
    (sym c.in_ok-check_format.was ∙ c.check_format.ensures.found) c.in_ok-harts.harts c.in_ok-harts.ensures.found
    (g.O.Write.contents c.args.out.now) (g.O.Write.contents c.audit_asked.new.out) c.audit_asked.ensures.cut

pub returns-clause-begun : goal.returns-clause-begun
returns-clause-begun g c = λ memory.
    let asked = c.args.asked.now in
    let old = g.O.Write.contents c.args.out.now in
    let new = g.O.Write.contents c.audit_asked.new.out in
    begun_live (Audits (g.F.Files.content c.args.files.now) asked) old new asked.live asked.live refl
    (λ is. same_keeps g.O.Write.contents c.args.out.now c.audit_asked.new.out (c.audit_asked.ensures.untouched is memory))
    (returns-clause-cut g c)

pub returns-in_err-check_format-clause-begun : goal.returns-in_err-check_format-clause-begun
returns-in_err-check_format-clause-begun g c = λ memory. inl (Keeps-refl (g.O.Write.contents c.args.out.now))

pub returns-in_err-harts-clause-begun : goal.returns-in_err-harts-clause-begun
returns-in_err-harts-clause-begun g c = λ memory. inl (Keeps-refl (g.O.Write.contents c.args.out.now))
