-- The end by the flags is the one by the first that is not closed: by a recursion over the flags, which no search
-- makes.
use Rattle.std.proofs.Common.{◌≡◌, ◌+◌, ℕ, Bool, true, false, List, [], ◌∷◌, Some, None, Ok, Err, refl, sym, ◌∙◌}
use Rattle.command_inputs.specs.declared.fault.Fault.TheVariants as fault
use Rattle.command_inputs.specs.declared.status.Status.TheVariants.{Whole}
use Rattle.salvage_reports.specs.Damage.{closed_harts, first_unclosed}
use Rattle.salvage_reports.specs.HartItems.{items_of}
use Rattle.capture_commands.specs.Decoding.{end_of_harts}
use Rattle.capture_commands.specs.declared.reason.CaptureReason.TheVariants.{Unclosed}
use Rattle.capture_commands.proofs.salvaging_capture.closed.Goals as goal

ends_at : (hart first : ℕ) (flags : List Bool) → first_unclosed first flags ≡ Some hart
    → end_of_harts first flags ≡ Err (fault.Own (Unclosed hart))
ends_at hart first [] is = cc
ends_at hart first (true ∷ flags) is = ends_at hart (first + 1) flags is
ends_at hart first (false ∷ flags) is = cc

ends_well : (first : ℕ) (flags : List Bool) → first_unclosed first flags ≡ None → end_of_harts first flags ≡ Ok Whole
ends_well first [] is = refl
ends_well first (true ∷ flags) is = ends_well (first + 1) flags is
ends_well first (false ∷ flags) is = cc

pub returns-in-Some-clause-value : goal.returns-in-Some-clause-value
returns-in-Some-clause-value c =
    let found = c.args.found.now in
    let flags = closed_harts (items_of found.only found.salvaged.harts.items) in
    sym (ends_at c.in-Some.hart found.only.first flags (sym c.first_unclosed.ensures ∙ c.in-Some.is))

pub returns-in-None-clause-value : goal.returns-in-None-clause-value
returns-in-None-clause-value c =
    let found = c.args.found.now in
    let flags = closed_harts (items_of found.only found.salvaged.harts.items) in
    sym (ends_well found.only.first flags (sym c.first_unclosed.ensures ∙ c.in-None.is))
