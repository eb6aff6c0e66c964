-- SENT is read, and then what is kept of it is of its bytes: by lemmas on what was returned.
use Rattle.std.proofs.Common.{◌≡◌, ◌⊎◌, List, ℕ, Ok, Err, arith, subst, sym}
use Rattle.std.proofs.lemmas.Grind.{common_steps}
use Rattle.std.specs.Prelude.{IfErr}
use Rattle.command_inputs.specs.Finding.{After}
use Rattle.command_inputs.specs.Found.{IsRead}
use Rattle.command_inputs.specs.declared.fault.Fault.TheVariants as fault
use Rattle.path_commands.proofs.MatchedRuns.{after_first, after_second, err_in_words, ok_in_words}
use Rattle.path_commands.specs.Sides.{IsFoundSent, by_packets}
use Rattle.path_commands.specs.declared.reason.PathReason.{PathReason}
use Rattle.path_commands.specs.steps.Matching.{KeepsSent}
use Rattle.path_commands.proofs.keeping.read_sent.Goals as goal

pub returns-in_err-bytes-clause-lacked : goal.returns-in_err-bytes-clause-lacked
returns-in_err-bytes-clause-lacked g c =
    let content = g.F.Files.content c.args.files.now in
    let asked = c.args.asked.now in
    let why = c.in_err-bytes.field-0.0 in
    let is : c.from_residual.result ≡ Err why = grind (arith, common_steps) in
    subst
    (λ result. IfErr result (λ why. (why ≡ fault.Memory)
    ⊎ After (IsRead content asked.sent) (IsFoundSent asked.sent) (Err why))) (sym is)
    (after_first content asked.sent why c.in_err-bytes.ensures.lacked)

pub returns-clause-held : goal.returns-clause-held
returns-clause-held g c =
    let content = g.F.Files.content c.args.files.now in
    let asked = c.args.asked.now in
    let how = by_packets asked.packets in
    ok_in_words (KeepsSent how c.args.harts c.in_ok-bytes.bytes.items)
    (λ own. (bytes : List ℕ) × IsRead {W = PathReason} content asked.sent
    (Ok bytes) × KeepsSent how c.args.harts bytes own)
    (λ own keeps. (c.in_ok-bytes.bytes.items, c.in_ok-bytes.ensures.held, keeps))
    c.keep_sent.result c.keep_sent.ensures.held

pub returns-clause-lacked : goal.returns-clause-lacked
returns-clause-lacked g c =
    let content = g.F.Files.content c.args.files.now in
    let asked = c.args.asked.now in
    err_in_words (λ why. (why ≡ fault.Memory) ⊎ IsFoundSent asked.sent c.in_ok-bytes.bytes.items (Err why))
    (λ why. (why ≡ fault.Memory) ⊎ After (IsRead content asked.sent) (IsFoundSent asked.sent) (Err why))
    (λ why lacked.
    after_second content asked.sent why c.in_ok-bytes.bytes.items c.in_ok-bytes.ensures.held lacked)
    c.keep_sent.result c.keep_sent.ensures.lacked
