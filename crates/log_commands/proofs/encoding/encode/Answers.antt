-- The prover tries no chain of steps by itself: what is found of the part, and of its logs, is handed to it in order.
use Rattle.std.proofs.Common.{◌≡◌, ◌∙◌, Err, inr, refl, subst, sym}
use Rattle.std.specs.Prelude.{IfSome}
use Rattle.command_inputs.proofs.Beginnings.{cut_leads}
use Rattle.command_inputs.proofs.Runs.{ends_silently, leads_on}
use Rattle.log_commands.specs.Encoding.{ArePartLogs, CanEncode, Encodes}
use Rattle.log_commands.specs.steps.Parts.{CanEncodeUpTo, EncodesUpTo}
use Rattle.log_commands.proofs.PartLogs.{can_leads, early_leads, early_stops, logs_lacking, printed_leads}
use Rattle.log_commands.proofs.encoding.encode.Goals as goal

pub returns-in-Ok-clause-early : goal.returns-in-Ok-clause-early
returns-in-Ok-clause-early g c =
    let content = g.F.Files.content c.args.files.now in
    let leads = sym c.limit_of.ensures ∙ c.in-Ok.is in
    subst (λ seen. IfSome seen (λ fault. c.encode_up_to.result ≡ Err fault))
    (sym (early_leads content c.args.asked.now c.in-Ok.most leads)) c.encode_up_to.ensures.early

pub returns-in-Ok-clause-printed : goal.returns-in-Ok-clause-printed
returns-in-Ok-clause-printed g c =
    let content = g.F.Files.content c.args.files.now in
    let asked = c.args.asked.now in
    let most = c.in-Ok.most in
    let leads = sym c.limit_of.ensures ∙ c.in-Ok.is in
    leads_on (EncodesUpTo content asked most) (Encodes content asked) (CanEncodeUpTo content asked most)
    (CanEncode content asked) c.encode_up_to.result (g.O.Write.contents c.args.out.now)
    (g.O.Write.contents c.encode_up_to.new.out) (printed_leads content asked most leads)
    (can_leads content asked most leads) c.encode_up_to.ensures.printed

pub returns-in-Ok-clause-cut : goal.returns-in-Ok-clause-cut
returns-in-Ok-clause-cut g c =
    let content = g.F.Files.content c.args.files.now in
    let asked = c.args.asked.now in
    let most = c.in-Ok.most in
    let leads = sym c.limit_of.ensures ∙ c.in-Ok.is in
    cut_leads (EncodesUpTo content asked most) (Encodes content asked) (g.O.Write.contents c.args.out.now)
    (g.O.Write.contents c.encode_up_to.new.out) (printed_leads content asked most leads) c.encode_up_to.ensures.cut

pub returns-in-Err-clause-early : goal.returns-in-Err-clause-early
returns-in-Err-clause-early g c =
    let content = g.F.Files.content c.args.files.now in
    let why = c.in-Err.why in
    let stops = sym c.limit_of.ensures ∙ c.in-Err.is in
    early_stops content c.args.asked.now why stops

pub returns-in-Err-clause-printed : goal.returns-in-Err-clause-printed
returns-in-Err-clause-printed g c =
    let content = g.F.Files.content c.args.files.now in
    let asked = c.args.asked.now in
    let why = c.in-Err.why in
    let stops = sym c.limit_of.ensures ∙ c.in-Err.is in
    ends_silently (Encodes content asked) (CanEncode content asked) (ArePartLogs content asked (Err why)) why (Err why)
    (g.O.Write.contents c.args.out.now) refl (inr (logs_lacking content asked why stops))
    (λ none. (Err why, none, refl))
