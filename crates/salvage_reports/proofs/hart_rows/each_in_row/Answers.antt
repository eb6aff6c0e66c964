-- One message more: by lemmas on lists side by side, which no tactic finds.
use Rattle.std.proofs.Common.{◌≡◌, ◌∙◌, ◌<◌, ◌++◌, ◌∷◌, [], false, ap, arith, get_or, length, map, sym, take}
use Rattle.std.proofs.lemmas.Grind.{common_steps}
use Rattle.std.specs.Prelude.{min}
use Rattle.std.specs.List.{zip}
use Rattle.message.specs.declared.message.Message.{Message}
use Rattle.salvaging.specs.declared.treatment.Treated.{Treated}
use Rattle.salvaging.specs.declared.treatment.Treatment.TheVariants.{Stranger}
use Rattle.salvage_reports.specs.HartRows.{in_row}
use Rattle.salvage_reports.proofs.PairedLists.{all_within, one_more}
use Rattle.salvage_reports.proofs.hart_rows.each_in_row.Goals as goal

-- What a place past the end reads as.
abbrev any : Treated
any = record { treatment = Stranger; far = false; late = false }

pub loop-at-preserved : goal.loop-at-preserved
loop-at-preserved g c = λ all same ordered is ranges.
    let messages = c.args.messages.now in
    let treated = c.args.treated.now in
    let i = c.loop-at.at in
    let first : i < length messages = grind (arith, common_steps) in
    let second : i < length treated = grind (arith, common_steps) in
    let done = in_row (zip messages treated) in
    let m = c.index-messages-at.result in
    let element : m ≡ get_or messages i m = c.index-messages-at.is in
    c.in_ok-push.ensures.items ∙ ap (λ l. l ++ c.in_row.result ∷ []) (c.loop-at.invariant all same ordered is ranges)
    ∙ ap (λ one. map done (take i (zip messages treated)) ++ one ∷ [])
    (c.in_row.ensures messages treated all same ordered is ranges)
    ∙ ap (λ (y : Message). map done (take i (zip messages treated)) ++ done (y, get_or treated i any) ∷ []) element
    ∙ sym (one_more messages treated i m any first second done)

pub returns : goal.returns
returns g c = λ all same ordered is ranges.
    let messages = c.args.messages.now in
    let treated = c.args.treated.now in
    let end : c.loop-at.at ≡ min (length messages) (length treated) = omega arith in
    c.loop-at.invariant all same ordered is ranges
    ∙ ap (map (in_row (zip messages treated))) (all_within messages treated c.loop-at.at end)
