-- One message more: by lemmas on lists side by side, which no tactic finds.
use Rattle.std.proofs.Common.{rules, ◌≡◌, ◌∙◌, ◌+◌, ◌<◌, ◌++◌, ◌∷◌, [], ap, arith, false, get_or, length, map, sym}
use Rattle.std.proofs.lemmas.Grind.{common_steps}
use Rattle.std.proofs.lemmas.List.{length_push}
use Rattle.std.specs.Prelude.{min}
use Rattle.message.specs.declared.message.Message.{Message}
use Rattle.salvaging.specs.declared.treatment.Treated.{Treated}
use Rattle.salvaging.specs.declared.treatment.Treatment.TheVariants.{Stranger}
use Rattle.salvage_reports.specs.HartRows.{without_rows}
use Rattle.salvage_reports.proofs.PairedLists.{all_within, one_more}
use Rattle.salvage_reports.proofs.hart_rows.each_without_rows.Goals as goal

-- What a place past the end reads as.
abbrev any : Treated
any = record { treatment = Stranger; far = false; late = false }

abbrev none : Message
none = record { hart = 0; number = 0; payload = [] }

pub loop-at-preserved : goal.loop-at-preserved
loop-at-preserved g c =
    let messages = c.args.messages.now in
    let treated = c.args.treated.now in
    let i = c.loop-at.at in
    let first : i < length messages = grind (arith, common_steps) in
    let second : i < length treated = grind (arith, common_steps) in
    let inv = c.loop-at.invariant in
    let one : Treated = get_or treated i any in
    let pushed = c.push_reserved.ensures.items in
    record {
      items = pushed ∙ ap (λ l. l ++ record { treated = one; rows = 0 } ∷ []) inv.items
          ∙ sym (one_more messages treated i none any first second without_rows);
      long = ap length pushed ∙ length_push c.loop-at.all.items _ ∙ ap (λ n. n + 1) inv.long;
      room = search rules;
    }

pub returns : goal.returns
returns g c =
    let messages = c.args.messages.now in
    let treated = c.args.treated.now in
    let end : c.loop-at.at ≡ min (length messages) (length treated) = omega arith in
    c.loop-at.invariant.items ∙ ap (map without_rows) (all_within messages treated c.loop-at.at end)
