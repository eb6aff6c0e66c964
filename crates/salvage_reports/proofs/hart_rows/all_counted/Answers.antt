-- One message more: by lemmas on lists side by side, which no tactic finds.
use Rattle.std.proofs.Common.{◌≡◌, ◌∙◌, ◌<◌, ◌++◌, ◌∷◌, [], false, ap, arith, get_or, length, map, subst, sym, take}
use Rattle.std.proofs.lemmas.Grind.{common_steps}
use Rattle.std.proofs.lemmas.List.Elements.{All-push}
use Rattle.std.specs.Prelude.{All, min}
use Rattle.std.specs.List.{zip}
use Rattle.message.specs.declared.message.Message.{Message}
use Rattle.salvaging.specs.declared.treatment.Treated.{Treated}
use Rattle.salvaging.specs.declared.treatment.Treatment.TheVariants.{Stranger}
use Rattle.salvage_reports.specs.steps.Counted.{HasNumber, counted_of}
use Rattle.salvage_reports.proofs.PairedLists.{all_within, next_pair, one_more}
use Rattle.salvage_reports.proofs.hart_rows.all_counted.Goals as goal

-- What a place past the end reads as.
abbrev any : Treated
any = record { treatment = Stranger; far = false; late = false }

pub loop-at-preserved : goal.loop-at-preserved
loop-at-preserved g c =
    let messages = c.args.messages.now in
    let treated = c.args.treated.now in
    let i = c.loop-at.at in
    let first : i < length messages = grind (arith, common_steps) in
    let second : i < length treated = grind (arith, common_steps) in
    let m = c.index-messages-at.result in
    let element : m ≡ get_or messages i m = c.index-messages-at.is in
    record {
      value = c.in_ok-push.ensures.items ∙ ap (λ l. l ++ c.counted_of.result ∷ []) c.loop-at.invariant.value
          ∙ ap (λ one. map counted_of (take i (zip messages treated)) ++ one ∷ []) c.counted_of.ensures.value
          ∙ ap (λ (y : Message). map counted_of (take i (zip messages treated)) ++ counted_of (y, get_or treated i any) ∷ [])
          element ∙ sym (one_more messages treated i m any first second counted_of);
      ranges = subst (All HasNumber) (sym (next_pair messages treated i m any first second))
          (All-push HasNumber (take i (zip messages treated)) (get_or messages i m, get_or treated i any)
          c.loop-at.invariant.ranges
          (subst (λ (y : Message). HasNumber (y, get_or treated i any)) element c.counted_of.ensures.range));
    }

pub returns-clause-value : goal.returns-clause-value
returns-clause-value g c =
    let messages = c.args.messages.now in
    let treated = c.args.treated.now in
    let end : c.loop-at.at ≡ min (length messages) (length treated) = omega arith in
    c.loop-at.invariant.value ∙ ap (map counted_of) (all_within messages treated c.loop-at.at end)

pub returns-clause-ranges : goal.returns-clause-ranges
returns-clause-ranges g c =
    let messages = c.args.messages.now in
    let treated = c.args.treated.now in
    let end : c.loop-at.at ≡ min (length messages) (length treated) = omega arith in
    subst (All HasNumber) (all_within messages treated c.loop-at.at end) c.loop-at.invariant.ranges
