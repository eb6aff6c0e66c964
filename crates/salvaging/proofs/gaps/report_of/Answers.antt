-- What is reported of one entry more is a lemma on lists.
use Rattle.std.proofs.Common.{rules, ◌≡◌, ◌<◌, ◌+◌, ◌∷◌, suc, ap, arith, length, refl, subst, sym, ◌∙◌}
use Rattle.std.proofs.lemmas.List.{length-drop}
use Rattle.std.proofs.lemmas.List.Elements.{All-head, All-tail}
use Rattle.message.specs.Harts.{end_of_numbers}
use Rattle.salvaging.specs.Entries.{Entry, entry_number}
use Rattle.salvaging.specs.steps.Arrivals.{arrivals_in}
use Rattle.salvaging.specs.steps.Grouping.{AreSmall, entries_by, entry_of}
use Rattle.salvaging.specs.steps.Marks.{far_verdict}
use Rattle.salvaging.proofs.GapSteps.{far_end, far_next, far_start, gaps_end, gaps_next, gaps_start}
use Rattle.salvaging.proofs.TakenSoFar.{behind, behind-is}
use Rattle.salvaging.proofs.gaps.report_of.Goals as goal

abbrev IsSmall : Entry → Type 0
IsSmall entry = entry_number entry < end_of_numbers

pub loop-entry-init : goal.loop-entry-init
loop-entry-init g c = record {
  shorter = omega arith;
  gaps = gaps_start (entries_by (arrivals_in c.args.came.now)) c.args.far.now c.new-gaps.result.items c.requires.far
      c.new-gaps.ensures.items;
  far = far_start far_verdict (entries_by (arrivals_in c.args.came.now)) c.args.verdicts.now c.args.far.now
      c.new-numbers.result.items c.requires.verdicts c.requires.far c.new-numbers.ensures.items;
  small = c.requires.small;
}

pub loop-entry-preserved : goal.loop-entry-preserved
loop-entry-preserved g c =
    let all = entries_by (arrivals_in c.args.came.now) in
    let rest = c.loop-entry.rest.now in
    let count = c.in-Some.count in
    let is = behind-is rest count in
    let entry = entry_of c.in-Some.entry in
    let later = entries_by (arrivals_in (behind rest count)) in
    let parted : entries_by (arrivals_in rest) ≡ entry ∷ later = c.in-Some.ensures.first
    ∙ sym (ap (λ l. entry ∷ entries_by (arrivals_in l)) is) in
    let long = ap length is ∙ length-drop count rest in
    let inv = c.loop-entry.invariant in
    let shorter = inv.shorter in
    let at = c.loop-entry.at in
    let after : at + 1 ≡ suc at = omega arith in
    record {
      shorter = omega (arith, long, shorter);
      gaps = gaps_next all c.args.far.now (entries_by (arrivals_in rest)) at c.loop-entry.next
          c.loop-entry.report.gaps.items inv.gaps entry later parted _ _ refl _ c.in_ok-push_gap.ensures
          c.believed_behind-next.result c.believed_behind-next.ensures (at + 1) after;
      far = far_next far_verdict all c.args.verdicts.now c.args.far.now (entries_by (arrivals_in rest)) at
          c.loop-entry.report.far.items inv.far entry later parted _ _ refl _ _ refl _ c.in_ok-push_far.ensures
          (at + 1) after;
      small = All-tail IsSmall entry later (subst AreSmall parted inv.small);
    }

pub believed_behind-next-requires : goal.believed_behind-next-requires
believed_behind-next-requires g c =
    All-head IsSmall (entry_of c.in-Some.entry) _ (subst AreSmall c.in-Some.ensures.first c.loop-entry.invariant.small)

pub returns-clause-gaps : goal.returns-clause-gaps
returns-clause-gaps g c =
    gaps_end (entries_by (arrivals_in c.args.came.now)) c.args.far.now (entries_by (arrivals_in c.loop-entry.rest.now))
    c.loop-entry.at c.loop-entry.next c.loop-entry.report.gaps.items c.loop-entry.invariant.gaps (search rules)

pub returns-clause-far : goal.returns-clause-far
returns-clause-far g c =
    far_end far_verdict (entries_by (arrivals_in c.args.came.now)) c.args.verdicts.now c.args.far.now
    (entries_by (arrivals_in c.loop-entry.rest.now)) c.loop-entry.at c.loop-entry.report.far.items
    c.loop-entry.invariant.far (search rules)
