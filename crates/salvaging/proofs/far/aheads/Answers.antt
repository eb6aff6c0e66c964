-- Of how many messages the next one is ahead is found by lemmas on entries.
use Rattle.std.proofs.Common.{rules, ◌<◌, ◌^◌, ◌∷◌, ap, sym, arith, length, ◌∙◌}
use Rattle.std.proofs.lemmas.List.{length-drop}
use Rattle.salvaging.specs.steps.Arrivals.{arrivals_in}
use Rattle.salvaging.specs.steps.Grouping.{entries_by, entry_of}
use Rattle.salvaging.proofs.AheadSteps.{ahead_next, ahead_start, all_ahead, can_take, few_ahead}
use Rattle.salvaging.proofs.TakenSoFar.{behind, behind-is}
use Rattle.salvaging.proofs.far.aheads.Goals as goal

pub loop-entry-init : goal.loop-entry-init
loop-entry-init g c = record {
  so = ahead_start (entries_by (arrivals_in c.args.came.now)) (length c.args.came.now) c.in_ok-places.places
      c.in_ok-counts.counts.items c.in_ok-places.ensures.none c.in_ok-places.ensures.count (search rules);
  room = search rules;
}

pub take_entry-requires : goal.take_entry-requires
take_entry-requires g c =
    let small : length c.args.came.now < 2 ^ 63 = search rules in
    can_take (entries_by (arrivals_in c.args.came.now)) (length c.args.came.now) c.loop-entry.places
    c.loop-entry.counts.items (entries_by (arrivals_in c.loop-entry.rest.now)) (length c.loop-entry.rest.now)
    c.loop-entry.invariant.so c.requires.rising c.requires.placed small (entry_of c.in-Some.entry) _ c.in-Some.ensures.first

pub loop-entry-preserved : goal.loop-entry-preserved
loop-entry-preserved g c =
    let small : length c.args.came.now < 2 ^ 63 = search rules in
    let rest = c.loop-entry.rest.now in
    let count = c.in-Some.count in
    let is = behind-is rest count in
    let parted = c.in-Some.ensures.first
    ∙ sym (ap (λ l. entry_of c.in-Some.entry ∷ entries_by (arrivals_in l)) is) in
    let long = ap length is ∙ length-drop count rest in
    let some = c.in-Some.ensures.some in
    let within = c.in-Some.ensures.within in
    record {
      so = ahead_next (entries_by (arrivals_in c.args.came.now)) (length c.args.came.now) c.loop-entry.places
          c.loop-entry.counts.items (entries_by (arrivals_in rest)) (length rest)
          c.loop-entry.invariant.so c.requires.rising c.requires.placed small (entry_of c.in-Some.entry) _ parted
          c.take_entry.new.places c.take_entry.result c.take_entry.ensures c.push_reserved.new.self.items
          c.push_reserved.ensures.items (length (behind rest count)) (omega (arith, long, some, within));
      room = search rules;
    }

pub returns-clause-counts : goal.returns-clause-counts
returns-clause-counts g c =
    all_ahead (entries_by (arrivals_in c.args.came.now)) (length c.args.came.now) c.loop-entry.places
    c.loop-entry.counts.items (entries_by (arrivals_in c.loop-entry.rest.now)) (length c.loop-entry.rest.now)
    c.loop-entry.invariant.so (search rules)

pub returns-clause-few : goal.returns-clause-few
returns-clause-few g c =
    few_ahead (entries_by (arrivals_in c.args.came.now)) (length c.args.came.now) c.loop-entry.places
    c.loop-entry.counts.items (entries_by (arrivals_in c.loop-entry.rest.now)) (length c.loop-entry.rest.now)
    c.loop-entry.invariant.so
