-- The numbers so far and one more are a lemma on lists.
use Rattle.std.proofs.Common.{rules, ◌≡◌, ◌+◌, ◌∷◌, suc, ap, arith, length, refl, sym, ◌∙◌}
use Rattle.std.proofs.lemmas.List.{length-drop}
use Rattle.salvaging.specs.steps.Arrivals.{arrivals_in}
use Rattle.salvaging.specs.steps.Grouping.{entries_by, entry_of}
use Rattle.salvaging.proofs.FlaggedNumbers.{flagged_end, flagged_next, flagged_start}
use Rattle.salvaging.proofs.TakenSoFar.{behind, behind-is}
use Rattle.salvaging.proofs.far.flagged_numbers.Goals as goal

pub loop-entry-init : goal.loop-entry-init
loop-entry-init g c = record {
  shorter = omega arith;
  so = flagged_start (entries_by (arrivals_in c.args.came.now)) c.args.flags.now c.new-numbers.result.items c.requires
      c.new-numbers.ensures.items;
}

pub loop-entry-preserved : goal.loop-entry-preserved
loop-entry-preserved g c =
    let rest = c.loop-entry.rest.now in
    let count = c.in-Some.count in
    let is = behind-is rest count in
    let parted = c.in-Some.ensures.first
    ∙ sym (ap (λ l. entry_of c.in-Some.entry ∷ entries_by (arrivals_in l)) is) in
    let long = ap length is ∙ length-drop count rest in
    let shorter = c.loop-entry.invariant.shorter in
    let at = c.loop-entry.at in
    let one_more : at + 1 ≡ suc at = omega arith in
    record {
      shorter = omega (arith, long, shorter);
      so = flagged_next (entries_by (arrivals_in c.args.came.now)) c.args.flags.now (entries_by (arrivals_in rest)) at
          c.loop-entry.numbers.items c.loop-entry.invariant.so (entry_of c.in-Some.entry)
          (entries_by (arrivals_in (behind rest count))) parted _ _ refl c.number_of.result c.number_of.ensures _
          c.in_ok-push_if.ensures (at + 1) one_more;
    }

pub returns : goal.returns
returns g c =
    flagged_end (entries_by (arrivals_in c.args.came.now)) c.args.flags.now (entries_by (arrivals_in c.loop-entry.rest.now))
    c.loop-entry.at c.loop-entry.numbers.items c.loop-entry.invariant.so (search rules)
