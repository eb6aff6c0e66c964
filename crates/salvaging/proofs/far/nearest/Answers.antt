-- Whether the next number has a neighbour, and what the most is then, is found by lemmas on entries.
use Rattle.std.proofs.Common.{rules, ◌≡◌, ◌+◌, ◌||◌, ◌∷◌, Some, suc, ap, arith, length, refl, sym, ◌∙◌}
use Rattle.std.proofs.lemmas.List.{length-drop}
use Rattle.salvaging.specs.steps.Arrivals.{arrivals_in}
use Rattle.salvaging.specs.steps.Farness.{follows, is_followed}
use Rattle.salvaging.specs.steps.Grouping.{entries_by, entry_of}
use Rattle.salvaging.proofs.Neighbours.{near_end, near_next, near_start}
use Rattle.salvaging.proofs.TakenSoFar.{behind, behind-is}
use Rattle.salvaging.proofs.far.nearest.Goals as goal

pub loop-entry-init : goal.loop-entry-init
loop-entry-init c = record {
  shorter = omega arith;
  so = near_start (entries_by (arrivals_in c.args.came.now));
}

pub loop-entry-preserved : goal.loop-entry-preserved
loop-entry-preserved c =
    let rest = c.loop-entry.rest.now in
    let count = c.in-Some.count in
    let is = behind-is rest count in
    let parted = c.in-Some.ensures.first
    ∙ sym (ap (λ l. entry_of c.in-Some.entry ∷ entries_by (arrivals_in l)) is) in
    let long = ap length is ∙ length-drop count rest in
    let shorter = c.loop-entry.invariant.shorter in
    let at = c.loop-entry.at in
    let one_more : at + 1 ≡ suc at = omega arith in
    record {
      shorter = omega (arith, long, shorter);
      so = near_next (entries_by (arrivals_in c.args.came.now)) (entries_by (arrivals_in rest)) c.loop-entry.most
          c.loop-entry.before at c.loop-entry.invariant.so c.requires.rising (entry_of c.in-Some.entry)
          (entries_by (arrivals_in (behind rest count))) parted c.args.counts.now c.requires.counted _ 0 refl
          c.has_neighbour-is_near.result
          (c.has_neighbour-is_near.ensures ∙ ap (λ n. follows c.loop-entry.before n
          || is_followed n (entries_by (arrivals_in (behind rest count)))) c.number_of-number.ensures)
          c.greater_of-most.result c.greater_of-most.ensures (Some c.number_of-number.result)
          (ap Some c.number_of-number.ensures) (at + 1) one_more;
    }

pub returns : goal.returns
returns c =
    near_end (entries_by (arrivals_in c.args.came.now)) (entries_by (arrivals_in c.loop-entry.rest.now)) c.loop-entry.most
    c.loop-entry.before c.loop-entry.at c.loop-entry.invariant.so (search rules)
