-- What is put in order are the messages with their places, and their far numbers are found by lemmas.
use Rattle.std.proofs.Common.{◌≡◌, ◌++◌, drop, length, sym, ap, arith, subst, take, ◌∙◌}
use Rattle.std.proofs.Math.Seq.{take-append_seam}
use Rattle.std.proofs.lemmas.Grind.{common_steps}
use Rattle.std.specs.List.Sorted.{IsPermutation}
use Rattle.salvaging.specs.Entries.{AreEntries}
use Rattle.salvaging.specs.Far.{numbers_of}
use Rattle.salvaging.specs.steps.Arrivals.{AreOrdered, arrivals_in, placed_from}
use Rattle.salvaging.specs.steps.Grouping.{entries_by}
use Rattle.salvaging.proofs.FarLaws.{placed_in_order}
use Rattle.salvaging.proofs.GroupedMessages.{entries_of_messages}
use Rattle.salvaging.proofs.HartSalvaged.{far_count}
use Rattle.salvaging.proofs.far.far_numbers.Goals.{After-as_slice-ordered}
use Rattle.salvaging.proofs.far.far_numbers.Goals as goal

module _ (g : _) (c : After-as_slice-ordered g) where
  -- The list is what was put in order.
  in_order : c.as_slice-ordered.result.now ≡ c.put_in_order.new.came
  in_order =
      let new = c.put_in_order.new.came in
      let rest = drop (length new) c.in_ok-came.came.items in
      let count : c.in_ok-came.came.len ≡ length new = grind (arith, common_steps) in
      c.as_slice-ordered.ensures.value ∙ subst (λ n. take n (new ++ rest) ≡ new) (sym count)
      (take-append_seam new rest)

  moved : IsPermutation (placed_from 0 c.args.messages.now) (arrivals_in c.as_slice-ordered.result.now)
  moved =
      subst (λ l. IsPermutation (placed_from 0 c.args.messages.now) (arrivals_in l)) (sym in_order)
      (subst (λ l. IsPermutation l (arrivals_in c.put_in_order.new.came))
      (ap arrivals_in c.as_mut_slice.ensures.value ∙ c.in_ok-came.ensures) c.put_in_order.ensures.permuted)

  ordered : AreOrdered (arrivals_in c.as_slice-ordered.result.now)
  ordered = subst (λ l. AreOrdered (arrivals_in l)) (sym in_order) c.put_in_order.ensures.ordered

  entries : AreEntries c.args.messages.now (entries_by (arrivals_in c.as_slice-ordered.result.now))
  entries = entries_of_messages c.args.messages.now (arrivals_in c.as_slice-ordered.result.now) moved ordered

pub far_flags-requires-clause-rising : goal.far_flags-requires-clause-rising
far_flags-requires-clause-rising g c =
    let at = goal.at.far_flags-requires-clause-rising g c in (entries g at.After-as_slice-ordered).rising

pub far_flags-requires-clause-placed : goal.far_flags-requires-clause-placed
far_flags-requires-clause-placed g c =
    let at = goal.at.far_flags-requires-clause-placed g c in
    placed_in_order c.args.messages.now c.as_slice-ordered.result.now (moved g at.After-as_slice-ordered)
    (ordered g at.After-as_slice-ordered)

pub flagged_numbers-requires : goal.flagged_numbers-requires
flagged_numbers-requires g c =
    ap length c.as_slice.ensures.value
    ∙ far_count (entries_by (arrivals_in c.as_slice-ordered.result.now)) c.in_ok-far.far.items c.in_ok-far.ensures

pub returns : goal.returns
returns g c =
    let at = goal.at.returns g c in
    let all = entries_by (arrivals_in c.as_slice-ordered.result.now) in
    record {
      entries = all;
      far = c.in_ok-far.far.items;
      are_entries = entries g at.After-as_slice-ordered;
      are_far = c.in_ok-far.ensures;
      are_numbers = c.in_ok-numbers.ensures ∙ ap (numbers_of all) c.as_slice.ensures.value;
    }
