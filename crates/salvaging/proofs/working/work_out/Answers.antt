-- A hart is worked through by the steps, which lemmas put together.
use Rattle.std.proofs.Common.{◌≡◌, ◌<◌, ◌≤◌, ◌++◌, drop, length, map, take, sym, ap, subst, ◌∙◌, arith}
use Rattle.std.proofs.Math.Seq.{take-append_seam}
use Rattle.std.proofs.lemmas.Grind.{common_steps}
use Rattle.std.proofs.lemmas.List.Sorted.{All-permutation}
use Rattle.std.specs.List.Sorted.{IsPermutation}
use Rattle.rvclass.specs.Fetch.{words_of}
use Rattle.losses.specs.Apart.{AreRising}
use Rattle.message.specs.Harts.{end_of_numbers}
use Rattle.salvaging.specs.Entries.{entry_number}
use Rattle.salvaging.specs.Leaving.{own_mode}
use Rattle.salvaging.specs.steps.Arrivals.{Arrival, AreOrdered, HaveNumbers, arrivals_in}
use Rattle.salvaging.specs.steps.Ending.{TakesBeyond}
use Rattle.salvaging.specs.steps.Grouping.{AreSmall, entries_by}
use Rattle.salvaging.proofs.CutLemmas.{mode_of_front, rising_front, small_front}
use Rattle.salvaging.proofs.FarLaws.{placed_in_order}
use Rattle.salvaging.proofs.GroupedEntries.{entries_are}
use Rattle.salvaging.proofs.HartSalvaged.{hart_does, hart_left, hart_marks, hart_shares, worked_in}
use Rattle.salvaging.proofs.SmallEntries.{entries_small}
use Rattle.salvaging.proofs.SortedOut.{own_again}
use Rattle.salvaging.proofs.TakenSoFar.{behind-is}
use Rattle.salvaging.proofs.working.work_out.Goals.{After-as_slice-ordered}
use Rattle.salvaging.proofs.working.work_out.Goals as goal

module _ (g : _) (c : After-as_slice-ordered g) where
  -- The list is what was put in order.
  in_order : c.as_slice-ordered.result.now ≡ c.put_in_order.new.came
  in_order =
      let new = c.put_in_order.new.came in
      let rest = drop (length new) c.args.came.items in
      let count : c.args.came.len ≡ length new = grind (arith, common_steps) in
      c.as_slice-ordered.ensures.value ∙ subst (λ n. take n (new ++ rest) ≡ new) (sym count)
      (take-append_seam new rest)

  -- Its messages are those that came, in the order of their numbers.
  moved : IsPermutation (arrivals_in c.args.came.items) (arrivals_in c.as_slice-ordered.result.now)
  moved =
      subst (λ l. IsPermutation (arrivals_in c.args.came.items) (arrivals_in l)) (sym in_order)
      (subst (λ l. IsPermutation (arrivals_in l) (arrivals_in c.put_in_order.new.came)) c.as_mut_slice.ensures.value
      c.put_in_order.ensures.permuted)

  ordered : AreOrdered (arrivals_in c.as_slice-ordered.result.now)
  ordered = subst (λ l. AreOrdered (arrivals_in l)) (sym in_order) c.put_in_order.ensures.ordered

  -- The entries rise, and their numbers are those that a hart may have.
  rises : AreRising 0 (map entry_number (entries_by (arrivals_in c.as_slice-ordered.result.now)))
  rises = (entries_are (arrivals_in c.as_slice-ordered.result.now) ordered).rising

  small : AreSmall (entries_by (arrivals_in c.as_slice-ordered.result.now))
  small =
      let have : HaveNumbers (arrivals_in c.as_slice-ordered.result.now) =
      All-permutation (λ (one : Arrival). one.message.number < end_of_numbers) (arrivals_in c.args.came.items)
      (arrivals_in c.as_slice-ordered.result.now) moved c.requires.numbers in
      entries_small (arrivals_in c.as_slice-ordered.result.now) have

pub far_flags-requires-clause-rising : goal.far_flags-requires-clause-rising
far_flags-requires-clause-rising g c =
    let at = goal.at.far_flags-requires-clause-rising g c in rises g at.After-as_slice-ordered

pub far_flags-requires-clause-placed : goal.far_flags-requires-clause-placed
far_flags-requires-clause-placed g c =
    let at = goal.at.far_flags-requires-clause-placed g c in
    let list = c.as_slice-ordered.result.now in
    let messages = c.requires.places in
    placed_in_order messages.0 list
    (subst (λ l. IsPermutation l (arrivals_in list)) messages.1 (moved g at.After-as_slice-ordered))
    (ordered g at.After-as_slice-ordered)

pub count_to_end-requires : goal.count_to_end-requires
count_to_end-requires g c =
    let at = goal.at.count_to_end-requires g c in rises g at.After-as_slice-ordered

pub take_all-requires-clause-rising : goal.take_all-requires-clause-rising
take_all-requires-clause-rising g c =
    let at = goal.at.take_all-requires-clause-rising g c in
    let cut = c.in_ok-end.ensures.cut in
    rising_front 0 _ _ (subst (λ es. AreRising 0 (map entry_number es)) cut.whole (rises g at.After-as_slice-ordered))

pub take_all-requires-clause-small : goal.take_all-requires-clause-small
take_all-requires-clause-small g c =
    let at = goal.at.take_all-requires-clause-small g c in
    let cut = c.in_ok-end.ensures.cut in
    small_front _ _ (subst AreSmall cut.whole (small g at.After-as_slice-ordered))

pub take_all-requires-clause-own : goal.take_all-requires-clause-own
take_all-requires-clause-own g c =
    let own = c.own_mode-own.result in
    let list = c.as_slice-ordered.result.now in
    let all = entries_by (arrivals_in list) in
    let upto = entries_by (arrivals_in (take c.in_ok-end.end list)) in
    let beyond = entries_by (arrivals_in (drop c.in_ok-end.end list)) in
    mode_of_front (words_of c.args.program.now) own own all upto beyond c.in_ok-end.ensures.cut
    ∙ ap (λ m. own_mode m all) c.own_mode-own.ensures ∙ own_again c.args.mode all ∙ sym c.own_mode-own.ensures

pub returns-clause-worked : goal.returns-clause-worked
returns-clause-worked g c =
    let words = words_of c.args.program.now in
    let own = c.own_mode-own.result in
    let list = c.as_slice-ordered.result.now in
    let end = c.in_ok-end.end in
    let upto = entries_by (arrivals_in (take end list)) in
    let beyond = entries_by (arrivals_in (drop end list)) in
    let taken = c.in_ok-outcome.outcome in
    let new = c.take_beyond.new.outcome in
    let at = (goal.at.returns-clause-worked g c).After-as_slice-ordered in
    let t = c.in_ok-outcome.ensures.taken in
    let b = subst (λ l. TakesBeyond g.M.Mark.kept words own (entries_by (arrivals_in l)) taken new) (behind-is list end)
    c.in_ok-take_beyond.ensures in
    worked_in g.M.Mark.kept words c.args.mode (arrivals_in c.args.came.items) list _ c.as_slice-ordered.ensures.value
    (record {
      permuted = moved g at;
      are_ordered = ordered g at;
      reads = c.own_mode-own.ensures;
      upto = upto;
      beyond = beyond;
      shares = hart_shares g.M.Mark.kept words own upto beyond taken new t b;
      cut = c.in_ok-end.ensures.cut;
      leaves = hart_left g.M.Mark.kept words own upto beyond taken new t b;
      does = hart_does g.M.Mark.kept words own upto beyond taken new t b;
      marks = hart_marks g.M.Mark.kept words own upto beyond taken new t b;
      closed = c.is_closed-closed.ensures;
      are_far = c.in_ok-far.ensures;
      within = subst (λ l. end ≤ length l) c.as_slice-ordered.ensures.value c.in_ok-end.ensures.within;
      upto_is = ap (λ l. entries_by (arrivals_in (take end l))) c.as_slice-ordered.ensures.value;
    })
