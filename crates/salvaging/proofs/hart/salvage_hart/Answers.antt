-- What is salvaged is put together from the steps, by lemmas.
use Rattle.std.proofs.Common.{◌≡◌, ◌≤◌, ◌∙◌, false, refl, arith, length, map, sym, take, ap, subst}
use Rattle.std.proofs.lemmas.List.{length-map}
use Rattle.std.proofs.lemmas.List.Sorted.{length_permutation}
use Rattle.std.specs.List.Sorted.{IsPermutation}
use Rattle.std.specs.Prelude.{count_by}
use Rattle.rvclass.specs.Fetch.{words_of}
use Rattle.salvaging.specs.Copies.{AreCopies}
use Rattle.salvaging.specs.Ends.{AreCutAtEnd, HartLeaves}
use Rattle.salvaging.specs.Far.{believed}
use Rattle.salvaging.specs.FarGaps.{far_among, reported_gaps}
use Rattle.salvaging.specs.Late.{late}
use Rattle.salvaging.specs.PartsIn.{parts_in}
use Rattle.salvaging.specs.Shares.{HartShares}
use Rattle.salvaging.specs.Tallies.{passed}
use Rattle.salvaging.specs.TreatedCounts.{makes_passed, makes_taken}
use Rattle.salvaging.specs.Treatments.{treatment_of}
use Rattle.salvaging.specs.steps.Arrivals.{arrival_of, arrivals_in, placed_from}
use Rattle.salvaging.specs.steps.Grouping.{entries_by}
use Rattle.salvaging.specs.steps.Marks.{far_verdict, is_good, is_passed, is_taken, verdict_of}
use Rattle.salvaging.specs.steps.Trails.{goods_of}
use Rattle.salvaging.specs.steps.Working.{IsWorkedOut}
use Rattle.salvaging.proofs.Distributed.{length-placed}
use Rattle.salvaging.proofs.GroupedMessages.{copies_of_messages, entries_of_messages}
use Rattle.salvaging.proofs.HartSalvaged.{far_count, upto_few, upto_same, upto_small, worked_count, worked_used}
use Rattle.salvaging.proofs.TallySteps.{count_verdicts, far_verdicts, says_passed, says_taken, used_most, verdicts_good}
use Rattle.salvaging.proofs.TreatedTallies.{good_shares, hart_passes}
use Rattle.salvaging.proofs.hart.salvage_hart.Goals.{After-as_slice-flags}
use Rattle.salvaging.proofs.hart.salvage_hart.Goals as goal

module _ (g : _) (c : After-as_slice-flags g) where
  -- What was worked out, of the list of the messages.
  known : IsWorkedOut verdict_of (words_of c.args.program.now) c.args.mode (arrivals_in c.args.came.items)
      (arrivals_in c.as_slice-ordered.result.now) c.in_ok-worked.worked
  known =
      subst (λ l. IsWorkedOut verdict_of (words_of c.args.program.now) c.args.mode (arrivals_in c.args.came.items)
      (arrivals_in l) c.in_ok-worked.worked) (sym c.as_slice-ordered.ensures.value) c.in_ok-worked.ensures.worked

  -- There are as many verdicts and flags as numbers, and no more up to the end.
  verdicts_many : length c.as_slice-verdicts.result.now ≡ length
      (entries_by (arrivals_in c.as_slice-ordered.result.now))
  verdicts_many =
      ap length c.as_slice-verdicts.ensures.value
      ∙ worked_count verdict_of (words_of c.args.program.now) c.args.mode _ _ c.in_ok-worked.worked known

  flags_many : length c.as_slice-flags.result.now ≡ length (entries_by (arrivals_in c.as_slice-ordered.result.now))
  flags_many = ap length c.as_slice-flags.ensures.value ∙ far_count _ c.in_ok-worked.worked.far.items known.are_far

  few : length (entries_by (arrivals_in (take c.in_ok-worked.worked.end c.as_slice-ordered.result.now)))
      ≤ length (entries_by (arrivals_in c.as_slice-ordered.result.now))
  few =
      upto_few (words_of c.args.program.now) c.args.mode (arrivals_in c.args.came.items) c.as_slice-ordered.result.now
      c.in_ok-worked.worked c.as_slice-ordered.ensures.value known

pub report_of-requires-clause-small : goal.report_of-requires-clause-small
report_of-requires-clause-small g c =
    let at = (goal.at.report_of-requires-clause-small g c).After-as_slice-flags in
    upto_small (words_of c.args.program.now) c.args.mode (arrivals_in c.args.came.items) c.as_slice-ordered.result.now
    c.in_ok-worked.worked c.as_slice-ordered.ensures.value (known g at) c.requires.numbers

pub report_of-requires-clause-far : goal.report_of-requires-clause-far
report_of-requires-clause-far g c =
    let at = (goal.at.report_of-requires-clause-far g c).After-as_slice-flags in
    let upto = few g at in
    let many = flags_many g at in
    omega (arith, upto, many)

pub report_of-requires-clause-verdicts : goal.report_of-requires-clause-verdicts
report_of-requires-clause-verdicts g c =
    let at = (goal.at.report_of-requires-clause-verdicts g c).After-as_slice-flags in
    let upto = few g at in
    let many = verdicts_many g at in
    omega (arith, upto, many)

pub late-late-requires-clause-verdicts : goal.late-late-requires-clause-verdicts
late-late-requires-clause-verdicts g c =
    verdicts_many g (goal.at.late-late-requires-clause-verdicts g c).After-as_slice-flags

pub late-late-requires-clause-far : goal.late-late-requires-clause-far
late-late-requires-clause-far g c =
    let at = (goal.at.late-late-requires-clause-far g c).After-as_slice-flags in
    flags_many g at ∙ sym (verdicts_many g at)

-- The copies and the used numbers are no more than all messages.
pub overflow_sub-doubtful : goal.overflow_sub-doubtful
overflow_sub-doubtful g c =
    let few = used_most (arrivals_in c.as_slice-ordered.result.now) in
    let copies = c.copies-copies.ensures in
    let same = length-map c.as_slice-ordered.result.now arrival_of in
    omega (arith, few, copies, same)

pub overflow_sub-doubtful-2 : goal.overflow_sub-doubtful-2
overflow_sub-doubtful-2 g c =
    let worked = c.in_ok-worked.worked in
    let k = subst (λ l. IsWorkedOut verdict_of (words_of c.args.program.now) c.args.mode (arrivals_in c.args.came.items)
    (arrivals_in l) worked) (sym c.as_slice-ordered.ensures.value) c.in_ok-worked.ensures.worked in
    let few = used_most (arrivals_in c.as_slice-ordered.result.now) in
    let copies = c.copies-copies.ensures in
    let used = worked_used (words_of c.args.program.now) c.args.mode _ _ worked k c.as_slice-verdicts.result.now
    c.as_slice-verdicts.ensures.value c.tally-tally.result.used c.tally-tally.ensures.used in
    let same = length-map c.as_slice-ordered.result.now arrival_of in
    omega (arith, few, copies, used, same)

pub returns-clause-salvaged : goal.returns-clause-salvaged
returns-clause-salvaged g c = λ messages placed.
    let words = words_of c.args.program.now in
    let worked = c.in_ok-worked.worked in
    let list = c.as_slice-ordered.result.now in
    let came = arrivals_in list in
    let all = entries_by came in
    let k = subst (λ l. IsWorkedOut verdict_of words c.args.mode (arrivals_in c.args.came.items) (arrivals_in l) worked)
    (sym c.as_slice-ordered.ensures.value) c.in_ok-worked.ensures.worked in
    let permuted = subst (λ l. IsPermutation l came) placed k.permuted in
    let verdicts : c.as_slice-verdicts.result.now ≡ map verdict_of (map treatment_of k.shares) =
    c.as_slice-verdicts.ensures.value ∙ k.marks in
    let upto = upto_same words c.args.mode (arrivals_in c.args.came.items) list worked
    c.as_slice-ordered.ensures.value k in
    let flags : c.as_slice-flags.result.now ≡ worked.far.items = c.as_slice-flags.ensures.value in
    let passes = c.tally-tally.ensures.passed ∙ ap (count_by is_passed) verdicts
    ∙ count_verdicts is_passed makes_passed says_passed k.shares in
    let takes = c.tally-tally.ensures.decoded ∙ ap (count_by is_taken) verdicts
    ∙ count_verdicts is_taken makes_taken says_taken k.shares in
    record {
      entries = all;
      upto = k.upto;
      beyond = k.beyond;
      goods = goods_of k.shares;
      are_entries = entries_of_messages messages came permuted k.are_ordered;
      reads = k.reads;
      cut = subst (λ m. AreCutAtEnd words m all k.upto k.beyond) k.reads k.cut;
      parts = subst (λ m. HartLeaves words m k.upto k.beyond (goods_of k.shares) (parts_in worked.parts.items)) k.reads
          k.leaves;
      copies = subst (AreCopies messages) (sym c.copies-copies.ensures)
          (copies_of_messages messages came permuted k.are_ordered);
      shares = k.shares;
      does = subst (λ m. HartShares words m k.upto k.beyond k.shares) k.reads k.does;
      goods_are = refl;
      flags = worked.far.items;
      are_far = k.are_far;
      gaps = c.in_ok-report.ensures.gaps ∙ ap (λ es. reported_gaps 0 es c.as_slice-flags.result.now) upto
          ∙ ap (reported_gaps 0 k.upto) flags;
      far = c.in_ok-report.ensures.far
          ∙ ap (λ es. far_among far_verdict es c.as_slice-verdicts.result.now c.as_slice-flags.result.now) upto
          ∙ ap (λ vs. far_among far_verdict k.upto vs c.as_slice-flags.result.now) verdicts
          ∙ ap (far_among far_verdict k.upto (map verdict_of (map treatment_of k.shares))) flags
          ∙ far_verdicts k.upto k.shares worked.far.items;
      late = c.late-late.ensures ∙ ap (λ vs. late all (believed (map is_good vs) c.as_slice-flags.result.now)) verdicts
          ∙ ap (λ gs. late all (believed gs c.as_slice-flags.result.now)) (verdicts_good k.shares)
          ∙ ap (λ fs. late all (believed (goods_of k.shares) fs)) flags;
      closed = k.closed;
      tallied =
          let few = used_most came in
          let copies = c.copies-copies.ensures in
          let used = worked_used words c.args.mode _ _ worked k c.as_slice-verdicts.result.now
          c.as_slice-verdicts.ensures.value c.tally-tally.result.used c.tally-tally.ensures.used in
          let same = length-map list arrival_of in
          let long = length_permutation (placed_from 0 messages) came permuted in
          let placed_count = length-placed 0 messages in
          let both = good_shares k.shares in
          record {
            passed = passes ∙ hart_passes words worked.mode k.upto k.beyond k.shares k.does (goods_of k.shares) refl
                ∙ sym (ap (λ es. passed false 0 es (goods_of k.shares)) k.cut.whole);
            decoded = omega (arith, passes, takes, both);
            doubtful = omega (arith, few, copies, used, same, long, placed_count);
          };
    }
