-- What is done with the messages of a hart is put together from what was worked out, by lemmas.
use Rattle.std.proofs.Common.{◌≡◌, Contains, length, map, sym, ap, subst, ◌∙◌}
use Rattle.std.proofs.lemmas.List.{map-id}
use Rattle.std.proofs.lemmas.List.Elements.{All-contains}
use Rattle.std.specs.List.Sorted.{IsPermutation}
use Rattle.rvclass.specs.Fetch.{words_of}
use Rattle.losses.specs.Apart.{AreRising}
use Rattle.message.specs.declared.message.Message.{Message}
use Rattle.salvaging.specs.Ends.{AreCutAtEnd}
use Rattle.salvaging.specs.Entries.{entry_number}
use Rattle.salvaging.specs.Shares.{HartShares}
use Rattle.salvaging.specs.Treatments.{rows, treatment_of}
use Rattle.salvaging.specs.declared.treatment.Treatment.{Treatment}
use Rattle.salvaging.specs.steps.Arrivals.{arrivals_in}
use Rattle.salvaging.specs.steps.Grouping.{entries_by}
use Rattle.salvaging.specs.steps.Rows.{AreRowsBack, numbers_in}
use Rattle.salvaging.proofs.GroupedMessages.{entries_of_messages}
use Rattle.salvaging.proofs.HartSalvaged.{far_count, worked_count}
use Rattle.salvaging.proofs.SortedOut.{rows_numbers}
use Rattle.salvaging.proofs.sorting_out.sort_out.Goals as goal

-- All of what is done is kept.
abbrev own : Treatment → Treatment
own treatment = treatment

pub rows_back-requires-clause-treatments : goal.rows_back-requires-clause-treatments
rows_back-requires-clause-treatments g c =
    let k = c.in_ok-worked.ensures.worked in
    ap length c.as_slice-2.ensures.value
    ∙ worked_count own (words_of c.args.program.now) c.args.mode _ _ c.in_ok-worked.worked k
    ∙ sym (ap (λ l. length (entries_by (arrivals_in l))) c.as_slice.ensures.value)

pub rows_back-requires-clause-far : goal.rows_back-requires-clause-far
rows_back-requires-clause-far g c =
    let k = c.in_ok-worked.ensures.worked in
    ap length c.as_slice-3.ensures.value ∙ far_count _ c.in_ok-worked.worked.far.items k.are_far
    ∙ sym (worked_count own (words_of c.args.program.now) c.args.mode _ _ c.in_ok-worked.worked k)
    ∙ sym (ap length c.as_slice-2.ensures.value)

pub returns-clause-sorted : goal.returns-clause-sorted
returns-clause-sorted g c = λ messages placed.
    let words = words_of c.args.program.now in
    let worked = c.in_ok-worked.worked in
    let came = arrivals_in worked.came.items in
    let all = entries_by came in
    let k = c.in_ok-worked.ensures.worked in
    let permuted = subst (λ l. IsPermutation l came) placed k.permuted in
    let are_entries = entries_of_messages messages came permuted k.are_ordered in
    let long = worked_count own words c.args.mode _ _ worked k in
    let treated : worked.marks.items ≡ map treatment_of k.shares = k.marks ∙ map-id (map treatment_of k.shares) in
    let far = k.are_far.among in
    let numbers = ap (λ ts. numbers_in (rows far all ts)) (sym treated)
    ∙ rows_numbers far all worked.marks.items long in
    let back = c.in_ok-rows.ensures far (c.as_slice-3.ensures.value ∙ k.are_far.are_among
    ∙ sym (ap (λ l. map far (entries_by (arrivals_in l))) c.as_slice.ensures.value)) in
    record {
      treats = record {
        entries = all;
        upto = k.upto;
        beyond = k.beyond;
        shares = k.shares;
        are_entries = are_entries;
        cut = subst (λ m. AreCutAtEnd words m all k.upto k.beyond) k.reads k.cut;
        are_shares = subst (λ m. HartShares words m k.upto k.beyond k.shares) k.reads k.does;
        far = worked.far.items;
        are_far = k.are_far;
      };
      permuted = permuted;
      ordered = k.are_ordered;
      back = subst (λ ts. AreRowsBack (rows far all ts) c.in_ok-rows.rows.items) (c.as_slice-2.ensures.value ∙ treated)
          (subst (λ l. AreRowsBack (rows far (entries_by (arrivals_in l)) c.as_slice-2.result.now)
          c.in_ok-rows.rows.items) c.as_slice.ensures.value back);
      rising = subst (AreRising 0) (sym numbers) are_entries.rising;
      among = λ message there. subst (λ l. Contains l message.number) (sym numbers)
          (All-contains (λ (m : Message). Contains (map entry_number all) m.number) messages message
          are_entries.none_left_out there);
    }
