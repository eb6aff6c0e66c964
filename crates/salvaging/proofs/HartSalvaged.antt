-- What is salvaged of a hart is put together.
use Rattle.std.proofs.Common.{◌≡◌, ◌<◌, ◌≤◌, ℕ, ◌++◌, Bool, List, length, map, refl, subst, sym, take, ap, ◌∙◌, arith}
use Rattle.std.proofs.lemmas.List.{length-append, length-map, map-append}
use Rattle.std.proofs.lemmas.List.Sorted.{All-permutation}
use Rattle.std.specs.Prelude.{count_by}
use Rattle.rvclass.specs.Words.{Words}
use Rattle.payload.specs.declared.mode.Mode.{Mode}
use Rattle.message.specs.Harts.{end_of_numbers}
use Rattle.salvaging.specs.Ends.{HartLeaves}
use Rattle.salvaging.specs.Entries.{Entry}
use Rattle.salvaging.specs.Far.{AreFar}
use Rattle.salvaging.specs.PartsIn.{parts_in}
use Rattle.salvaging.specs.Shares.{HartShares, Share}
use Rattle.salvaging.specs.Tallies.{used_count}
use Rattle.salvaging.specs.Treatments.{treatment_of}
use Rattle.salvaging.specs.declared.mark.Verdict.{Verdict}
use Rattle.salvaging.specs.declared.received.ReceivedMessage.{ReceivedMessage}
use Rattle.salvaging.specs.declared.trail.HartOutcome.{HartOutcome}
use Rattle.salvaging.specs.declared.treatment.Treatment.{Treatment}
use Rattle.salvaging.specs.declared.working.WorkedHart.{WorkedHart}
use Rattle.salvaging.specs.steps.Arrivals.{Arrival, HaveNumbers, arrivals_in}
use Rattle.salvaging.specs.steps.Ending.{TakesBeyond, share_of_part}
use Rattle.salvaging.specs.steps.Grouping.{AreSmall, entries_by}
use Rattle.salvaging.specs.steps.Marks.{is_used, verdict_of}
use Rattle.salvaging.specs.steps.Trails.{TakesAll, goods_of}
use Rattle.salvaging.specs.steps.Working.{IsWorkedOut}
use Rattle.salvaging.proofs.BeyondLemmas.{all_share_beyond}
use Rattle.salvaging.proofs.CutLemmas.{small_front}
use Rattle.salvaging.proofs.GoodsTreated.{beyond_good, goods_append}
use Rattle.salvaging.proofs.PartsTreated.{hart_many}
use Rattle.salvaging.proofs.SmallEntries.{entries_small}
use Rattle.salvaging.proofs.TallySteps.{count_verdicts, hart_used, is_used_by}

-- What was taken up to the end and beyond it is what the hart leaves and does.
module _ {A M : Type 0} (kept : Treatment → M) (words : Words) (mode : Mode) (upto beyond : List Entry)
    (taken new : HartOutcome A M) (t : TakesAll kept words mode upto taken)
    (b : TakesBeyond kept words mode beyond taken new) where
  abbrev after : List Share
  after = map share_of_part b.after

  abbrev pub hart_shares : List Share
  hart_shares = t.shares ++ after

  pub hart_does : HartShares words mode upto beyond hart_shares
  hart_does = record {
    first = t.shares;
    after = after;
    shares_upto = t.share;
    shares_beyond = all_share_beyond words mode beyond b.after b.leaves;
    whole = refl;
  }

  pub hart_left : HartLeaves words mode upto beyond (goods_of hart_shares) (parts_in new.parts.items)
  hart_left = record {
    good_first = goods_of t.shares;
    first = parts_in taken.parts.items;
    after = b.after;
    leaves = t.leaves;
    beyond_leaves = b.leaves;
    goods_are = goods_append t.shares after ∙ ap (λ l. goods_of t.shares ++ l)
        (sym (beyond_good words mode beyond after (all_share_beyond words mode beyond b.after b.leaves)));
    parts_are = b.parts;
  }

  pub hart_marks : new.marks.items ≡ map kept (map treatment_of hart_shares)
  hart_marks =
      b.marks ∙ ap (λ l. l ++ map kept (map treatment_of after)) t.marks
      ∙ sym (map-append kept (map treatment_of t.shares) (map treatment_of after))
      ∙ ap (map kept) (sym (map-append treatment_of t.shares after))

-- The messages of a hart are those of its list.
pub worked_in : {A M : Type 0} (kept : Treatment → M) (words : Words) (mode : Mode) (came : List Arrival)
    (list : List ReceivedMessage) (hart : WorkedHart A M) → list ≡ hart.came.items
    → IsWorkedOut kept words mode came (arrivals_in list) hart
    → IsWorkedOut kept words mode came (arrivals_in hart.came.items) hart
worked_in kept words mode came list hart is k = subst (λ l. IsWorkedOut kept words mode came (arrivals_in l) hart) is k

-- Something is kept for each number.
pub worked_count : {A M : Type 0} (kept : Treatment → M) (words : Words) (mode : Mode) (came ordered : List Arrival)
    (hart : WorkedHart A M) → IsWorkedOut kept words mode came ordered hart
    → length hart.marks.items ≡ length (entries_by ordered)
worked_count kept words mode came ordered hart k =
    ap length k.marks ∙ length-map (map treatment_of k.shares) kept ∙ length-map k.shares treatment_of
    ∙ hart_many words hart.mode k.upto k.beyond k.shares k.does ∙ sym (ap length k.cut.whole)

-- Of each number it is said whether it is far.
pub far_count : (entries : List Entry) (flags : List Bool) → AreFar entries flags → length flags ≡ length entries
far_count entries flags f = ap length f.are_among ∙ length-map entries f.among

-- As many verdicts are of used numbers as numbers are used.
pub worked_used : {A : Type 0} (words : Words) (mode : Mode) (came ordered : List Arrival) (hart : WorkedHart A Verdict)
    → IsWorkedOut verdict_of words mode came ordered hart → (verdicts : List Verdict) → verdicts ≡ hart.marks.items
    → (used : ℕ) → used ≡ count_by is_used verdicts → used ≡ used_count (entries_by ordered)
worked_used words mode came ordered hart k verdicts same used counted =
    counted ∙ ap (count_by is_used) (same ∙ k.marks) ∙ count_verdicts is_used is_used_by (λ share. refl) k.shares
    ∙ hart_used words hart.mode k.upto k.beyond k.shares k.does ∙ sym (ap used_count k.cut.whole)

-- The entries up to the end of a hart that was worked out, in the list of its messages.
module _ {A : Type 0} (words : Words) (mode : Mode) (came : List Arrival) (list : List ReceivedMessage)
    (worked : WorkedHart A Verdict) (is : list ≡ worked.came.items)
    (k : IsWorkedOut verdict_of words mode came (arrivals_in list) worked) where
  pub upto_same : entries_by (arrivals_in (take worked.end list)) ≡ k.upto
  upto_same = ap (λ l. entries_by (arrivals_in (take worked.end l))) is ∙ sym k.upto_is

  pub upto_few : length (entries_by (arrivals_in (take worked.end list))) ≤ length (entries_by (arrivals_in list))
  upto_few =
      let same = ap length upto_same in
      let whole = ap length k.cut.whole in
      let both = length-append k.upto k.beyond in
      omega (arith, same, whole, both)

  pub upto_small : HaveNumbers came → AreSmall (entries_by (arrivals_in (take worked.end list)))
  upto_small have =
      let ordered : HaveNumbers (arrivals_in list) =
      All-permutation (λ (one : Arrival). one.message.number < end_of_numbers) came (arrivals_in list) k.permuted have
      in
      subst AreSmall (sym upto_same)
      (small_front k.upto k.beyond (subst AreSmall k.cut.whole (entries_small (arrivals_in list) ordered)))
