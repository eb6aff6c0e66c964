-- What is taken beyond the end of a hart, from one entry to the next.
use Rattle.std.proofs.Common.{◌≡◌, ℕ, ◌++◌, List, [], ◌∷◌, Option, drop, length, map, sym, ap, subst, ◌∙◌}
use Rattle.std.proofs.Common.{◌≤◌, append_assoc, arith}
use Rattle.std.proofs.lemmas.List.{append-nil, length-drop}
use Rattle.rvclass.specs.Words.{Words}
use Rattle.payload.specs.declared.mode.Mode.{Mode}
use Rattle.salvaging.specs.Ends.{AllLeaveBeyond, LeavesBeyond}
use Rattle.salvaging.specs.Entries.{Entry, Used, Doubtful, next_used}
use Rattle.salvaging.specs.LeftParts.{LeftPart, Missing, Events, BadNumber, DoubtfulNumber, AloneNumber}
use Rattle.salvaging.specs.PartsIn.{part_of, parts_in}
use Rattle.salvaging.specs.Shares.{AllShareBeyond, SharesBeyond}
use Rattle.salvaging.specs.Treatments.{treatment_of}
use Rattle.salvaging.specs.declared.received.ReceivedMessage.{ReceivedMessage}
use Rattle.salvaging.specs.declared.part.Part.{Part}
use Rattle.salvaging.specs.declared.trail.HartOutcome.{HartOutcome}
use Rattle.salvaging.specs.declared.treatment.Treatment.{Treatment}
use Rattle.salvaging.specs.steps.Arrivals.{arrivals_in}
use Rattle.salvaging.specs.steps.Ending.{TakesBeyond, share_of_part}
use Rattle.salvaging.specs.steps.Grouping.{entries_by}
use Rattle.salvaging.specs.steps.UnderWay.{AddsParts}
use Rattle.salvaging.proofs.TakenSoFar.{behind, behind-is}

abbrev entries_in : List ReceivedMessage → List Entry
entries_in came = entries_by (arrivals_in came)

-- What an entry does is what its part says.
shares_by_part : (words : Words) (mode : Mode) (entry : Entry) (following : Option ℕ) (part : LeftPart)
    → LeavesBeyond words mode entry following part → SharesBeyond words mode entry following (share_of_part part)
shares_by_part words mode (Used number place payload) following (BadNumber bad at why) (is, here, wrong) = wrong
shares_by_part words mode (Used number place payload) following (AloneNumber alone at) (is, here, packet, good) =
    (packet, good)
shares_by_part words mode (Used number place payload) following (Missing count) leaves = absurd leaves
shares_by_part words mode (Used number place payload) following (Events first last events) leaves = absurd leaves
shares_by_part words mode (Used number place payload) following (DoubtfulNumber doubtful at behind) leaves =
    absurd leaves
shares_by_part words mode (Doubtful number first second) following (DoubtfulNumber doubtful at behind) leaves = tt
shares_by_part words mode (Doubtful number first second) following (Missing count) leaves = absurd leaves
shares_by_part words mode (Doubtful number first second) following (Events from to events) leaves = absurd leaves
shares_by_part words mode (Doubtful number first second) following (BadNumber bad at why) leaves = absurd leaves
shares_by_part words mode (Doubtful number first second) following (AloneNumber alone at) leaves = absurd leaves

pub all_share_beyond : (words : Words) (mode : Mode) (entries : List Entry) (parts : List LeftPart)
    → AllLeaveBeyond words mode entries parts → AllShareBeyond words mode entries (map share_of_part parts)
all_share_beyond words mode [] [] leave = tt
all_share_beyond words mode [] (part ∷ parts) leave = absurd leave
all_share_beyond words mode (entry ∷ entries) [] leave = absurd leave
all_share_beyond words mode (entry ∷ entries) (part ∷ parts) (leaves, leave) = (
  shares_by_part words mode entry (next_used entries) part leaves,
  all_share_beyond words mode entries parts leave,
)

-- What is kept of what entries do that leave these parts, and one more.
marks_more : {M : Type 0} (kept : Treatment → M) (old : List M) (parts : List LeftPart) (part : LeftPart)
    → (old ++ map kept (map treatment_of (map share_of_part parts))) ++ kept (treatment_of (share_of_part part)) ∷ []
    ≡ old ++ map kept (map treatment_of (map share_of_part (parts ++ part ∷ [])))
marks_more kept old [] part = ap (λ l. l ++ kept (treatment_of (share_of_part part)) ∷ []) (append-nil old)
marks_more kept old (first ∷ parts) part =
    append_assoc old (map kept (map treatment_of (map share_of_part (first ∷ parts))))
    (kept (treatment_of (share_of_part part)) ∷ [])
    ∙ ap (λ l. old ++ kept (treatment_of (share_of_part first)) ∷ l) (marks_more kept [] parts part)

-- The messages before these are taken.
pub record BeyondSo {A M : Type 0} (kept : Treatment → M) (words : Words) (mode : Mode)
    (came rest : List ReceivedMessage) (old new : HartOutcome A M) : Type 0 where
  pub shorter : length rest ≤ length came
  pub done : List LeftPart
  pub parts : parts_in new.parts.items ≡ parts_in old.parts.items ++ done
  pub marks : new.marks.items ≡ old.marks.items ++ map kept (map treatment_of (map share_of_part done))
  pub leaves : (more : List LeftPart) → AllLeaveBeyond words mode (entries_in rest) more
      → AllLeaveBeyond words mode (entries_in came) (done ++ more)

module _ {A M : Type 0} (kept : Treatment → M) (words : Words) (mode : Mode) (came : List ReceivedMessage)
    (first : HartOutcome A M) where
  pub beyond_start : BeyondSo kept words mode came came first first
  beyond_start = record {
    shorter = omega arith;
    done = [];
    parts = sym (append-nil (parts_in first.parts.items));
    marks = sym (append-nil first.marks.items);
    leaves = λ more leave. leave;
  }

  pub beyond_next : (rest : List ReceivedMessage) (old new : HartOutcome A M)
      → BeyondSo kept words mode came rest first old
      → (entry : Entry) (count : ℕ) → entries_in rest ≡ entry ∷ entries_in (drop count rest) → (part : Part A)
      → LeavesBeyond words mode entry (next_used (entries_in (behind rest count))) (part_of part)
      → AddsParts (part_of part ∷ []) old.parts.items new.parts.items
      → new.marks.items ≡ old.marks.items ++ kept (treatment_of (share_of_part (part_of part))) ∷ []
      → BeyondSo kept words mode came (behind rest count) first new
  beyond_next rest old new b entry count is part leaves adds pushed =
      let later = entries_in (behind rest count) in
      let parted : entries_in rest ≡ entry ∷ later =
      is ∙ sym (ap (λ l. entry ∷ entries_in l) (behind-is rest count)) in
      let shorter = b.shorter in
      let long = ap length (behind-is rest count) ∙ length-drop count rest in
      record {
        shorter = omega (arith, shorter, long);
        done = b.done ++ part_of part ∷ [];
        parts = adds ∙ ap (λ l. l ++ part_of part ∷ []) b.parts
            ∙ append_assoc (parts_in first.parts.items) b.done (part_of part ∷ []);
        marks = pushed ∙ ap (λ l. l ++ kept (treatment_of (share_of_part (part_of part))) ∷ []) b.marks
            ∙ marks_more kept first.marks.items b.done (part_of part);
        leaves = λ more leave. subst (AllLeaveBeyond words mode (entries_in came))
            (sym (append_assoc b.done (part_of part ∷ []) more))
            (b.leaves (part_of part ∷ more) (subst (λ es. AllLeaveBeyond words mode es (part_of part ∷ more))
            (sym parted) (leaves, leave)));
      }

  pub beyond_end : (rest : List ReceivedMessage) (new : HartOutcome A M) → BeyondSo kept words mode came rest first new
      → entries_in rest ≡ [] → TakesBeyond kept words mode (entries_in came) first new
  beyond_end rest new b none = record {
    after = b.done;
    parts = b.parts;
    marks = b.marks;
    leaves = subst (AllLeaveBeyond words mode (entries_in came)) (append-nil b.done)
        (b.leaves [] (subst (λ es. AllLeaveBeyond words mode es []) (sym none) tt));
  }
