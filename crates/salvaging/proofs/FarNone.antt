-- Where no number is far, the gaps are reported as they are.
use Rattle.std.proofs.Common.{◌≡◌, inl, inr, ℕ, zero, suc, ◌+◌, ◌-◌, ◌++◌, Bool, true, false, List, [], ◌∷◌, Option, map}
use Rattle.std.proofs.Common.{refl, sym}
use Rattle.std.proofs.Common.{ap, subst, ◌∙◌, arith}
use Rattle.std.proofs.lemmas.List.{append-nil}
use Rattle.rvclass.specs.Words.{Words}
use Rattle.retire.specs.declared.event.Event.{Event}
use Rattle.payload.specs.declared.mode.Mode.{Mode}
use Rattle.message.specs.declared.message.Message.{Message}
use Rattle.losses.specs.Apart.{AreRising}
use Rattle.losses.specs.Runs.{Run, first_run, longer, run_behind, run_of}
use Rattle.losses.proofs.RunsOfLog.{number_of}
use Rattle.salvaging.specs.Ends.{AllLeaveBeyond, HartLeaves, LeavesBeyond}
use Rattle.salvaging.specs.Entries.{Entry, Used, Doubtful, next_used}
use Rattle.salvaging.specs.Far.{ComeInOrder}
use Rattle.salvaging.specs.FarGaps.{far_among, missing_in, reported_gap, reported_gaps}
use Rattle.salvaging.specs.Leaving.{EntriesLeave, LeavesBefore, RunLeaves, UsedLeaves, kept, own_mode}
use Rattle.salvaging.specs.LeftParts.{LeftPart, Missing, Events, BadNumber, DoubtfulNumber, AloneNumber, gap, stretch}
use Rattle.salvaging.specs.PartsIn.{parts_in}
use Rattle.salvaging.specs.Salvaged.{IsSalvagedHart}
use Rattle.salvaging.specs.declared.far_number.FarTreatment.{FarTreatment}
use Rattle.salvaging.specs.declared.salvaged.SalvagedHart.{SalvagedHart}
use Rattle.salvaging.proofs.Members.{IsIn}
use Rattle.salvaging.proofs.SameMessages.{places_rise}

-- Messages whose numbers rise come in their order.
pub come_in_order : (messages : List Message) → AreRising 0 (map number_of messages) → ComeInOrder messages
come_in_order messages rising = λ place later one other below here there.
    let less = places_rise 0 messages place later one other rising here there below in omega (arith, less)

-- No entry is far.
abbrev pub no_flags : List Entry → List Bool
no_flags [] = []
no_flags (entry ∷ entries) = false ∷ no_flags entries

pub flags_none : (among : Entry → Bool) (entries : List Entry) → ((x : Entry) → IsIn x entries → among x ≡ false)
    → map among entries ≡ no_flags entries
flags_none among [] none = refl
flags_none among (entry ∷ entries) none =
    ap (λ b. b ∷ map among entries) (none entry (inl refl))
    ∙ ap (λ l. false ∷ l) (flags_none among entries (λ x there. none x (inr there)))

pub missing-append : (front parts : List LeftPart) → missing_in (front ++ parts) ≡ missing_in front ++ missing_in parts
missing-append [] parts = refl
missing-append (Missing count ∷ front) parts = ap (λ l. count ∷ l) (missing-append front parts)
missing-append (Events first last events ∷ front) parts = missing-append front parts
missing-append (BadNumber number place why ∷ front) parts = missing-append front parts
missing-append (DoubtfulNumber number first second ∷ front) parts = missing-append front parts
missing-append (AloneNumber number place ∷ front) parts = missing-append front parts

missing_stretch : (next count : ℕ) (events : List Event) → missing_in (stretch next count events) ≡ []
missing_stretch next count [] = refl
missing_stretch next count (event ∷ events) = refl

pub missing_gap : (lost : ℕ) → missing_in (gap lost) ≡ reported_gap lost
missing_gap zero = refl
missing_gap (suc lost) = refl

module _ (words : Words) (mode : Mode) where
  pub missing_run : (run : Run) (next : ℕ) (parts : List LeftPart) → RunLeaves words mode run next parts
      → missing_in parts ≡ []
  missing_run run next parts (events, described, is) = ap missing_in is ∙ missing_stretch next _ events

  pub missing_before : (run : Run) (next lost : ℕ) (parts : List LeftPart) → LeavesBefore words mode run next lost parts
      → missing_in parts ≡ reported_gap lost
  missing_before run next zero parts is = ap missing_in is
  missing_before run next (suc lost) parts (before, leaves, is) =
      ap missing_in is ∙ missing-append before (Missing (suc lost) ∷ [])
      ∙ ap (λ l. l ++ suc lost ∷ []) (missing_run run next before leaves)

  -- The same gaps are in what a used message and the rest leave.
  pub missing_used : (run : Run) (number place : ℕ) (payload : List ℕ) (following : Option ℕ) (good : Bool)
      (Rest : Run → List LeftPart → Type 0) (Says : List ℕ → Type 0)
      → ((behind : Run) (rest : List LeftPart) → Rest behind rest → Says (missing_in rest)) → (parts : List LeftPart)
      → UsedLeaves words mode run number place payload following good Rest parts → Says (missing_in parts)
  missing_used run number place payload following true Rest Says more parts (packet, is_good, rest) =
      more (longer run (packet ∷ [])) parts rest
  missing_used run number place payload following false Rest Says more parts (why, bad, before, leaves, rest, is, later)
      =
      subst Says (sym (ap missing_in is ∙ missing-append before (BadNumber number place why ∷ rest)
      ∙ ap (λ l. l ++ missing_in rest) (missing_run run number before leaves))) (more (run_of 1 []) rest later)

  -- Of the entries that leave parts, others may follow.
  plain_gaps : (beyond entries : List Entry) (run : Run) (next : ℕ) (goods : List Bool) (parts : List LeftPart)
      → EntriesLeave words mode run next entries goods parts
      → missing_in parts ≡ reported_gaps next entries (no_flags (entries ++ beyond))
  plain_gaps beyond [] run next [] parts leave = missing_run run next parts leave
  plain_gaps beyond [] run next (good ∷ goods) parts leave = absurd leave
  plain_gaps beyond (entry ∷ entries) run next [] parts leave = absurd leave
  plain_gaps beyond (Used number place payload ∷ entries) run next (good ∷ goods) parts
      (before, leaves, rest, is, used) =
      let later = missing_used (run_behind (number - next) run) number place payload (next_used entries) good
      (λ behind. EntriesLeave words mode behind (number + 1) entries goods)
      (λ gaps. gaps ≡ reported_gaps (number + 1) entries (no_flags (entries ++ beyond)))
      (λ behind left leave. plain_gaps beyond entries behind (number + 1) goods left leave) rest used in
      ap missing_in is ∙ missing-append before rest
      ∙ ap (λ l. l ++ missing_in rest) (missing_before run next (number - next) before leaves)
      ∙ ap (λ l. reported_gap (number - next) ++ l) later
  plain_gaps beyond (Doubtful number first second ∷ entries) run next (good ∷ goods) parts
      (fails, before, leaves, rest, is, later) =
      let all = plain_gaps beyond entries (run_of 1 []) number goods rest later in
      ap missing_in is ∙ missing-append before (gap (number - next) ++ DoubtfulNumber number first second ∷ rest)
      ∙ ap (λ l. l ++ missing_in (gap (number - next) ++ DoubtfulNumber number first second ∷ rest))
      (missing_run run next before leaves)
      ∙ missing-append (gap (number - next)) (DoubtfulNumber number first second ∷ rest)
      ∙ ap (λ l. l ++ missing_in rest) (missing_gap (number - next))
      ∙ ap (λ l. reported_gap (number - next) ++ l) all

  missing_beyond : (entry : Entry) (following : Option ℕ) (part : LeftPart) (parts : List LeftPart)
      → LeavesBeyond words mode entry following part → missing_in (part ∷ parts) ≡ missing_in parts
  missing_beyond entry following (BadNumber number place why) parts leave = refl
  missing_beyond entry following (DoubtfulNumber number first second) parts leave = refl
  missing_beyond entry following (AloneNumber number place) parts leave = refl
  missing_beyond (Used number place payload) following (Missing count) parts leave = absurd leave
  missing_beyond (Doubtful number one other) following (Missing count) parts leave = absurd leave
  missing_beyond entry following (Events first last events) parts leave = refl

  none_beyond : (entries : List Entry) (parts : List LeftPart) → AllLeaveBeyond words mode entries parts
      → missing_in parts ≡ []
  none_beyond [] [] leave = refl
  none_beyond [] (part ∷ parts) leave = absurd leave
  none_beyond (entry ∷ entries) [] leave = absurd leave
  none_beyond (entry ∷ entries) (part ∷ parts) leave =
      missing_beyond entry (next_used entries) part parts leave.0 ∙ none_beyond entries parts leave.1

  -- The gaps of a hart are before its end.
  pub missing_hart : (upto beyond : List Entry) (goods : List Bool) (parts : List LeftPart)
      → (left : HartLeaves words mode upto beyond goods parts) → missing_in parts ≡ missing_in left.first
  missing_hart upto beyond goods parts left =
      ap missing_in left.parts_are ∙ missing-append left.first left.after
      ∙ ap (λ l. missing_in left.first ++ l) (none_beyond beyond left.after left.beyond_leaves)
      ∙ append-nil (missing_in left.first)

  hart_gaps : (upto beyond : List Entry) (goods : List Bool) (parts : List LeftPart)
      → HartLeaves words mode upto beyond goods parts
      → missing_in parts ≡ reported_gaps 0 upto (no_flags (upto ++ beyond))
  hart_gaps upto beyond goods parts left =
      missing_hart upto beyond goods parts left
      ∙ plain_gaps beyond upto first_run 0 left.good_first left.first left.leaves

no_numbers : {M : Type 0} (treats : M → FarTreatment) (beyond entries : List Entry) (kept : List M)
    → far_among treats entries kept (no_flags (entries ++ beyond)) ≡ []
no_numbers treats beyond [] kept = refl
no_numbers treats beyond (entry ∷ entries) [] = refl
no_numbers treats beyond (entry ∷ entries) (one ∷ kept) = no_numbers treats beyond entries kept

-- What is reported of a hart none of whose numbers is far.
pub plain_hart : {A : Type 0} (words : Words) (mode : Mode) (messages : List Message) (hart : SalvagedHart A)
    (salvaged : IsSalvagedHart words mode messages hart)
    → ((x : Entry) → IsIn x salvaged.entries → salvaged.are_far.among x ≡ false)
    → (hart.gaps.items ≡ missing_in (parts_in hart.parts.items)) × (hart.far.items ≡ [])
plain_hart words mode messages hart salvaged none =
    let flags = salvaged.are_far.are_among ∙ flags_none salvaged.are_far.among salvaged.entries none
    ∙ ap no_flags salvaged.cut.whole in (
      salvaged.gaps ∙ ap (reported_gaps 0 salvaged.upto) flags
          ∙ sym (hart_gaps words (own_mode mode salvaged.entries) salvaged.upto salvaged.beyond salvaged.goods
          (parts_in hart.parts.items) salvaged.parts),
      salvaged.far ∙ ap (far_among _ salvaged.upto salvaged.shares) flags
          ∙ no_numbers _ salvaged.beyond salvaged.upto salvaged.shares,
    )
