-- A hart's messages are salvaged in one way.
use Rattle.std.proofs.Common.{◌≡◌, ℕ, ◌+◌, ◌-◌, ◌++◌, Bool, List, [], ◌∷◌, Option, map, refl, sym, ap}
use Rattle.std.proofs.Common.{subst}
use Rattle.std.proofs.Common.{◌∙◌}
use Rattle.std.proofs.lemmas.List.{map-append}
use Rattle.rvclass.specs.Words.{Words, IsProgram}
use Rattle.payload.specs.declared.mode.Mode.{Mode}
use Rattle.message.specs.declared.message.Message.{Message}
use Rattle.losses.specs.Runs.{Run, first_run, longer, run_behind, run_of}
use Rattle.salvaging.specs.AlikeParts.{AreAlikeHarts}
use Rattle.salvaging.specs.Ends.{AreCutAtEnd, HartLeaves}
use Rattle.salvaging.specs.Entries.{Entry, Used, Doubtful, is_closed, next_used}
use Rattle.salvaging.specs.Far.{AreFar, believed}
use Rattle.salvaging.specs.FarGaps.{far_among, far_if, reported_gaps, treatment_of_far}
use Rattle.salvaging.specs.Late.{late}
use Rattle.salvaging.specs.Leaving.{kept, own_mode}
use Rattle.salvaging.specs.PartsIn.{parts_in}
use Rattle.salvaging.specs.Salvaged.{IsSalvagedHart}
use Rattle.salvaging.specs.Shares.{AllShareBeyond, EntriesShare, HartShares, Share, SharesBeyond, UsedShares}
use Rattle.salvaging.specs.Shares.{Adds, Passes, Spoils, StandsAlone, Doubts}
use Rattle.salvaging.specs.Treatments.{treatment_of}
use Rattle.salvaging.specs.declared.far_number.FarTreatment.{FarTreatment}
use Rattle.salvaging.specs.declared.far_number.FarTreatment.TheVariants as far
use Rattle.salvaging.specs.declared.salvaged.SalvagedHart.{SalvagedHart}
use Rattle.salvaging.proofs.CutOnce.{cut_once}
use Rattle.salvaging.proofs.EntriesOfLog.{same_packet}
use Rattle.salvaging.proofs.EntriesOnce.{entries_once}
use Rattle.salvaging.proofs.FarLaws.{one_set}
use Rattle.salvaging.proofs.OneWay.{copies_once, good_not_bad, hart_once}

-- What is done with the message of an entry, were it far.
abbrev kind : Share → FarTreatment
kind share = treatment_of_far (treatment_of share)

-- Far numbers are the same where the same is done with each.
far_kinds : (entries : List Entry) (shares others : List Share) (flags : List Bool) → map kind shares ≡ map kind others
    → far_among kind entries shares flags ≡ far_among kind entries others flags
far_kinds [] shares others flags same = refl
far_kinds (entry ∷ entries) [] [] flags same = refl
far_kinds (entry ∷ entries) [] (other ∷ others) flags same = cc
far_kinds (entry ∷ entries) (share ∷ shares) [] flags same = cc
far_kinds (entry ∷ entries) (share ∷ shares) (other ∷ others) [] same = refl
far_kinds (entry ∷ entries) (share ∷ shares) (other ∷ others) (flag ∷ flags) same =
    ap (λ k. far_if flag entry k ++ far_among kind entries shares flags) (ap head_of same)
    ∙ ap (λ l. far_if flag entry (kind other) ++ l) (far_kinds entries shares others flags (ap tail_of same))
  where
    head_of : List FarTreatment → FarTreatment
    head_of [] = far.Bad
    head_of (one ∷ more) = one

    tail_of : List FarTreatment → List FarTreatment
    tail_of [] = []
    tail_of (one ∷ more) = more

module _ (words : Words) (program : IsProgram words) (mode : Mode) where
  module _ (run : Run) (payload : List ℕ) (following : Option ℕ) (shares others : List Share)
      (Rest Other : Run → Type 0)
      (more : (behind : Run) → Rest behind → Other behind → map kind shares ≡ map kind others) where
    not_both : (share other : Share) → UsedShares words mode run payload following share Rest
        → UsedShares words mode run payload following other Other
        → map kind (share ∷ shares) ≡ map kind (other ∷ others)
    not_both (Spoils why) (Spoils fault) (bad, rest) (bad_too, rests) =
        ap (λ l. far.Bad ∷ l) (more (run_of 1 []) rest rests)
    not_both (Spoils why) (Adds events) (bad, rest) (q, good, given, rests) =
        absurd (good_not_bad words program mode run payload following q why good bad)
    not_both (Spoils why) Passes (bad, rest) (q, good, given, rests) =
        absurd (good_not_bad words program mode run payload following q why good bad)
    not_both (Spoils why) StandsAlone does too = absurd too.2
    not_both (Spoils why) Doubts does too = absurd too.2
    not_both (Adds events) (Spoils why) (p, good, given, rest) (bad, rests) =
        absurd (good_not_bad words program mode run payload following p why good bad)
    not_both (Adds events) (Adds others_too) (p, good, given, rest) (q, too, given_too, rests) =
        ap (λ l. far.Taken ∷ l) (more (longer run (p ∷ [])) rest
        (subst (λ x. Other (longer run (x ∷ []))) (same_packet payload q p too.read good.read) rests))
    not_both (Adds events) Passes (p, good, given, rest) (q, too, none, rests) =
        let same = same_packet payload q p too.read good.read in
        absurd (given.0 (subst (λ x. kept run.missing (run.packets ++ x ∷ []) ≡ []) same none))
    not_both (Adds events) StandsAlone does too = absurd too.2
    not_both (Adds events) Doubts does too = absurd too.2
    not_both Passes (Spoils why) (p, good, given, rest) (bad, rests) =
        absurd (good_not_bad words program mode run payload following p why good bad)
    not_both Passes (Adds events) (p, good, none, rest) (q, too, given, rests) =
        let same = same_packet payload p q good.read too.read in
        absurd (given.0 (subst (λ x. kept run.missing (run.packets ++ x ∷ []) ≡ []) same none))
    not_both Passes Passes (p, good, given, rest) (q, too, given_too, rests) =
        ap (λ l. far.Passed ∷ l) (more (longer run (p ∷ [])) rest
        (subst (λ x. Other (longer run (x ∷ []))) (same_packet payload q p too.read good.read) rests))
    not_both Passes StandsAlone does too = absurd too.2
    not_both Passes Doubts does too = absurd too.2
    not_both StandsAlone other does too = absurd does.2
    not_both Doubts other does too = absurd does.2

  entries_kinds : (entries : List Entry) (run : Run) (next : ℕ) (shares others : List Share)
      → EntriesShare words mode run next entries shares → EntriesShare words mode run next entries others
      → map kind shares ≡ map kind others
  entries_kinds [] run next [] [] share too = refl
  entries_kinds [] run next [] (other ∷ others) share too = absurd too
  entries_kinds [] run next (one ∷ shares) others share too = absurd share
  entries_kinds (entry ∷ entries) run next [] others share too = absurd share
  entries_kinds (entry ∷ entries) run next (one ∷ shares) [] share too = absurd too
  entries_kinds (Used number place payload ∷ entries) run next (one ∷ shares) (other ∷ others) share too =
      not_both (run_behind (number - next) run) payload (next_used entries) shares others
      (λ behind. EntriesShare words mode behind (number + 1) entries shares)
      (λ behind. EntriesShare words mode behind (number + 1) entries others)
      (λ behind rest rests. entries_kinds entries behind (number + 1) shares others rest rests) one other share too
  entries_kinds (Doubtful number first second ∷ entries) run next (one ∷ shares) (other ∷ others) (is, rest)
      (too, rests) =
      ap (λ s. kind s ∷ map kind shares) (is ∙ sym too)
      ∙ ap (λ l. kind other ∷ l) (entries_kinds entries (run_of 1 []) number shares others rest rests)

  kind_beyond : (entry : Entry) (following : Option ℕ) (share : Share) → SharesBeyond words mode entry following share
      → kind share ≡ far.Bad
  kind_beyond entry following (Spoils why) does = refl
  kind_beyond entry following StandsAlone does = refl
  kind_beyond entry following Doubts does = refl
  kind_beyond (Used number place payload) following (Adds events) does = absurd does
  kind_beyond (Used number place payload) following Passes does = absurd does
  kind_beyond (Doubtful number first second) following (Adds events) does = absurd does
  kind_beyond (Doubtful number first second) following Passes does = absurd does

  kinds_beyond : (entries : List Entry) (shares others : List Share) → AllShareBeyond words mode entries shares
      → AllShareBeyond words mode entries others → map kind shares ≡ map kind others
  kinds_beyond [] [] [] share too = refl
  kinds_beyond [] [] (other ∷ others) share too = absurd too
  kinds_beyond [] (one ∷ shares) others share too = absurd share
  kinds_beyond (entry ∷ entries) [] others share too = absurd share
  kinds_beyond (entry ∷ entries) (one ∷ shares) [] share too = absurd too
  kinds_beyond (entry ∷ entries) (one ∷ shares) (other ∷ others) share too =
      ap (λ k. k ∷ map kind shares) (kind_beyond entry (next_used entries) one share.0
      ∙ sym (kind_beyond entry (next_used entries) other too.0))
      ∙ ap (λ l. kind other ∷ l) (kinds_beyond entries shares others share.1 too.1)

  hart_kinds : (upto beyond : List Entry) (shares others : List Share) → HartShares words mode upto beyond shares
      → HartShares words mode upto beyond others → map kind shares ≡ map kind others
  hart_kinds upto beyond shares others share too =
      let first = entries_kinds upto first_run 0 share.first too.first share.shares_upto too.shares_upto in
      let after = kinds_beyond beyond share.after too.after share.shares_beyond too.shares_beyond in
      ap (map kind) share.whole ∙ map-append kind share.first share.after
      ∙ ap (λ l. l ++ map kind share.after) first ∙ ap (λ l. map kind too.first ++ l) after
      ∙ sym (map-append kind too.first too.after) ∙ sym (ap (map kind) too.whole)

module _ (words : Words) (program : IsProgram words) (mode : Mode) where
  -- A hart with these messages is salvaged in one way.
  pub salvaged_once : {A B : Type 0} (messages : List Message) (one : SalvagedHart A) (other : SalvagedHart B)
      → IsSalvagedHart words mode messages one → IsSalvagedHart words mode messages other → AreAlikeHarts one other
  salvaged_once messages one other salvaged too =
      let same = entries_once messages salvaged.entries too.entries salvaged.are_entries too.are_entries in
      let own : own_mode mode too.entries ≡ own_mode mode salvaged.entries = sym (ap (own_mode mode) same) in
      let cut = subst (λ m. AreCutAtEnd words m salvaged.entries too.upto too.beyond) own
      (subst (λ es. AreCutAtEnd words (own_mode mode too.entries) es too.upto too.beyond) (sym same) too.cut) in
      let once = cut_once words (own_mode mode salvaged.entries) salvaged.entries salvaged.upto too.upto salvaged.beyond
      too.beyond salvaged.cut cut in
      let leave = subst (λ es. HartLeaves words (own_mode mode salvaged.entries) salvaged.upto es too.goods
      (parts_in other.parts.items)) (sym once.1)
      (subst (λ es. HartLeaves words (own_mode mode salvaged.entries) es too.beyond too.goods
      (parts_in other.parts.items)) (sym once.0)
      (subst (λ m. HartLeaves words m too.upto too.beyond too.goods (parts_in other.parts.items)) own too.parts)) in
      let left = hart_once words program (own_mode mode salvaged.entries) salvaged.upto salvaged.beyond salvaged.goods
      too.goods (parts_in one.parts.items) (parts_in other.parts.items) salvaged.parts leave in
      let flags = one_set salvaged.entries salvaged.flags too.flags salvaged.are_far
      (subst (λ es. AreFar es too.flags) (sym same) too.are_far) in
      let does = subst (λ es. HartShares words (own_mode mode salvaged.entries) salvaged.upto es too.shares)
      (sym once.1)
      (subst (λ es. HartShares words (own_mode mode salvaged.entries) es too.beyond too.shares) (sym once.0)
      (subst (λ m. HartShares words m too.upto too.beyond too.shares) own too.does)) in
      let kinds = hart_kinds words program (own_mode mode salvaged.entries) salvaged.upto salvaged.beyond
      salvaged.shares
      too.shares salvaged.does does in
      record {
        parts = left.1;
        copies = copies_once messages one.copies other.copies salvaged.copies too.copies;
        gaps = salvaged.gaps ∙ ap (λ es. reported_gaps 0 es salvaged.flags) once.0 ∙ ap (reported_gaps 0 too.upto) flags
            ∙ sym too.gaps;
        far = salvaged.far ∙ far_kinds salvaged.upto salvaged.shares too.shares salvaged.flags kinds
            ∙ ap (λ es. far_among kind es too.shares salvaged.flags) once.0
            ∙ ap (far_among kind too.upto too.shares) flags
            ∙ sym too.far;
        late = salvaged.late ∙ ap (λ gs. late salvaged.entries (believed gs salvaged.flags)) left.0
            ∙ ap (λ fs. late salvaged.entries (believed too.goods fs)) flags
            ∙ ap (λ es. late es (believed too.goods too.flags)) same ∙ sym too.late;
        closed = salvaged.closed ∙ ap is_closed once.0 ∙ sym too.closed;
        mode = salvaged.reads ∙ sym own ∙ sym too.reads;
      }
