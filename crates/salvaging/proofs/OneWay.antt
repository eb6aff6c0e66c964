-- The same messages leave the same, but for which fault of a decoder a bad number has.
use Rattle.std.proofs.Common.{◌≡◌, inl, inr, ℕ, zero, suc, ◌+◌, ◌-◌, ◌≤◌, ◌++◌, Bool, true}
use Rattle.std.proofs.Common.{false, Contains, List, [], ◌∷◌, Option, Some, None, length, refl, sym, ap}
use Rattle.std.proofs.Common.{subst, ◌∙◌, arith}
use Rattle.std.specs.Prelude.{Ok, Err}
use Rattle.std.proofs.lemmas.List.Elements.{All-contains}
use Rattle.retire.specs.declared.event.Event.{Event}
use Rattle.rvclass.specs.Words.{Words, IsProgram}
use Rattle.payload.specs.Closing.{is_closing, is_closing_packet, is_closing_reading}
use Rattle.payload.specs.Reading.{reading}
use Rattle.payload.specs.declared.fault.PackFault.{PackFault}
use Rattle.payload.specs.declared.mode.Mode.{Mode}
use Rattle.payload.specs.declared.packet.Packet.{Packet}
use Rattle.decoder.proofs.UniqueLemmas.{one_log}
use Rattle.decoder.specs.Describes.{Describes}
use Rattle.decoder.specs.Order.{IsOpen}
use Rattle.message.specs.declared.message.Message.{Message}
use Rattle.losses.specs.Runs.{Run, first_run, longer, run_behind, run_of, trace_of_run}
use Rattle.salvaging.specs.AlikeParts.{AreAlikeParts, AreAlikeReasons}
use Rattle.salvaging.specs.Bad.{IsBad, IsGood}
use Rattle.salvaging.specs.Copies.{AllDiffer, AreAlike, AreCopies, HasLike}
use Rattle.salvaging.specs.Ends.{AllLeaveBeyond, HartLeaves, LeavesBeyond, none_good}
use Rattle.salvaging.specs.Entries.{Entry, Used, Doubtful, next_used}
use Rattle.salvaging.specs.Leaving.{EntriesLeave, LeavesBefore, RunLeaves, UsedLeaves, kept}
use Rattle.salvaging.specs.LeftParts.{LeftPart, Missing, Events, BadNumber, DoubtfulNumber, AloneNumber, gap, stretch}
use Rattle.salvaging.specs.declared.reason.Reason.{Reason}
use Rattle.salvaging.specs.declared.reason.Reason.TheVariants as reason
use Rattle.salvaging.proofs.EntriesOfLog.{same_packet}
use Rattle.salvaging.proofs.Members.{IsIn, contains_of_in, in_of_contains, one_less, others_stay, without_one}

-- Of distinct messages there are as many.
fewer : (distinct others : List Message) → AllDiffer distinct
    → ((message : Message) → IsIn message distinct
    → (like : Message) × IsIn like others × AreAlike message like) → length distinct ≤ length others
fewer [] others differ likes = omega arith
fewer (message ∷ distinct) others (apart, differ) likes =
    let like = likes message (inl refl) in
    let rest = fewer distinct (without_one like.0 others like.1) differ (λ other there.
    let its = likes other (inr there) in (
      its.0,
      others_stay like.0 others like.1 its.0 its.1 (λ same.
          apart (
            other,
            contains_of_in distinct other there,
            (
              like.2.0 ∙ sym (ap (λ (m : Message). m.number) same) ∙ sym its.2.0,
              like.2.1 ∙ sym (ap (λ (m : Message). m.payload) same) ∙ sym its.2.1,
            ),
          )),
      its.2,
    )) in
    let less = one_less like.0 others like.1 in
    omega (arith, rest, less)

pub copies_once : (messages : List Message) (count other : ℕ) → AreCopies messages count → AreCopies messages other
    → count ≡ other
copies_once messages count other copies too =
    let one = fewer copies.distinct too.distinct copies.are_distinct.differ (λ message there.
    let came = All-contains (Contains messages) copies.distinct message copies.are_distinct.some
    (contains_of_in copies.distinct message there) in
    let like = All-contains (HasLike too.distinct) messages message too.are_distinct.all came in
    (like.0, in_of_contains too.distinct like.0 like.1, like.2)) in
    let back = fewer too.distinct copies.distinct too.are_distinct.differ (λ message there.
    let came = All-contains (Contains messages) too.distinct message too.are_distinct.some
    (contains_of_in too.distinct message there) in
    let like = All-contains (HasLike copies.distinct) messages message copies.are_distinct.all came in
    (like.0, in_of_contains copies.distinct like.0 like.1, like.2)) in
    let first = copies.others in
    let second = too.others in
    omega (arith, one, back, first, second)

-- Parts behind one another.
pub alike_append : (left more others further : List LeftPart) → AreAlikeParts left others → AreAlikeParts more further
    → AreAlikeParts (left ++ more) (others ++ further)
alike_append [] more [] further are too = too
alike_append [] more (Missing m ∷ others) further are too = absurd are
alike_append [] more (Events b d s ∷ others) further are too = absurd are
alike_append [] more (BadNumber b d v ∷ others) further are too = absurd are
alike_append [] more (DoubtfulNumber m r s ∷ others) further are too = absurd are
alike_append [] more (AloneNumber m q ∷ others) further are too = absurd are
alike_append (Missing n ∷ left) more [] further are too = absurd are
alike_append (Missing n ∷ left) more (Missing m ∷ others) further are too =
    (are.0, alike_append left more others further are.1 too)
alike_append (Missing n ∷ left) more (Events b d s ∷ others) further are too = absurd are
alike_append (Missing n ∷ left) more (BadNumber b d v ∷ others) further are too = absurd are
alike_append (Missing n ∷ left) more (DoubtfulNumber m r s ∷ others) further are too = absurd are
alike_append (Missing n ∷ left) more (AloneNumber m q ∷ others) further are too = absurd are
alike_append (Events f l e ∷ left) more [] further are too = absurd are
alike_append (Events f l e ∷ left) more (Missing m ∷ others) further are too = absurd are
alike_append (Events f l e ∷ left) more (Events b d s ∷ others) further are too =
    (are.0, are.1, are.2, alike_append left more others further are.3 too)
alike_append (Events f l e ∷ left) more (BadNumber b d v ∷ others) further are too = absurd are
alike_append (Events f l e ∷ left) more (DoubtfulNumber m r s ∷ others) further are too = absurd are
alike_append (Events f l e ∷ left) more (AloneNumber m q ∷ others) further are too = absurd are
alike_append (BadNumber f l w ∷ left) more [] further are too = absurd are
alike_append (BadNumber f l w ∷ left) more (Missing m ∷ others) further are too = absurd are
alike_append (BadNumber f l w ∷ left) more (Events b d s ∷ others) further are too = absurd are
alike_append (BadNumber f l w ∷ left) more (BadNumber b d v ∷ others) further are too =
    (are.0, are.1, are.2, alike_append left more others further are.3 too)
alike_append (BadNumber f l w ∷ left) more (DoubtfulNumber m r s ∷ others) further are too = absurd are
alike_append (BadNumber f l w ∷ left) more (AloneNumber m q ∷ others) further are too = absurd are
alike_append (DoubtfulNumber n i j ∷ left) more [] further are too = absurd are
alike_append (DoubtfulNumber n i j ∷ left) more (Missing m ∷ others) further are too = absurd are
alike_append (DoubtfulNumber n i j ∷ left) more (Events b d s ∷ others) further are too = absurd are
alike_append (DoubtfulNumber n i j ∷ left) more (BadNumber b d v ∷ others) further are too = absurd are
alike_append (DoubtfulNumber n i j ∷ left) more (DoubtfulNumber m r s ∷ others) further are too =
    (are.0, are.1, are.2, alike_append left more others further are.3 too)
alike_append (DoubtfulNumber n i j ∷ left) more (AloneNumber m q ∷ others) further are too = absurd are
alike_append (AloneNumber n p ∷ left) more [] further are too = absurd are
alike_append (AloneNumber n p ∷ left) more (Missing m ∷ others) further are too = absurd are
alike_append (AloneNumber n p ∷ left) more (Events b d s ∷ others) further are too = absurd are
alike_append (AloneNumber n p ∷ left) more (BadNumber b d v ∷ others) further are too = absurd are
alike_append (AloneNumber n p ∷ left) more (DoubtfulNumber m r s ∷ others) further are too = absurd are
alike_append (AloneNumber n p ∷ left) more (AloneNumber m q ∷ others) further are too =
    (are.0, are.1, alike_append left more others further are.2 too)

gap_alike : (missing : ℕ) → AreAlikeParts (gap missing) (gap missing)
gap_alike zero = tt
gap_alike (suc missing) = (refl, tt)

stretch_alike : (next count : ℕ) (events : List Event)
    → AreAlikeParts (stretch next count events) (stretch next count events)
stretch_alike next count [] = tt
stretch_alike next count (event ∷ events) = (refl, refl, refl, tt)

by_both : (left others one other : List LeftPart) → left ≡ one → others ≡ other → AreAlikeParts one other
    → AreAlikeParts left others
by_both left others one other is too are =
    subst (λ l. AreAlikeParts l others) (sym is) (subst (AreAlikeParts one) (sym too) are)

module _ (words : Words) (program : IsProgram words) (mode : Mode) where
  run_once : (run : Run) (next : ℕ) (left others : List LeftPart) → RunLeaves words mode run next left
      → RunLeaves words mode run next others → AreAlikeParts left others
  run_once run next left others (events, described, is) (again, too, other_is) =
      let same = one_log words program (trace_of_run mode run) events again described too in
      let count = length (kept run.missing run.packets) in
      by_both left others (stretch next count events) (stretch next count events) is
      (other_is ∙ ap (stretch next count) (sym same)) (stretch_alike next count events)

  before_once : (run : Run) (next missed : ℕ) (left others : List LeftPart) → LeavesBefore words mode run next missed left
      → LeavesBefore words mode run next missed others → AreAlikeParts left others
  before_once run next zero left others is too = by_both left others [] [] is too tt
  before_once run next (suc missed) left others (one, leaves, is) (other, leaves_too, too) =
      by_both left others (one ++ Missing (suc missed) ∷ []) (other ++ Missing (suc missed) ∷ []) is too
      (alike_append one (Missing (suc missed) ∷ []) other (Missing (suc missed) ∷ [])
      (run_once run next one other leaves leaves_too) (refl, tt))

  pub good_not_bad : (run : Run) (payload : List ℕ) (following : Option ℕ) (packet : Packet) (why : Reason)
      → IsGood words mode run payload following packet → ¬ IsBad words mode run payload following why
  good_not_bad run payload following packet (reason.Packet why) good bad = let fine = good.read in cc
  good_not_bad run payload following packet (reason.Decode why) good bad =
      let same = same_packet payload packet bad.packet good.read bad.read in
      bad.not_described good.described.0 (subst (λ p. Describes words (trace_of_run mode (longer run (p ∷ [])))
      good.described.0) same good.described.1)
  good_not_bad run payload following packet (reason.Closing next) good (closes, follows) =
      let closes_packet : is_closing_packet packet ≡ true = sym (ap is_closing_reading good.read) ∙ closes in
      let none = good.not_early closes_packet in
      cc

  opened_same : (run : Run) (one other : Packet) → one ≡ other
      → (((run.missing ≡ 0) × (run.packets ≡ [])) × ¬ IsOpen one)
      → (((run.missing ≡ 0) × (run.packets ≡ [])) × ¬ IsOpen other)
  opened_same run one other same (first, opens) = (first, subst (λ p. ¬ IsOpen p) same opens)

  early_decode : (run : Run) (payload : List ℕ) (following : Option ℕ) (packet : Packet) (next : ℕ)
      → reading payload ≡ Ok packet → (is_closing_packet packet ≡ true → following ≡ None)
      → is_closing payload ≡ true → following ≡ Some next → ⊥
  early_decode run payload following packet next read not_early closes follows =
      let closes_packet : is_closing_packet packet ≡ true = sym (ap is_closing_reading read) ∙ closes in
      let none = not_early closes_packet in
      cc

  unread_closing : (payload : List ℕ) (why : PackFault) → reading payload ≡ Err why → is_closing payload ≡ true → ⊥
  unread_closing payload why read closes =
      let never : false ≡ true = sym (ap is_closing_reading read) ∙ closes in cc

  one_fault : (payload : List ℕ) (one other : PackFault) → reading payload ≡ Err one → reading payload ≡ Err other
      → one ≡ other
  one_fault payload one other read too = cc

  not_read : (payload : List ℕ) (why : PackFault) (packet : Packet) → reading payload ≡ Err why
      → reading payload ≡ Ok packet → ⊥
  not_read payload why packet unread read = cc

  pub reasons_alike : (run : Run) (payload : List ℕ) (following : Option ℕ) (one other : Reason)
      → IsBad words mode run payload following one → IsBad words mode run payload following other
      → AreAlikeReasons one other
  reasons_alike run payload following (reason.Packet why) (reason.Packet fault) bad too =
      one_fault payload why fault bad too
  reasons_alike run payload following (reason.Packet why) (reason.Decode fault) bad too =
      absurd (not_read payload why too.packet bad too.read)
  reasons_alike run payload following (reason.Packet why) (reason.Closing next) bad (closes, follows) =
      absurd (unread_closing payload why bad closes)
  reasons_alike run payload following (reason.Decode why) (reason.Packet fault) bad too =
      absurd (not_read payload fault bad.packet too bad.read)
  reasons_alike run payload following (reason.Decode why) (reason.Decode fault) bad too =
      let same = same_packet payload bad.packet too.packet bad.read too.read in (
        λ is. too.not_opened.1 (opened_same run bad.packet too.packet same (bad.not_opened.0 is)),
        λ is. bad.not_opened.1 (opened_same run too.packet bad.packet (sym same) (too.not_opened.0 is)),
      )
  reasons_alike run payload following (reason.Decode why) (reason.Closing next) bad (closes, follows) =
      absurd (early_decode run payload following bad.packet next bad.read bad.not_early closes follows)
  reasons_alike run payload following (reason.Closing next) (reason.Packet fault) (closes, follows) too =
      absurd (unread_closing payload fault too closes)
  reasons_alike run payload following (reason.Closing next) (reason.Decode fault) (closes, follows) too =
      absurd (early_decode run payload following too.packet next too.read too.not_early closes follows)
  reasons_alike run payload following (reason.Closing next) (reason.Closing other) (closes, follows) (close, behind) =
      let both : Some next ≡ Some other = sym follows ∙ behind in cc

  module _ (run : Run) (number place : ℕ) (payload : List ℕ) (following : Option ℕ) (goods others : List Bool)
      (Leaves LeavesToo : Run → List LeftPart → Type 0)
      (later : (behind : Run) (left parts : List LeftPart) → Leaves behind left → LeavesToo behind parts
      → (goods ≡ others) × AreAlikeParts left parts) where
    used_once : (good other : Bool) (left parts : List LeftPart)
        → UsedLeaves words mode run number place payload following good Leaves left
        → UsedLeaves words mode run number place payload following other LeavesToo parts
        → (good ∷ goods ≡ other ∷ others) × AreAlikeParts left parts
    used_once true true left parts (packet, is_good, leave) (again, good_too, leave_too) =
        let same = same_packet payload packet again is_good.read good_too.read in
        let behind = later (longer run (again ∷ [])) left parts
        (subst (λ p. Leaves (longer run (p ∷ [])) left) same leave) leave_too in
        (ap (λ l. true ∷ l) behind.0, behind.1)
    used_once true false left parts (packet, is_good, leave) (why, bad, before, leaves, rest, whole, behind) =
        absurd (good_not_bad run payload following packet why is_good bad)
    used_once false true left parts (why, bad, before, leaves, rest, whole, behind) (packet, is_good, leave) =
        absurd (good_not_bad run payload following packet why is_good bad)
    used_once false false left parts (why, bad, before, leaves, rest, whole, behind)
        (fault, bad_too, begun, leaves_too, further, whole_too, behind_too) =
        let below = later (run_of 1 []) rest further behind behind_too in (
          ap (λ l. false ∷ l) below.0,
          by_both left parts (before ++ BadNumber number place why ∷ rest)
              (begun ++ BadNumber number place fault ∷ further) whole whole_too
              (alike_append before (BadNumber number place why ∷ rest) begun
              (BadNumber number place fault ∷ further) (run_once run number before begun leaves leaves_too)
              (refl, refl, reasons_alike run payload following why fault bad bad_too, below.1)),
        )

  -- The entries leave the same, and the same of them are good.
  leaves_once : (entries : List Entry) (run : Run) (next : ℕ) (goods others : List Bool) (left parts : List LeftPart)
      → EntriesLeave words mode run next entries goods left → EntriesLeave words mode run next entries others parts
      → (goods ≡ others) × AreAlikeParts left parts
  leaves_once [] run next [] [] left parts leave too = (refl, run_once run next left parts leave too)
  leaves_once [] run next [] (other ∷ others) left parts leave too = absurd too
  leaves_once [] run next (good ∷ goods) others left parts leave too = absurd leave
  leaves_once (Used number place payload ∷ entries) run next [] others left parts leave too = absurd leave
  leaves_once (Used number place payload ∷ entries) run next (good ∷ goods) [] left parts leave too = absurd too
  leaves_once (Used number place payload ∷ entries) run next (good ∷ goods) (other ∷ others) left parts leave too =
      let used = used_once (run_behind (number - next) run) number place payload (next_used entries) goods others
      (λ behind. EntriesLeave words mode behind (number + 1) entries goods)
      (λ behind. EntriesLeave words mode behind (number + 1) entries others)
      (λ behind left parts. leaves_once entries behind (number + 1) goods others left parts) good other leave.2 too.2
      leave.4 too.4 in (
        used.0,
        by_both left parts (leave.0 ++ leave.2) (too.0 ++ too.2) leave.3 too.3
            (alike_append leave.0 leave.2 too.0 too.2 (before_once run next (number - next) leave.0 too.0 leave.1 too.1)
            used.1),
      )
  leaves_once (Doubtful number first second ∷ entries) run next [] others left parts leave too = absurd leave
  leaves_once (Doubtful number first second ∷ entries) run next (good ∷ goods) [] left parts leave too = absurd too
  leaves_once (Doubtful number first second ∷ entries) run next (good ∷ goods) (other ∷ others) left parts
      (is, before, leaves, rest, whole, behind) (is_too, begun, leaves_too, further, whole_too, behind_too) =
      let below = leaves_once entries (run_of 1 []) number goods others rest further behind behind_too in (
        ap (λ g. g ∷ goods) (is ∙ sym is_too) ∙ ap (λ l. other ∷ l) below.0,
        by_both left parts (before ++ (gap (number - next) ++ DoubtfulNumber number first second ∷ rest))
            (begun ++ (gap (number - next) ++ DoubtfulNumber number first second ∷ further)) whole whole_too
            (alike_append before _ begun _ (run_once run next before begun leaves leaves_too)
            (alike_append (gap (number - next)) (DoubtfulNumber number first second ∷ rest) (gap (number - next))
            (DoubtfulNumber number first second ∷ further) (gap_alike (number - next)) (refl, refl, refl, below.1))),
      )

module _ (words : Words) (program : IsProgram words) (mode : Mode) where
  -- What is beyond the end leaves the same.
  one_beyond : (entry : Entry) (following : Option ℕ) (left other : LeftPart)
      → LeavesBeyond words mode entry following left → LeavesBeyond words mode entry following other
      → AreAlikeParts (left ∷ []) (other ∷ [])
  one_beyond (Used number place payload) following (BadNumber n p why) (BadNumber m q fault) (is, at, bad)
      (too, there, bad_too) = (
        is ∙ sym too,
        at ∙ sym there,
        reasons_alike words program mode (run_of 1 []) payload following why fault bad bad_too,
        tt,
      )
  one_beyond (Used number place payload) following (BadNumber n p why) (AloneNumber m q) (is, at, bad)
      (too, there, packet, good) =
      absurd (good_not_bad words program mode (run_of 1 []) payload following packet why good bad)
  one_beyond (Used number place payload) following (AloneNumber n p) (BadNumber m q why) (is, at, packet, good)
      (too, there, bad) =
      absurd (good_not_bad words program mode (run_of 1 []) payload following packet why good bad)
  one_beyond (Used number place payload) following (AloneNumber n p) (AloneNumber m q) (is, at, packet, good)
      (too, there, again, good_too) = (is ∙ sym too, at ∙ sym there, tt)
  one_beyond (Used number place payload) following (Missing n) other leaves too = absurd leaves
  one_beyond (Used number place payload) following (Events f l e) other leaves too = absurd leaves
  one_beyond (Used number place payload) following (DoubtfulNumber n i j) other leaves too = absurd leaves
  one_beyond (Used number place payload) following (BadNumber n p why) (Missing m) leaves too = absurd too
  one_beyond (Used number place payload) following (BadNumber n p why) (Events b d s) leaves too = absurd too
  one_beyond (Used number place payload) following (BadNumber n p why) (DoubtfulNumber m r s) leaves too = absurd too
  one_beyond (Used number place payload) following (AloneNumber n p) (Missing m) leaves too = absurd too
  one_beyond (Used number place payload) following (AloneNumber n p) (Events b d s) leaves too = absurd too
  one_beyond (Used number place payload) following (AloneNumber n p) (DoubtfulNumber m r s) leaves too = absurd too
  one_beyond (Doubtful number first second) following (DoubtfulNumber n i j) (DoubtfulNumber m r s) is too =
      (is.0 ∙ sym too.0, is.1 ∙ sym too.1, is.2 ∙ sym too.2, tt)
  one_beyond (Doubtful number first second) following (Missing n) other leaves too = absurd leaves
  one_beyond (Doubtful number first second) following (Events f l e) other leaves too = absurd leaves
  one_beyond (Doubtful number first second) following (BadNumber n p why) other leaves too = absurd leaves
  one_beyond (Doubtful number first second) following (AloneNumber n p) other leaves too = absurd leaves
  one_beyond (Doubtful number first second) following (DoubtfulNumber n i j) (Missing m) leaves too = absurd too
  one_beyond (Doubtful number first second) following (DoubtfulNumber n i j) (Events b d s) leaves too = absurd too
  one_beyond (Doubtful number first second) following (DoubtfulNumber n i j) (BadNumber m q why) leaves too = absurd too
  one_beyond (Doubtful number first second) following (DoubtfulNumber n i j) (AloneNumber m q) leaves too = absurd too

  all_beyond : (entries : List Entry) (left others : List LeftPart) → AllLeaveBeyond words mode entries left
      → AllLeaveBeyond words mode entries others → AreAlikeParts left others
  all_beyond [] [] [] leave too = tt
  all_beyond [] [] (other ∷ others) leave too = absurd too
  all_beyond [] (part ∷ left) others leave too = absurd leave
  all_beyond (entry ∷ entries) [] others leave too = absurd leave
  all_beyond (entry ∷ entries) (part ∷ left) [] leave too = absurd too
  all_beyond (entry ∷ entries) (part ∷ left) (other ∷ others) leave too =
      alike_append (part ∷ []) left (other ∷ []) others (one_beyond entry (next_used entries) part other leave.0 too.0)
      (all_beyond entries left others leave.1 too.1)

  -- What a hart leaves is the same, and the same of it is good.
  pub hart_once : (upto beyond : List Entry) (goods others : List Bool) (left parts : List LeftPart)
      → HartLeaves words mode upto beyond goods left → HartLeaves words mode upto beyond others parts
      → (goods ≡ others) × AreAlikeParts left parts
  hart_once upto beyond goods others left parts leave too =
      let once = leaves_once words program mode upto first_run 0 leave.good_first too.good_first leave.first too.first
      leave.leaves too.leaves in (
        leave.goods_are ∙ ap (λ gs. gs ++ none_good beyond) once.0 ∙ sym too.goods_are,
        by_both left parts (leave.first ++ leave.after) (too.first ++ too.after) leave.parts_are too.parts_are
            (alike_append leave.first leave.after too.first too.after once.1
            (all_beyond beyond leave.after too.after leave.beyond_leaves too.beyond_leaves)),
      )
