-- What the entries of messages leave that are collected without a fault: what is collected.
use Rattle.std.proofs.Common.{◌≡◌, ℕ, zero, suc, ◌+◌, ◌-◌, ◌++◌, Bool, true, false, List, []}
use Rattle.std.proofs.Common.{◌∷◌, None, refl, sym, ap, subst, ◌∙◌, arith, append_assoc}
use Rattle.std.specs.Prelude.{Ok}
use Rattle.std.proofs.lemmas.List.{append-nil}
use Rattle.retire.specs.declared.event.Event.{Event}
use Rattle.rvclass.specs.Words.{Words, IsProgram}
use Rattle.legalpath.specs.Join.{join}
use Rattle.payload.specs.Closing.{is_closing_packet, is_closing_reading}
use Rattle.payload.specs.Reading.{reading}
use Rattle.payload.specs.declared.mode.Mode.{Mode}
use Rattle.payload.specs.declared.packet.Packet.{Packet}
use Rattle.decoder.proofs.ExtendingLemmas.{front_describes}
use Rattle.decoder.proofs.UniqueLemmas.{one_log}
use Rattle.decoder.specs.Describes.{Describes}
use Rattle.decoder.specs.Order.{open_packet}
use Rattle.decoder.specs.SettledPieces.{settled_pieces}
use Rattle.message.specs.Accepting.{next_of}
use Rattle.message.specs.Harts.{newcomer}
use Rattle.message.specs.OfHart.{packet_or_none}
use Rattle.message.specs.declared.hart.Hart.{Hart}
use Rattle.message.specs.declared.message.Message.{Message}
use Rattle.losses.specs.DescribedParts.{MessagesDescribe, RunsDescribe}
use Rattle.losses.specs.Parts.{LogPart, gap as log_gap, stretch as log_stretch}
use Rattle.losses.specs.Runs.{Run, first_run, from_sync, longer, mode_in, opened, over_before, run_behind}
use Rattle.losses.specs.Runs.{run_of, runs, runs_on, trace_of_run}
use Rattle.losses.proofs.InTurn.{AreTakenFrom}
use Rattle.losses.proofs.RunLemmas.{describes_nothing, from_sync-begun, mode_kept}
use Rattle.salvaging.specs.Bad.{IsBad}
use Rattle.salvaging.specs.Ends.{IsEnd}
use Rattle.salvaging.specs.Entries.{Entry, Used, Doubtful, next_used}
use Rattle.salvaging.specs.Leaving.{EntriesLeave, LeavesBefore, RunLeaves, UsedLeaves, mode_by, own_mode}
use Rattle.salvaging.specs.LeftParts.{LeftPart, Missing, gap}
use Rattle.salvaging.specs.LogsSalvaged.{AreLogParts}
use Rattle.salvaging.specs.PartsIn.{parts_in}
use Rattle.salvaging.specs.Salvaged.{IsSalvagedHart}
use Rattle.salvaging.specs.declared.reason.Reason.{Reason}
use Rattle.salvaging.specs.declared.reason.Reason.TheVariants as reason
use Rattle.salvaging.specs.declared.salvaged.SalvagedHart.{SalvagedHart}
use Rattle.salvaging.proofs.EntriesOfLog.{parts_append, parts_gap, parts_stretch, same_packet}
use Rattle.salvaging.proofs.WholeHarts.{HasNoEnd, leave_whole, uncut}

-- The entries are used, and are these messages.
abbrev pub HaveMessages : List Entry → List Message → Type 0
HaveMessages [] [] = Unit {0}
HaveMessages (Used number place payload ∷ entries) (message ∷ messages) =
    (number ≡ message.number) × (payload ≡ message.payload) × HaveMessages entries messages
HaveMessages entries messages = ⊥

-- The run with a message's packet.
abbrev run_with : ℕ → Run → Message → Run
run_with missed run message = longer (run_behind missed run) (packet_or_none (reading message.payload))

-- Some log is described by the trace of a run.
abbrev IsDescribed : Words → Mode → Run → Type 0
IsDescribed words mode run = (log : List Event) × Describes words (trace_of_run mode run) log

module _ (words : Words) (program : IsProgram words) (mode : Mode) where
  -- The first packets of a run describe a log where all do.
  first_described : (missing : ℕ) (packets more : List Packet) → IsDescribed words mode (run_of missing (packets ++
      more))
      → IsDescribed words mode (run_of missing packets)
  first_described zero packets more (log, described) =
      let front = front_describes words packets more log described in
      (join (settled_pieces packets described.pieces), front.0)
  first_described (suc missing) packets [] (log, described) =
      (log, subst (λ l. Describes words (opened mode (from_sync l)) log) (append-nil packets) described)
  first_described (suc missing) packets (p ∷ more) (log, described) =
      let whole = append_assoc packets (p ∷ []) more in
      let longer_one = first_described (suc missing) (packets ++ p ∷ []) more
      (log, subst (λ l. Describes words (opened mode (from_sync l)) log) (sym whole) described) in
      by_sync (from_sync packets) refl longer_one
    where
      by_sync : (starts : List Packet) → from_sync packets ≡ starts
          → IsDescribed words mode (run_of (suc missing) (packets ++ p ∷ []))
          → IsDescribed words mode (run_of (suc missing) packets)
      by_sync [] is found =
          ([], subst (λ l. Describes words (opened mode l) []) (sym is) (describes_nothing words))
      by_sync (q ∷ qs) is (found, described) =
          let begun = from_sync-begun packets p q qs is in
          let all = subst (λ l. Describes words (opened mode l) found) begun described in
          let front = front_describes words (open_packet mode ∷ q ∷ qs) (p ∷ []) found all in
          let events = join (settled_pieces (open_packet mode ∷ q ∷ qs) all.pieces) in
          (events, subst (λ l. Describes words (opened mode l) events) (sym is) front.0)

  -- The run under way describes a log where the runs do.
  run_described : (messages : List Message) (run : Run) (next : ℕ) (parts : List LogPart)
      → RunsDescribe words mode (runs_on run next messages) parts → IsDescribed words mode run
  run_described [] run next parts (events, rest, is, described, none) = (events, described)
  run_described (message ∷ messages) run next parts describe =
      by_missed (message.number - next) (λ parts rest. run_described messages
      (run_with zero run message) (message.number + 1) parts rest) describe
    where
      by_missed : (missed : ℕ)
          → ((parts : List LogPart) → RunsDescribe words mode
          (runs_on (run_with zero run message) (message.number + 1) messages) parts
          → IsDescribed words mode (run_with zero run message))
          → RunsDescribe words mode
          (over_before missed run ++ runs_on (run_with missed run message) (message.number + 1) messages) parts
          → IsDescribed words mode run
      by_missed zero later describe =
          first_described run.missing run.packets (packet_or_none (reading message.payload)) (later parts describe)
      by_missed (suc missed) later describe = (describe.0, describe.3)

  -- A run leaves the stretch that is collected of it.
  run_left : (run : Run) (next : ℕ) (events : List Event) → Describes words (trace_of_run mode run) events
      → (before : List LeftPart) → RunLeaves words mode run next before → AreLogParts before (log_stretch events)
  run_left run next events described before (others, others_described, is) =
      let same = one_log words program (trace_of_run mode run) others events others_described described in
      subst (λ l. AreLogParts before (log_stretch l)) same
      (subst (λ l. AreLogParts l (log_stretch others)) (sym is) (parts_stretch next _ others))

  -- What the entries leave behind a run under way is what is collected behind its gap.
  abbrev LeaveCollected : List Entry → List Message → List Bool → Type 0
  LeaveCollected entries messages goods =
      (run : Run) (next : ℕ) (left : List LeftPart) (parts : List LogPart)
      → EntriesLeave words mode run next entries goods left
      → RunsDescribe words mode (runs_on run next messages) parts → AreLogParts (gap run.missing ++ left) parts

  module _ (message : Message) (messages : List Message) (entries : List Entry) (goods : List Bool)
      (number place : ℕ) (payload : List ℕ) (number_is : number ≡ message.number) (payload_is : payload ≡ message.payload)
      (packet : Packet) (read : reading message.payload ≡ Ok packet)
      (last : is_closing_packet packet ≡ true → next_used entries ≡ None)
      (later : LeaveCollected entries messages goods) where
    payload_read : reading payload ≡ Ok packet
    payload_read = ap reading payload_is ∙ read

    none_bad : (run : Run) → IsDescribed words mode (longer run (packet ∷ [])) → (why : Reason)
        → ¬ IsBad words mode run payload (next_used entries) why
    none_bad run described (reason.Packet why) bad = let fine = payload_read in cc
    none_bad run described (reason.Decode why) bad =
        let same = same_packet payload packet bad.packet payload_read bad.read in
        bad.not_described described.0 (subst (λ p. Describes words (trace_of_run mode (longer run (p ∷ [])))
        described.0)
        same described.1)
    none_bad run described (reason.Closing next) (closes, follows) =
        let closes_packet : is_closing_packet packet ≡ true = sym (ap is_closing_reading payload_read) ∙ closes in
        let none = last closes_packet in
        cc

    -- The message goes on with this run.
    goes_on : (run : Run) (good : Bool) (left : List LeftPart) (parts : List LogPart)
        → UsedLeaves words mode run number place payload (next_used entries) good
        (λ behind. EntriesLeave words mode behind (number + 1) entries goods) left
        → RunsDescribe words mode
        (runs_on (longer run (packet_or_none (reading message.payload))) (message.number + 1) messages) parts
        → AreLogParts (gap run.missing ++ left) parts
    goes_on run true left parts (other, good, leave) describe =
        let same = same_packet payload other packet good.read payload_read in
        let runs_are = subst (λ l. RunsDescribe words mode (runs_on (longer run (packet_or_none l)) (message.number + 1)
        messages) parts) read describe in
        later (longer run (packet ∷ [])) (message.number + 1) left parts
        (subst (λ n. EntriesLeave words mode (longer run (packet ∷ [])) (n + 1) entries goods left) number_is
        (subst (λ p. EntriesLeave words mode (longer run (p ∷ [])) (number + 1) entries goods left) same leave))
        runs_are
    goes_on run false left parts (why, bad, before, leaves, rest, whole, behind) describe =
        let runs_are = subst (λ l. RunsDescribe words mode (runs_on (longer run (packet_or_none l)) (message.number + 1)
        messages) parts) read describe in
        absurd (none_bad run (run_described messages (longer run (packet ∷ [])) (message.number + 1) parts runs_are) why
        bad)

    with_message : (run : Run) (next missed : ℕ) (good : Bool) (left before rest : List LeftPart)
        (parts : List LogPart) → LeavesBefore words mode run next missed before → left ≡ before ++ rest
        → UsedLeaves words mode (run_behind missed run) number place payload (next_used entries) good
        (λ behind. EntriesLeave words mode behind (number + 1) entries goods) rest
        → RunsDescribe words mode
        (over_before missed run ++ runs_on (run_with missed run message) (message.number + 1) messages) parts
        → AreLogParts (gap run.missing ++ left) parts
    with_message run next zero good left before rest parts leaves whole used describe =
        let left_is : left ≡ rest = whole ∙ ap (λ l. l ++ rest) leaves in
        subst (λ l. AreLogParts (gap run.missing ++ l) parts) (sym left_is)
        (goes_on (run_behind zero run) good rest parts used describe)
    with_message run next (suc missed) good left before rest parts (stretch_left, leaves, gap_is) whole used
        (events, others, parts_are, described, describe) =
        let left_is : left ≡ stretch_left ++ (gap (suc missed) ++ rest) =
        whole ∙ ap (λ l. l ++ rest) gap_is ∙ append_assoc stretch_left (Missing (suc missed) ∷ []) rest in
        let behind = goes_on (run_behind (suc missed) run) good rest others used describe in
        subst (λ l. AreLogParts (gap run.missing ++ left) l) (sym parts_are)
        (subst (λ l. AreLogParts (gap run.missing ++ l) (log_gap run.missing ++ (log_stretch events ++ others)))
        (sym left_is)
        (parts_append (gap run.missing) _ (log_gap run.missing) _ (parts_gap run.missing)
        (parts_append stretch_left _ (log_stretch events) _ (run_left run next events described stretch_left leaves)
        behind)))

  -- No entry is used behind a message that closes the trace.
  none_behind : (number : ℕ) (packet : Packet) (messages : List Message) (entries : List Entry)
      → is_closing_packet packet ≡ true → AreTakenFrom (next_of number packet) messages
      → HaveMessages entries messages → next_used entries ≡ None
  none_behind number packet [] [] closes taken are = refl
  none_behind number packet [] (Used n at payload ∷ entries) closes taken are = absurd are
  none_behind number packet [] (Doubtful n one other ∷ entries) closes taken are = absurd are
  none_behind number packet (message ∷ messages) entries closes (taken, later) are =
      let goes = taken.goes in cc

  -- So a hart with these messages has no end before its last one.
  pub collected_has_no_end : (reads : Mode) (entries : List Entry) (messages : List Message)
      (expects : Hart) → AreTakenFrom expects messages → HaveMessages entries messages
      → HasNoEnd words reads entries
  collected_has_no_end reads entries messages expects taken are front last later is =
      by_front front messages expects taken (subst (λ es. HaveMessages es messages) is are)
    where
      by_front : (front : List Entry) (messages : List Message) (expects : Hart)
          → AreTakenFrom expects messages → HaveMessages (front ++ last ∷ later) messages
          → ¬ IsEnd words reads last later
      by_front [] messages expects taken are end = by_last last messages taken are end
        where
          by_last : (last : Entry) (messages : List Message) → AreTakenFrom expects messages
              → HaveMessages (last ∷ later) messages → ¬ IsEnd words reads last later
          by_last (Doubtful number one other) messages taken are end = end
          by_last (Used number at payload) [] taken are end = absurd are
          by_last (Used number at payload) (message ∷ messages) (taken, further)
              (number_is, payload_is, are) (closes, some, none) =
              let closes_packet : is_closing_packet taken.packet ≡ true =
              sym (ap (λ l. is_closing_reading (reading l)) payload_is ∙ ap is_closing_reading taken.read) ∙ closes in
              some (none_behind message.number taken.packet messages later closes_packet further are)
      by_front (Used number at payload ∷ front) [] expects taken are end = absurd are
      by_front (Doubtful number one other ∷ front) messages expects taken are end = by_messages messages are
        where
          by_messages : (messages : List Message)
              → HaveMessages (Doubtful number one other ∷ front ++ last ∷ later) messages → ⊥
          by_messages [] are = are
          by_messages (message ∷ messages) are = are
      by_front (Used number at payload ∷ front) (message ∷ messages) expects (taken, further)
          (number_is, payload_is, are) end =
          by_front front messages (next_of message.number taken.packet) further are end

  pub entries_collected : (messages : List Message) (entries : List Entry) (goods : List Bool)
      (expects : Hart) → AreTakenFrom expects messages → HaveMessages entries messages
      → LeaveCollected entries messages goods
  entries_collected [] [] [] expects taken are = λ run next left parts leave describe.
      collected_at_end run next left parts leave describe
    where
      collected_at_end : (run : Run) (next : ℕ) (left : List LeftPart) (parts : List LogPart)
          → RunLeaves words mode run next left → RunsDescribe words mode (run ∷ []) parts
          → AreLogParts (gap run.missing ++ left) parts
      collected_at_end run next left parts leave (events, others, parts_are, described, none) =
          subst (AreLogParts (gap run.missing ++ left))
          (sym (parts_are ∙ ap (λ l. log_gap run.missing ++ (log_stretch events ++ l)) none))
          (parts_append (gap run.missing) left (log_gap run.missing) (log_stretch events ++ []) (parts_gap run.missing)
          (subst (AreLogParts left) (sym (append-nil (log_stretch events)))
          (run_left run next events described left leave)))
  entries_collected [] [] (good ∷ goods) expects taken are = λ run next left parts leave describe. absurd leave
  entries_collected [] (Used number at payload ∷ entries) goods expects taken are = absurd are
  entries_collected [] (Doubtful number one other ∷ entries) goods expects taken are = absurd are
  entries_collected (message ∷ messages) [] goods expects taken are = absurd are
  entries_collected (message ∷ messages) (Doubtful number one other ∷ entries) goods expects taken are =
      absurd are
  entries_collected (message ∷ messages) (Used number at payload ∷ entries) [] expects taken are =
      λ run next left parts leave describe. absurd leave
  entries_collected (message ∷ messages) (Used number at payload ∷ entries) (good ∷ goods) expects
      (taken, further) (number_is, payload_is, are) = λ run next left parts leave describe.
      with_message message messages entries goods number at payload number_is payload_is taken.packet taken.read
      (λ closes. none_behind message.number taken.packet messages entries closes further are)
      (entries_collected messages entries goods (next_of message.number taken.packet) further are)
      run next (number - next) good left leave.0 leave.2 parts leave.1 leave.3 leave.4
      (subst (λ n. RunsDescribe words mode
      (over_before (n - next) run ++ runs_on (run_with (n - next) run message) (message.number + 1) messages) parts)
      (sym number_is) describe)

-- The first message's number says which mode the runs are read in.
first_mode : (mode : Mode) (message : Message) (messages : List Message) (packet : Packet)
    → reading message.payload ≡ Ok packet → (number missed : ℕ) → number ≡ missed
    → mode_in mode (over_before missed first_run
    ++ runs_on (longer (run_behind missed first_run) (packet_or_none (reading message.payload)))
    (message.number + 1) messages) ≡ mode_by number mode (reading message.payload)
first_mode mode message messages packet read zero zero is =
    ap (λ r. mode_in mode (runs_on (run_of 0 (packet_or_none r)) (message.number + 1) messages)) read
    ∙ mode_kept mode packet [] (message.number + 1) messages
    ∙ sym (ap (mode_by 0 mode) read)
first_mode mode message messages packet read zero (suc missed) is = cc
first_mode mode message messages packet read (suc number) zero is = cc
first_mode mode message messages packet read (suc number) (suc missed) is = refl

pub own_mode_is : (mode : Mode) (entries : List Entry) (messages : List Message) → HaveMessages entries messages
    → AreTakenFrom newcomer messages → own_mode mode entries ≡ mode_in mode (runs messages)
own_mode_is mode [] [] are taken = refl
own_mode_is mode [] (message ∷ messages) are taken = absurd are
own_mode_is mode (Used number at payload ∷ entries) [] are taken = absurd are
own_mode_is mode (Doubtful number one other ∷ entries) [] are taken = absurd are
own_mode_is mode (Doubtful number one other ∷ entries) (message ∷ messages) are taken = absurd are
own_mode_is mode (Used number at payload ∷ entries) (message ∷ messages) (number_is, payload_is, are)
    (taken, later) =
    ap (λ n. mode_by n mode (reading payload)) number_is
    ∙ ap (λ l. mode_by message.number mode (reading l)) payload_is
    ∙ sym (first_mode mode message messages taken.packet taken.read message.number (message.number - 0) (omega arith))

-- What is salvaged of a hart whose messages are taken in turn: it ends at its last entry, and its parts are those that
-- the messages describe.
pub hart_left : {A : Type 0} (words : Words) → IsProgram words → (mode : Mode) (all messages : List Message)
    (one : SalvagedHart A) (salvaged : IsSalvagedHart words mode all one) → HaveMessages salvaged.entries messages
    → AreTakenFrom newcomer messages → (parts : List LogPart) → MessagesDescribe words mode messages parts
    → (salvaged.upto ≡ salvaged.entries) × AreLogParts (parts_in one.parts.items) parts
hart_left words program mode all messages one salvaged have taken parts described =
    let entries = salvaged.entries in
    let goods = salvaged.goods in
    let left = parts_in one.parts.items in
    let own = own_mode mode entries in
    let whole = uncut words own entries salvaged.upto salvaged.beyond salvaged.cut
    (collected_has_no_end words program own own entries messages newcomer taken have) in
    let leaves = subst (λ m. EntriesLeave words m first_run 0 entries goods left)
    (own_mode_is mode entries messages have taken)
    (leave_whole words own entries salvaged.upto salvaged.beyond goods left whole.0 whole.1 salvaged.parts) in (
      whole.0,
      entries_collected words program (mode_in mode (runs messages)) messages entries goods newcomer taken have
          first_run 0 left parts leaves described,
    )
