-- What is collected of messages of legal logs: the parts of the logs, and no fault but that an allocation failed.
use Rattle.std.proofs.Common.{◌≡◌, ◌⊎◌, inl, inr, ℕ, ◌+◌, ◌<◌, All, List, [], ◌∷◌, ◌++◌, map, length, Some, Err}
use Rattle.std.proofs.Common.{slice_get, refl, sym, ap, subst, ◌∙◌, arith, append_assoc}
use Rattle.std.specs.Prelude.{IsOk}
use Rattle.std.proofs.lemmas.List.{append-nil, get_or-replicate, length-replicate}
use Rattle.std.proofs.lemmas.List.Elements.{All-head, All-tail}
use Rattle.std.proofs.lemmas.Option.{get_or_from_slice_get, slice_get_within}
use Rattle.retire.specs.declared.event.Event.{Event}
use Rattle.rvclass.proofs.WordsLemmas.{words_of-IsProgram}
use Rattle.rvclass.specs.Fetch.{words_of}
use Rattle.rvclass.specs.Image.{Image}
use Rattle.rvclass.specs.Words.{Words, IsProgram}
use Rattle.legalpath.specs.Legal.{Legal}
use Rattle.legalpath.specs.ProgramLog.{ProgramLog, IsLegalLog}
use Rattle.payload.specs.declared.mode.Mode.{Mode}
use Rattle.payload.specs.declared.packet.Packet.{Packet}
use Rattle.encoder.specs.Packets.{packets}
use Rattle.decoder.proofs.UniqueLemmas.{one_log}
use Rattle.decoder.specs.Describes.{Describes}
use Rattle.decoder.specs.declared.fault.DecodeFault.{DecodeFault}
use Rattle.message.proofs.Elements.{All-slice_get, slice_get-some}
use Rattle.message.proofs.OfHartLemmas.{of_hart-append}
use Rattle.message.specs.Accepted.{newcomers}
use Rattle.message.specs.Harts.{newcomer}
use Rattle.message.specs.OfHart.{of_hart}
use Rattle.message.specs.declared.fault.DemuxFault.{DemuxFault}
use Rattle.message.specs.declared.hart.Hart.{Hart}
use Rattle.message.specs.declared.message.Message.{Message}
use Rattle.losses.specs.Apart.{AreRising}
use Rattle.losses.specs.Collected.{AreCollected}
use Rattle.losses.specs.DescribedParts.{AreDescribed, MessagesDescribe, RunsDescribe}
use Rattle.losses.specs.Losses.{AreOfLogs, BeginAtZero, numbers_of}
use Rattle.losses.specs.Parts.{LogPart, gap, parts, stretch}
use Rattle.losses.specs.PartsIn.{parts_in}
use Rattle.losses.specs.Runs.{Run, mode_in, runs, trace_of_last, trace_of_run}
use Rattle.losses.specs.Stops.{AreAcceptedLossy, CollectingStopsBy, IsRefusedAt, IsUndecodedAt}
use Rattle.losses.specs.declared.fault.LossyFault.{LossyFault}
use Rattle.losses.specs.declared.fault.LossyFault.TheVariants as fault
use Rattle.losses.specs.declared.part.HartPieces.{HartPieces}
use Rattle.losses.proofs.InTurn.{AreTakenFrom, accepted_at, accepted_from}
use Rattle.losses.proofs.MessagesOfLog.{some_describe, some_have, taken_in_turn}
use Rattle.losses.proofs.RunLemmas.{describes_nothing}
use Rattle.losses.proofs.RunsOfLog.{HavePackets, number_of}

-- Runs describe one list of parts.
runs_describe_one : (words : Words) → IsProgram words → (mode : Mode) (all : List Run) (left others : List LogPart)
    → RunsDescribe words mode all left → RunsDescribe words mode all others → left ≡ others
runs_describe_one words program mode [] left others one other = one ∙ sym other
runs_describe_one words program mode (run ∷ all) left others (events, rest, is, described, later)
    (more, further, is_too, described_too, later_too) =
    is
    ∙ ap (λ e. gap run.missing ++ (stretch e ++ rest))
    (one_log words program (trace_of_run mode run) events more described described_too)
    ∙ ap (λ l. gap run.missing ++ (stretch more ++ l))
    (runs_describe_one words program mode all rest further later later_too)
    ∙ sym is_too

-- The trace of the last of them describes some events.
last_described : (words : Words) (mode : Mode) (all : List Run) (left : List LogPart) → RunsDescribe words mode all left
    → (log : List Event) × Describes words (trace_of_last mode all) log
last_described words mode [] left describe = ([], describes_nothing words)
last_described words mode (run ∷ []) left (events, rest, is, described, later) = (events, described)
last_described words mode (run ∷ next ∷ all) left (events, rest, is, described, later) =
    last_described words mode (next ∷ all) rest later

-- What is known of messages is known of the first of them.
have_front : (ps : List Packet) (front more : List Message) → HavePackets ps (front ++ more) → HavePackets ps front
have_front ps [] more have = tt
have_front ps (message ∷ front) more have = (have.0, have_front ps front more have.1)

rising_front : (from : ℕ) (front more : List Message) → AreRising from (map number_of (front ++ more))
    → AreRising from (map number_of front)
rising_front from [] more rising = tt
rising_front from (message ∷ front) more rising =
    (rising.0, rising_front (message.number + 1) front more rising.1)

mode_front : (handed mode : Mode) (front more : List Message)
    → (handed ≡ mode) ⊎ BeginAtZero (map number_of (front ++ more))
    → (handed ≡ mode) ⊎ BeginAtZero (map number_of front)
mode_front handed mode front more (inl same) = inl same
mode_front handed mode [] more (inr begin) = inr tt
mode_front handed mode (message ∷ front) more (inr begin) = inr begin

all_middle : {X : Type 0} (P : X → Type 0) (front : List X) (x : X) (later : List X) → All P (front ++ x ∷ later) → P x
all_middle P [] x later all = All-head P x later all
all_middle P (first ∷ front) x later all =
    all_middle P front x later (All-tail P first (front ++ x ∷ later) all)

not_ok : (why : DemuxFault) → ¬ IsOk {T = Packet × ℕ} (Err why)
not_ok why ok = cc

module _ (program : Image) (period : ℕ) (handed : Mode) (own : ℕ → Mode) (logs : List ProgramLog)
    (messages : List Message) (of_logs : AreOfLogs program period handed own logs messages) where
  module _ (hart : ℕ) (log : ProgramLog) (at_log : slice_get logs hart ≡ Some log) where
    -- The log is a legal one of the program, and its messages that came have the packets of their numbers, which rise.
    legal : IsLegalLog log
    legal = All-slice_get IsLegalLog logs hart log at_log of_logs.legal

    same : log.program ≡ program
    same = All-slice_get (λ (l : ProgramLog). l.program ≡ program) logs hart log at_log of_logs.same

    pub is_program : IsProgram (words_of program)
    is_program = subst (λ p. IsProgram (words_of p)) same (words_of-IsProgram log.program legal.image)

    pub is_legal : Legal (words_of program) log.events
    is_legal = subst (λ p. Legal (words_of p) log.events) same legal.legal

    of_log : HavePackets (packets (words_of log.program) period (own hart) log.events) (of_hart hart messages)
        × AreRising 0 (numbers_of hart messages)
    of_log = some_have period (own hart) log legal hart (of_hart hart messages) 0 (of_logs.some hart log at_log)

    pub rising : AreRising 0 (numbers_of hart messages)
    rising = of_log.1

    taken : AreTakenFrom newcomer (of_hart hart messages)
    taken = taken_in_turn period (own hart) log legal (of_hart hart messages) newcomer of_log.0 of_log.1
        (λ p later is. refl)

    known : (handed ≡ own hart) ⊎ BeginAtZero (numbers_of hart messages)
    known = of_logs.mode_known hart (slice_get_within logs hart log at_log)

    -- The first of the hart's messages describe the parts by their numbers.
    front_describe : (front more : List Message) → of_hart hart messages ≡ front ++ more
        → MessagesDescribe (words_of program) handed front
        (parts (words_of program) period (own hart) log.events (map number_of front))
    front_describe front more is =
        let ps = packets (words_of log.program) period (own hart) log.events in
        subst (λ p. MessagesDescribe (words_of p) handed front
        (parts (words_of p) period (own hart) log.events (map number_of front))) same
        (some_describe period (own hart) log legal handed front
        (have_front ps front more (subst (HavePackets ps) is of_log.0))
        (rising_front 0 front more (subst (λ l. AreRising 0 (map number_of l)) is of_log.1))
        (mode_front handed (own hart) front more
        (subst (λ l. (handed ≡ own hart) ⊎ BeginAtZero (map number_of l)) is known)))

    hart_parts : (found : List LogPart) → MessagesDescribe (words_of program) handed (of_hart hart messages) found
        → found ≡ parts (words_of program) period (own hart) log.events (numbers_of hart messages)
    hart_parts found described =
        runs_describe_one (words_of program) is_program (mode_in handed (runs (of_hart hart messages)))
        (runs (of_hart hart messages)) found
        (parts (words_of program) period (own hart) log.events (numbers_of hart messages)) described
        (front_describe (of_hart hart messages) [] (sym (append-nil (of_hart hart messages))))

  -- What the messages describe are the parts of the logs.
  pub collected_of_logs : {A : Type 0} (harts : List (HartPieces A)) → length harts ≡ length logs
      → AreDescribed (words_of program) handed messages harts → AreCollected program period own logs messages harts
  collected_of_logs harts count described = record {
    count = count;
    parts = λ hart log pieces at_log at_pieces.
        hart_parts hart log at_log (parts_in pieces.parts.items) (described.parts hart pieces at_pieces);
    closed = described.closed;
  }

  -- A demultiplexer accepts the messages.
  accepted : AreAcceptedLossy (newcomers (length logs)) messages
  accepted = accepted_from messages (newcomers (length logs))
      (subst (λ n. All (λ (m : Message). m.hart < n) messages) (sym (length-replicate (length logs) newcomer))
      of_logs.known) each
    where
      each : (hart : ℕ) (expects : Hart) → slice_get (newcomers (length logs)) hart ≡ Some expects
          → AreTakenFrom expects (of_hart hart messages)
      each hart expects at =
          let within = slice_get_within (newcomers (length logs)) hart expects at in
          let many = length-replicate (length logs) newcomer in
          let new : newcomer ≡ expects =
          sym (get_or-replicate (length logs) hart newcomer expects (omega (arith, within, many)))
          ∙ get_or_from_slice_get (newcomers (length logs)) hart expects expects at in
          let log = slice_get-some logs hart (omega (arith, within, many)) in
          subst (λ e. AreTakenFrom e (of_hart hart messages)) new (taken hart log.0 log.1)

  module _ (harts place : ℕ) where
    none_refused : (why : DemuxFault) → length logs ≡ harts
        → ¬ IsRefusedAt (words_of program) handed harts messages place why
    none_refused why count r =
        let all = subst (λ n. AreAcceptedLossy (newcomers n) messages) count accepted in
        not_ok why (subst IsOk r.refused (accepted_at (newcomers harts) r.front r.later r.message
        (subst (AreAcceptedLossy (newcomers harts)) r.whole all)))

    none_undecoded : (why : DecodeFault) → ¬ IsUndecodedAt (words_of program) handed harts messages place why
    none_undecoded why u =
        let hart = u.message.hart in
        let within = all_middle (λ (m : Message). m.hart < length logs) u.front u.message u.later
        (subst (All (λ (m : Message). m.hart < length logs)) u.whole of_logs.known) in
        let log = slice_get-some logs hart within in
        let front = of_hart hart (u.front ++ u.message ∷ []) in
        let split : of_hart hart messages ≡ front ++ of_hart hart u.later =
        ap (of_hart hart) (u.whole ∙ sym (append_assoc u.front (u.message ∷ []) u.later))
        ∙ of_hart-append hart (u.front ++ u.message ∷ []) u.later in
        let found = last_described (words_of program) (mode_in handed (runs front)) (runs front)
        (parts (words_of program) period (own hart) log.0.events (map number_of front))
        (front_describe hart log.0 log.1 front (of_hart hart u.later) split) in
        u.not_decoded.not_described found.0 found.1

  -- So collecting stops only where an allocation fails.
  pub memory_alone : (harts : ℕ) → length logs ≡ harts → (why : LossyFault)
      → CollectingStopsBy (words_of program) handed harts messages why → why ≡ fault.Memory
  memory_alone harts count (fault.Demux place why) stops = absurd (none_refused harts place why count stops)
  memory_alone harts count (fault.Decode place why) stops = absurd (none_undecoded harts place why stops)
  memory_alone harts count fault.Memory stops = refl
