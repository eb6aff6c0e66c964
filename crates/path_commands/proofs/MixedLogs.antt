-- What captures of logs whose messages are mixed are to an audit, and what they decode to.
use Rattle.std.proofs.Common.{◌≡◌, ◌⊎◌, ◌<◌, ◌≤◌, ◌∙◌, ◌++◌, All, arith, eqb, inl, inr, refl, subst, sym, ℕ, List, []}
use Rattle.std.proofs.Common.{◌∷◌, Bool, true, false, Option, Some, None, length, get_or, slice_get}
use Rattle.std.proofs.lemmas.Bool.{eqb-false, eqb-true}
use Rattle.std.proofs.lemmas.List.Elements.{All-cons, All-head, All-nil, All-tail, All-weaker}
use Rattle.std.proofs.lemmas.Option.{slice_get_cases}
use Rattle.retire.specs.declared.event.Event.{Event}
use Rattle.rvclass.specs.Fetch.{words_of}
use Rattle.rvclass.specs.Image.{Image}
use Rattle.legalpath.specs.ProgramLog.{ProgramLog}
use Rattle.encoder.specs.Payloads.{payloads}
use Rattle.payload.specs.declared.mode.Mode.{Mode}
use Rattle.message.proofs.OfHartLemmas.{of_hart-others, of_hart-own}
use Rattle.message.specs.Capture.{capture}
use Rattle.message.specs.Cut.{IsMessage}
use Rattle.message.specs.Header.{IsMarked}
use Rattle.message.specs.OfHart.{of_hart}
use Rattle.message.specs.Version.{most_harts}
use Rattle.message.specs.declared.header.Version.{Version}
use Rattle.message.specs.declared.header.Version.TheVariants.{One, Two}
use Rattle.message.specs.declared.message.Message.{Message}
use Rattle.captures.proofs.LogMessages.{IsSent as IsSentByHart, all_sent, of_hart-log}
use Rattle.captures.proofs.SoundLogs.{sound_logs}
use Rattle.captures.specs.Decoded.{IsDecoded}
use Rattle.captures.specs.Messages.{messages_of_harts}
use Rattle.captures.specs.Returned.{AreReturned}
use Rattle.captures.specs.Versions.{header_of, start_bytes}
use Rattle.captures.specs.Whole.{BeginsWith, IsWhole}
use Rattle.captures.specs.declared.outcome.CaptureFault.{CaptureFault}
use Rattle.auditing.specs.DecodedAgain.{AreAllWhole}
use Rattle.auditing.specs.Sent.{AreInTurn, IsSent, known_harts}
use Rattle.path_commands.proofs.DecodedCaptures.{mixed_captures, unmarked}
use Rattle.path_commands.proofs.GeneratedCaptures.{IsNumbered, all_hold, all_in_turn, none_behind, whole_alike}
use Rattle.path_commands.specs.DecodedLogs.{IsOfMixedLogs, header_in}

-- What holds of all messages holds of those of a hart.
own_hold : (hart : ℕ) (P : Message → Type 0) (messages : List Message) → All P messages → All P (of_hart hart messages)
own_hold hart P [] all = All-nil P
own_hold hart P (message ∷ messages) all =
    by (eqb message.hart hart) refl (own_hold hart P messages (All-tail P message messages all))
  where
    by : (b : Bool) → eqb message.hart hart ≡ b → All P (of_hart hart messages) → All P (of_hart hart (message ∷ messages))
    by true is rest =
        subst (λ h. All P (of_hart h (message ∷ messages))) (eqb-true message.hart hart is)
        (subst (All P) (sym (of_hart-own message messages))
        (All-cons P message (of_hart message.hart messages) (All-head P message messages all)
        (subst (λ h. All P (of_hart h messages)) (sym (eqb-true message.hart hart is)) rest)))
    by false is rest =
        subst (All P)
        (sym (of_hart-others hart message messages (λ same. eqb-false message.hart hart is same))) rest

module _ (period : ℕ) (mode : Mode) (version : Version) (logs : List ProgramLog) (bytes : List ℕ)
    (messages : List Message) (is : IsOfMixedLogs period mode version logs bytes messages) where
  abbrev all : List Message
  all = messages_of_harts period mode 0 logs

  -- Behind the last log no hart has a message.
  none : (hart : ℕ) → length logs ≤ hart → of_hart hart messages ≡ []
  none hart past = is.same hart ∙ none_behind period mode hart 0 logs (omega (arith, past))

  ranges : All IsMessage messages
  ranges = all_hold (length logs) IsMessage [] messages each none
    where
      all_in_range : All IsMessage all
      all_in_range =
          let few = is.start.harts in
          All-weaker (IsSentByHart (length logs)) IsMessage (λ message is. is.ranges) all
          (all_sent period mode (length logs) 0 logs (omega arith) (omega (arith, few))
          (sound_logs period mode logs is.legal))

      each : (hart : ℕ) → hart < length logs → All IsMessage (of_hart hart messages)
      each hart within = subst (All IsMessage) (sym (is.same hart)) (own_hold hart IsMessage all all_in_range)

  numbered : (hart : ℕ) → IsNumbered hart messages
  numbered hart = by (slice_get_cases logs hart).1
    where
      by : ((log : ProgramLog) × (hart < length logs) × (slice_get logs hart ≡ Some log) × (get_or logs hart log ≡ log))
          ⊎ ((length logs ≤ hart) × (slice_get logs hart ≡ None)) → IsNumbered hart messages
      by (inl at) = record {
        payloads = payloads period mode at.0;
        own = is.same hart ∙ of_hart-log period mode 0 hart hart logs at.0 (omega arith) at.2;
      }
      by (inr past) = record { payloads = []; own = none hart past.0 }

  whole : IsWhole bytes (header_in version (header_of period mode logs)) messages
  whole = record { ranges = ranges; whole = begins version is.whole }
    where
      begins : (version : Version) → bytes ≡ start_bytes version (header_of period mode logs) ++ capture messages
          → BeginsWith (header_in version (header_of period mode logs)) bytes (capture messages)
      begins One same = ((λ marked. unmarked messages ranges (subst IsMarked same marked)), same)
      begins Two same = (is.start, same)

  -- The capture may be what was sent.
  pub logs_sent : IsSent bytes (header_in version (header_of period mode logs)) messages
  logs_sent = record { whole = whole; in_turn = in_turn version }
    where
      in_turn : (version : Version) → AreInTurn (known_harts (header_in version (header_of period mode logs))) [] messages
      in_turn One =
          let few = is.start.harts in
          all_in_turn (most_harts Two) [] messages (λ hart below. numbered hart)
          (λ hart past. none hart (omega (arith, past, few)))
      in_turn Two = all_in_turn (length logs) [] messages (λ hart below. numbered hart) none

  -- And it is whole where the same messages come of each hart.
  pub logs_alike : (others : List Message) → ((hart : ℕ) → of_hart hart others ≡ of_hart hart messages)
      → AreAllWhole (header_in version (header_of period mode logs)) messages others
  logs_alike others same =
      whole_alike (known_harts (header_in version (header_of period mode logs))) messages others logs_sent.in_turn same
      (header_in version (header_of period mode logs))

  -- It decodes to the logs.
  pub logs_decode : (program : Image) → All (λ (log : ProgramLog). log.program ≡ program) logs
      → (harts : ℕ) → (version ≡ One → harts ≡ length logs)
      → (lists : List (List Event)) (closed : List Bool) (stop : Option (ℕ × CaptureFault))
      → IsDecoded (words_of program) harts bytes lists closed stop → AreReturned logs lists closed stop
  logs_decode program same =
      mixed_captures program period mode version logs is.start is.legal same bytes messages whole is.same
