-- What any messages of all harts describe, from one message to the next.
use Rattle.std.proofs.Common.{◌≡◌, ◌≢◌, ◌⊎◌, inl, inr, ℕ, ◌+◌, ◌<◌, All, false, List, [], ◌∷◌, ◌++◌, Ok, Some}
use Rattle.std.proofs.Common.{None, length, set, slice_get, refl, sym, ap, subst, ◌∙◌, arith}
use Rattle.std.specs.Prelude.{Err}
use Rattle.std.proofs.lemmas.List.{get_or-replicate, length-replicate}
use Rattle.std.proofs.lemmas.List.Elements.{All-get_or}
use Rattle.std.proofs.lemmas.Option.{get_or_from_slice_get, slice_get_within}
use Rattle.rvclass.specs.Words.{Words}
use Rattle.payload.specs.Closing.{is_closing_packet}
use Rattle.payload.specs.ClosedTrace.{last_is_closing}
use Rattle.payload.specs.declared.mode.Mode.{Mode}
use Rattle.payload.specs.declared.packet.Packet.{Packet}
use Rattle.decoder.specs.Resuming.{IsClosed}
use Rattle.decoder.specs.declared.fault.DecodeFault.{DecodeFault}
use Rattle.decoder.specs.declared.fault.DecodeFault.TheVariants.{Memory}
use Rattle.message.proofs.AcceptedLemmas.{slice_get-set}
use Rattle.message.proofs.Elements.{slice_get-some}
use Rattle.message.proofs.HartMessages.{last_is_closing-next, packets_of-next, packets_of-other}
use Rattle.message.proofs.OfHartLemmas.{of_hart-next, of_hart-other}
use Rattle.message.specs.Accepted.{newcomers}
use Rattle.message.specs.Accepting.{next_of}
use Rattle.message.specs.Harts.{Harts, newcomer}
use Rattle.message.specs.Lossy.{accepting_lossy, harts_after_lossy}
use Rattle.message.specs.OfHart.{of_hart, packets_of}
use Rattle.message.specs.declared.hart.Hart.{Hart}
use Rattle.message.specs.declared.message.Message.{Message}
use Rattle.losses.specs.PartsIn.{parts_in}
use Rattle.losses.specs.Runs.{missing_behind, mode_in, over_before, packets_behind, run_of}
use Rattle.losses.specs.Stops.{IsNotDecodedLossy}
use Rattle.losses.specs.DescribedParts.{AreDescribed, EachHartDescribes, MessagesDescribe}
use Rattle.losses.specs.steps.Collecting.{AreEnded, IsEnded, IsNewPieces, IsNewTrace, IsNotTaken}
use Rattle.losses.specs.steps.FollowingRuns.{FollowsEveryHart, FollowsMessages, FollowsRuns, IsMessageFault}
use Rattle.losses.specs.steps.FollowingRuns.{IsNotDecodedInRun}
use Rattle.losses.specs.steps.Taking.{TakesPacket}
use Rattle.losses.specs.declared.fault.LossyFault.{LossyFault}
use Rattle.losses.specs.declared.fault.LossyFault.TheVariants as fault
use Rattle.losses.specs.declared.hart_trace.HartTrace.{HartTrace}
use Rattle.losses.specs.declared.part.HartPieces.{HartPieces}
use Rattle.losses.proofs.MessageSteps.{IsTaken, message_more, message_not_decoded, taken_by, messages_describe}
use Rattle.losses.proofs.RunLemmas.{describes_nothing}
use Rattle.losses.proofs.StateLaws.{state_laws}

module _ {A : Type 0} (words : Words) (mode : Mode) (messages : List Message) (message : Message) (harts : Harts)
    (traces : List (HartTrace A)) (pieces : List (HartPieces A))
    (f : FollowsEveryHart words mode messages harts traces pieces)
    (trace new_trace : HartTrace A) (collected new_pieces : HartPieces A)
    (at_trace : slice_get traces message.hart ≡ Some trace)
    (at_pieces : slice_get pieces message.hart ≡ Some collected) (packet : Packet) (missed : ℕ)
    (value : accepting_lossy harts message ≡ Ok (packet, missed)) where
  taken : IsTaken harts message packet missed
  taken = taken_by harts message packet missed value

  follows : FollowsMessages words mode (of_hart message.hart messages) taken.expects.expected false trace.decoder
      (parts_in collected.parts.items) trace.stretch.items
  follows = subst (λ closed. FollowsMessages words mode (of_hart message.hart messages) taken.expects.expected closed
      trace.decoder (parts_in collected.parts.items) trace.stretch.items) taken.goes
      (f.each message.hart taken.expects trace collected taken.at at_trace at_pieces)

  module _ (closed : new_pieces.closed ≡ is_closing_packet packet)
      (on : FollowsRuns words mode (follows.done ++ over_before missed (run_of follows.missing follows.packets))
      (missing_behind missed follows.missing) (packets_behind missed follows.packets ++ packet ∷ [])
      (taken.expects.expected + missed + 1) (is_closing_packet packet) new_trace.decoder
      (parts_in new_pieces.parts.items) new_trace.stretch.items) where
    own : FollowsMessages words mode (of_hart message.hart (messages ++ message ∷ [])) (message.number + 1)
        (is_closing_packet packet) new_trace.decoder (parts_in new_pieces.parts.items) new_trace.stretch.items
    own = subst (λ ms. FollowsMessages words mode ms (message.number + 1) (is_closing_packet packet) new_trace.decoder
        (parts_in new_pieces.parts.items) new_trace.stretch.items) (sym (of_hart-next messages message))
        (message_more words mode (of_hart message.hart messages) message taken.expects.expected missed packet
        taken.number taken.read trace.decoder (parts_in collected.parts.items) trace.stretch.items follows
        (is_closing_packet packet) new_trace.decoder (parts_in new_pieces.parts.items) new_trace.stretch.items on)

    each_hart : (hart : ℕ) (e : Hart) (t : HartTrace A) (p : HartPieces A)
        → slice_get (set harts message.hart (next_of message.number packet)) hart ≡ Some e
        → slice_get (set traces message.hart new_trace) hart ≡ Some t
        → slice_get (set pieces message.hart new_pieces) hart ≡ Some p
        → FollowsMessages words mode (of_hart hart (messages ++ message ∷ [])) e.expected e.closed t.decoder
        (parts_in p.parts.items) t.stretch.items
    each_hart hart e t p of_harts of_traces of_pieces =
        by_harts (slice_get-set harts message.hart (next_of message.number packet) hart e of_harts)
        (slice_get-set traces message.hart new_trace hart t of_traces)
        (slice_get-set pieces message.hart new_pieces hart p of_pieces)
      where
        by_harts : ((message.hart ≡ hart) × (e ≡ next_of message.number packet))
            ⊎ ((message.hart ≢ hart) × (slice_get harts hart ≡ Some e))
            → ((message.hart ≡ hart) × (t ≡ new_trace)) ⊎ ((message.hart ≢ hart) × (slice_get traces hart ≡ Some t))
            → ((message.hart ≡ hart) × (p ≡ new_pieces)) ⊎ ((message.hart ≢ hart) × (slice_get pieces hart ≡ Some p))
            → FollowsMessages words mode (of_hart hart (messages ++ message ∷ [])) e.expected e.closed t.decoder
            (parts_in p.parts.items) t.stretch.items
        by_harts (inl (same, is_e)) (inl (_, is_t)) (inl (_, is_p)) =
            let by_h = subst (λ h. FollowsMessages words mode (of_hart h (messages ++ message ∷ [])) (message.number +
            1)
            (is_closing_packet packet) new_trace.decoder (parts_in new_pieces.parts.items) new_trace.stretch.items) same
            own in
            let by_e = subst (λ (x : Hart). FollowsMessages words mode (of_hart hart (messages ++ message ∷ []))
            x.expected
            x.closed new_trace.decoder (parts_in new_pieces.parts.items) new_trace.stretch.items) (sym is_e) by_h in
            let by_t = subst (λ (x : HartTrace A). FollowsMessages words mode (of_hart hart (messages ++ message ∷ []))
            e.expected e.closed x.decoder (parts_in new_pieces.parts.items) x.stretch.items) (sym is_t) by_e in
            subst (λ (x : HartPieces A). FollowsMessages words mode (of_hart hart (messages ++ message ∷ [])) e.expected
            e.closed t.decoder (parts_in x.parts.items) t.stretch.items) (sym is_p) by_t
        by_harts (inl (same, is_e)) (inl (_, is_t)) (inr (apart, is_p)) = absurd (apart same)
        by_harts (inl (same, is_e)) (inr (apart, is_t)) _ = absurd (apart same)
        by_harts (inr (apart, is_e)) (inl (same, is_t)) _ = absurd (apart same)
        by_harts (inr (apart, is_e)) (inr (_, is_t)) (inl (same, is_p)) = absurd (apart same)
        by_harts (inr (apart, is_e)) (inr (_, is_t)) (inr (_, is_p)) =
            subst (λ ms. FollowsMessages words mode ms e.expected e.closed t.decoder (parts_in p.parts.items)
            t.stretch.items) (sym (of_hart-other hart messages message apart)) (f.each hart e t p is_e is_t is_p)

    ends : (hart : ℕ) (p : HartPieces A) → slice_get (set pieces message.hart new_pieces) hart ≡ Some p
        → p.closed ≡ last_is_closing (packets_of hart (messages ++ message ∷ []))
    ends hart p at = by_hart (slice_get-set pieces message.hart new_pieces hart p at)
      where
        by_hart : ((message.hart ≡ hart) × (p ≡ new_pieces)) ⊎ ((message.hart ≢ hart) × (slice_get pieces hart ≡ Some
            p))
            → p.closed ≡ last_is_closing (packets_of hart (messages ++ message ∷ []))
        by_hart (inl (same, is)) =
            ap (λ (x : HartPieces A). x.closed) is ∙ closed
            ∙ sym (last_is_closing-next (packets_of message.hart messages) packet)
            ∙ ap last_is_closing (sym (packets_of-next messages message packet taken.read))
            ∙ ap (λ h. last_is_closing (packets_of h (messages ++ message ∷ []))) same
        by_hart (inr (apart, stood)) =
            f.closed hart p stood ∙ ap last_is_closing (sym (packets_of-other hart messages message apart))

    every_hart_more : FollowsEveryHart words mode (messages ++ message ∷ []) (harts_after_lossy harts message)
        (set traces message.hart new_trace) (set pieces message.hart new_pieces)
    every_hart_more =
        subst (λ hs. FollowsEveryHart words mode (messages ++ message ∷ []) hs (set traces message.hart new_trace)
        (set pieces message.hart new_pieces)) (sym taken.after) (record { each = each_hart; closed = ends })

  -- The message is collected, where its packet is taken.
  pub every_hart_next : TakesPacket words mode packet missed trace new_trace collected.parts.items new_pieces.parts.items
      (Ok tt)
      → new_pieces.closed ≡ is_closing_packet packet
      → FollowsEveryHart words mode (messages ++ message ∷ []) (harts_after_lossy harts message)
      (set traces message.hart new_trace) (set pieces message.hart new_pieces)
  every_hart_next takes closed =
      every_hart_more closed
      (takes.of_runs follows.done follows.missing taken.expects.expected follows.packets follows.runs).follows

  -- Or the fault says why it is not.
  pub every_hart_fault : (why : DecodeFault) (place : ℕ) (answer : LossyFault)
      → TakesPacket words mode packet missed trace new_trace collected.parts.items new_pieces.parts.items (Err why)
      → IsNotTaken place answer → (answer ≡ fault.Memory) ⊎ (answer ≡ fault.Decode place why)
      → IsMessageFault words mode messages message answer
  every_hart_fault why place fault.Memory takes not either = tt
  every_hart_fault why place (fault.Demux at other) takes not either = tt
  every_hart_fault why place (fault.Decode at other) takes not (inl memory) = cc
  every_hart_fault why place (fault.Decode at other) takes not (inr same) =
      let is : other ≡ why = cc in
      by_reason (takes.of_runs follows.done follows.missing taken.expects.expected follows.packets follows.runs).refused is
    where
      by_reason : (why ≡ Memory) ⊎ IsNotDecodedInRun words
          (mode_in mode ((follows.done ++ over_before missed (run_of follows.missing follows.packets))
          ++ run_of (missing_behind missed follows.missing) (packets_behind missed follows.packets ++ packet ∷ []) ∷ []))
          (missing_behind missed follows.missing) (packets_behind missed follows.packets) packet why
          → other ≡ why → IsNotDecodedLossy words mode messages message other
      by_reason (inl memory) is = absurd (not.1 (is ∙ memory))
      by_reason (inr in_run) is =
          let found = message_not_decoded words mode (of_hart message.hart messages) message taken.expects.expected
          missed packet taken.number taken.read trace.decoder (parts_in collected.parts.items) trace.stretch.items
          follows why (λ memory. not.1 (is ∙ memory)) in_run (of_hart message.hart (messages ++ message ∷ []))
          (of_hart-next messages message) in
          subst (IsNotDecodedLossy words mode messages message) (sym is)
          (record {
            packet = found.0;
            read = found.1;
            not_opened = found.2;
            not_after_close = in_run.stays_open;
            not_described = found.3;
          })

-- The hart of a message that is taken is known.
pub within_of : (harts : Harts) (message : Message) (packet : Packet) (missed : ℕ)
    → accepting_lossy harts message ≡ Ok (packet, missed) → message.hart < length harts
within_of harts message packet missed value =
    let t = taken_by harts message packet missed value in slice_get_within harts message.hart t.expects t.at

-- Before the first message.
pub every_hart_first : {A : Type 0} (words : Words) (mode : Mode) (count : ℕ) (demux : Harts)
    (traces : List (HartTrace A))
    (pieces : List (HartPieces A)) → demux ≡ newcomers count → All IsNewTrace traces → All IsNewPieces pieces
    → FollowsEveryHart words mode [] demux traces pieces
every_hart_first words mode count demux traces pieces is new_traces new_pieces = record {
  each = λ hart expects trace collected at_hart at_trace at_pieces.
      let of_newcomers = subst (λ hs. slice_get hs hart ≡ Some expects) is at_hart in
      let within = slice_get_within (newcomers count) hart expects of_newcomers in
      let many = length-replicate count newcomer in
      let new : newcomer ≡ expects =
      sym (get_or-replicate count hart newcomer expects (omega (arith, within, many)))
      ∙ get_or_from_slice_get (newcomers count) hart expects expects of_newcomers in
      let t = subst IsNewTrace (get_or_from_slice_get traces hart trace trace at_trace)
      (All-get_or IsNewTrace traces hart trace (slice_get_within traces hart trace at_trace) new_traces) in
      let p = piece_new hart collected at_pieces in
      let stands = t.stands words in
      let not_closed : ¬ IsClosed trace.decoder = λ closed.
      let ended = (state_laws.closed words [] [] trace.decoder stands).0 closed in cc in
      let first : FollowsMessages words mode [] 0 false trace.decoder [] [] = record {
        done = [];
        missing = 0;
        packets = [];
        whole = λ later. refl;
        runs = record {
          from_zero = λ zero_is. (refl, refl);
          beyond = omega arith;
          front = [];
          before = refl;
          so_far = refl;
          follows = record {
            described = describes_nothing words;
            stands = λ stays. stands;
            stays_open = λ stays. not_closed;
            announced = None;
            has_mode = t.no_mode;
            right = refl;
          };
        };
      } in
      let by_parts = subst (λ l. FollowsMessages words mode [] 0 false trace.decoder l []) (sym (ap parts_in p.0)) first
      in
      let by_events = subst (λ l. FollowsMessages words mode [] 0 false trace.decoder (parts_in collected.parts.items)
      l)
      (sym t.empty) by_parts in
      subst (λ (e : Hart). FollowsMessages words mode [] e.expected e.closed trace.decoder
      (parts_in collected.parts.items) trace.stretch.items) new by_events;
  closed = λ hart collected at. (piece_new hart collected at).1;
}
  where
    piece_new : (hart : ℕ) (collected : HartPieces _) → slice_get pieces hart ≡ Some collected → IsNewPieces collected
    piece_new hart collected at =
        subst IsNewPieces (get_or_from_slice_get pieces hart collected collected at)
        (All-get_or IsNewPieces pieces hart collected (slice_get_within pieces hart collected at) new_pieces)

-- After the last one, where the stretches are ended.
pub described_last : {A : Type 0} (words : Words) (mode : Mode) (messages : List Message) (demux : Harts)
    (traces : List (HartTrace A)) (before after : List (HartPieces A))
    → FollowsEveryHart words mode messages demux traces before → length traces ≡ length before → length demux
    ≡ length before
    → AreEnded traces before after → AreDescribed words mode messages after
described_last words mode messages demux traces before after f traces_count harts_count ended = record {
  parts = λ hart pieces at.
      let e = hart_ended hart pieces at in
      subst (MessagesDescribe words mode (of_hart hart messages)) (sym e.2.parts)
      (messages_describe words mode (of_hart hart messages) _ _ _ _ _ (f.each hart e.3.0 e.0 e.1 e.3.1 e.4 e.5));
  closed = λ hart pieces at.
      let e = hart_ended hart pieces at in e.2.closed ∙ f.closed hart e.1 e.5;
}
  where
    hart_ended : (hart : ℕ) (pieces : HartPieces _) → slice_get after hart ≡ Some pieces
        → (trace : HartTrace _) × (old : HartPieces _) × IsEnded trace old pieces
        × ((e : Hart) × (slice_get demux hart ≡ Some e)) × (slice_get traces hart ≡ Some trace)
        × (slice_get before hart ≡ Some old)
    hart_ended hart pieces at =
        let inside = slice_get_within after hart pieces at in
        let all = ended.count in
        let t = slice_get-some traces hart (omega (arith, inside, all, traces_count)) in
        let p = slice_get-some before hart (omega (arith, inside, all)) in
        let e = slice_get-some demux hart (omega (arith, inside, all, harts_count)) in
        (t.0, p.0, ended.each hart t.0 p.0 pieces t.1 p.1 at, e, t.1, p.1)

-- Each hart's messages so far describe some parts.
pub each_hart_describes : {A : Type 0} (words : Words) (mode : Mode) (count : ℕ) (messages : List Message)
    (demux : Harts)
    (traces : List (HartTrace A)) (pieces : List (HartPieces A))
    → FollowsEveryHart words mode messages demux traces pieces
    → length demux ≡ count → length traces ≡ count → length pieces ≡ count → EachHartDescribes words mode count messages
each_hart_describes words mode count messages demux traces pieces f harts_count traces_count pieces_count = λ hart few.
    let e = slice_get-some demux hart (omega (arith, few, harts_count)) in
    let t = slice_get-some traces hart (omega (arith, few, traces_count)) in
    let p = slice_get-some pieces hart (omega (arith, few, pieces_count)) in (
      _,
      messages_describe words mode (of_hart hart messages) _ _ _ _ _ (f.each hart e.0 t.0 p.0 e.1 t.1 p.1),
    )
