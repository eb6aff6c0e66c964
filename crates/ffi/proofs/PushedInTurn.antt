-- Events are pushed one after the other, and what comes of them is reported.
use Rattle.std.proofs.Common.{◌≡◌, ◌⊎◌, inl, inr, ℕ, ◌+◌, ◌-◌, ◌*◌, ◌<◌, ◌≤◌, List, ◌∷◌, [], ◌++◌, Some, drop, length}
use Rattle.std.proofs.Common.{map, slice_index_or, take, refl, sym, ap, subst, ◌∙◌, arith, append_assoc, Ok}
use Rattle.std.proofs.Math.Seq.{take-append-add, drop-append_seam, take-append_seam}
use Rattle.std.proofs.lemmas.Bool.{cases_lt}
use Rattle.std.proofs.lemmas.List.{append-nil, length-append, length-drop, map-append, take-append-drop, take-append-le}
use Rattle.std.proofs.lemmas.List.{length-map, nil_from_length, take_all, take_more, take-map, take-take}
use Rattle.std.proofs.lemmas.List.Elements.{All-append, All-nil}
use Rattle.std.proofs.lemmas.Option.{slice_get-get_or, get_or_from_slice_get, slice_get_within}
use Rattle.payload.specs.declared.mode.Mode.{Mode}
use Rattle.encoder.specs.EncoderStands.{EncoderStands}
use Rattle.encoder.specs.PacketsSoFar.{packets_so_far}
use Rattle.encoder.specs.declared.encoder.Encoder.{Encoder}
use Rattle.legalpath.proofs.FollowOnLemmas.{follow_on_split}
use Rattle.legalpath.specs.Legal.{Legal}
use Rattle.payload.specs.Profile.{InProfile}
use Rattle.payload.specs.declared.packet.Packet.{Packet}
use Rattle.retire.specs.declared.event.Event.{Event}
use Rattle.rvclass.specs.Words.{Words}
use Rattle.ffi.proofs.WrittenInTurn.{behind_front, front_more}
use Rattle.ffi.specs.Events.{numbers_of_event}
use Rattle.ffi.specs.Numbers.{numbers_of}
use Rattle.ffi.specs.declared.events.EventNumbers.{EventNumbers}
use Rattle.ffi.specs.declared.numbers.PacketNumbers.{PacketNumbers}
use Rattle.ffi.specs.declared.status.TheConstants.{DONE, TOO_SMALL}
use Rattle.ffi.specs.steps.PushingAll.{ArePushed, BeginWith, EndsPushes, Gives, GivesInTurn, GoesOn, IsPushed}
use Rattle.ffi.specs.steps.PushingAll.{Pushed, StandsOn}
use Rattle.encoder.specs.StateStands.{StateStands}
use Rattle.encoder.specs.declared.state.EncoderState.{EncoderState}
use Rattle.rvclass.specs.Fetch.{words_of}
use Rattle.rvclass.specs.Image.{Image}
use Rattle.ffi.proofs.EventsBack.{event_back}
use Rattle.ffi.proofs.StepsTaken.{one_program, state_stands}
use Rattle.ffi.specs.EncoderKept.{AreOfEncoder, IsOfState, NumbersStand}
use Rattle.ffi.specs.EventsChecked.{AreOfEvents}
use Rattle.ffi.specs.Images.{Judged}
use Rattle.ffi.specs.PushedAll.{AllTaken, AreNext, AreWritten, AreWrittenFirst, EndsPushAll, FillRoom, HaveNoRoom}
use Rattle.ffi.specs.PushedAll.{NoEvent, NoRoom, ReportsPushAll}
use Rattle.ffi.specs.declared.encoder_state.EncoderNumbers.{EncoderNumbers}
use Rattle.ffi.specs.steps.PushingAll as steps
use Rattle.ffi.specs.steps.ReadingEvents.{event_in}

module _ (words : Words) where
  -- Without an event an encoder stands for what it stood for.
  pub goes_none : (encoder : Encoder) → GoesOn words encoder [] encoder []
  goes_none encoder = λ period mode log stands legal. record {
    stands = subst (λ l. EncoderStands words period mode l encoder) (sym (append-nil log)) stands;
    grown = ap (packets_so_far words period mode) (append-nil log)
        ∙ sym (append-nil (packets_so_far words period mode log));
    profile = All-nil InProfile;
  }

  -- With more events it goes on.
  pub goes_more : (first middle after : Encoder) (events nexts : List Event) (packets more : List Packet)
      → GoesOn words first events middle packets → GoesOn words middle nexts after more
      → GoesOn words first (events ++ nexts) after (packets ++ more)
  goes_more first middle after events nexts packets more goes one = λ period mode log stands legal.
      let joined = append_assoc log events nexts in
      let together = subst (Legal words) (sym joined) legal in
      let before = goes period mode log stands (follow_on_split words _ (log ++ events) nexts together).0 in
      let then = one period mode (log ++ events) before.stands together in
      record {
        stands = subst (λ l. EncoderStands words period mode l after) joined then.stands;
        grown = ap (packets_so_far words period mode) (sym joined)
            ∙ then.grown
            ∙ ap (λ ps. ps ++ more) before.grown
            ∙ append_assoc (packets_so_far words period mode log) packets more;
        profile = All-append InProfile packets more before.profile then.profile;
      }

module _ (words : Words) where
  -- The packets of all events begin with those of the first ones, where none of the events before the last gives one.
  pub turn_run : (before after : Encoder) (events : List Event) (packets : List Packet)
      → GoesOn words before events after packets
      → ((period n : ℕ) (mode : Mode) (log : List Event) → EncoderStands words period mode log before
      → Legal words (log ++ take n events) → n < length events
      → packets_so_far words period mode (log ++ take n events) ≡ packets_so_far words period mode log)
      → GivesInTurn words before events packets
  turn_run before after events packets goes quiet = λ period n mode log stands legal.
      decide period n mode log stands legal (cases_lt n (length events))
    where
      decide : (period n : ℕ) (mode : Mode) (log : List Event) → EncoderStands words period mode log before
          → Legal words (log ++ take n events) → (n < length events) ⊎ (length events ≤ n)
          → BeginWith (packets_so_far words period mode log)
          (packets_so_far words period mode (log ++ take n events)) packets
      decide period n mode log stands legal (inl few) = record {
        more = [];
        behind = packets;
        grown = quiet period n mode log stands legal few ∙ sym (append-nil (packets_so_far words period mode log));
        profile = All-nil InProfile;
        whole = refl;
      }
      decide period n mode log stands legal (inr all) =
          let every = take_all n events all in
          let on = goes period mode log stands (subst (λ es. Legal words (log ++ es)) every legal) in
          record {
            more = packets;
            behind = [];
            grown = ap (λ es. packets_so_far words period mode (log ++ es)) every ∙ on.grown;
            profile = on.profile;
            whole = sym (append-nil packets);
          }

  -- So it is of no event, which has no packet.
  pub turn_none : (encoder : Encoder) → GivesInTurn words encoder [] []
  turn_none encoder = turn_run encoder encoder [] [] (goes_none words encoder)
      (λ period n mode log stands legal few. absurd (omega (arith, few)))

  -- And of one event.
  pub turn_one : (before after : Encoder) (event : Event) (packets : List Packet)
      → GoesOn words before (event ∷ []) after packets → GivesInTurn words before (event ∷ []) packets
  turn_one before after event packets goes = turn_run before after (event ∷ []) packets goes
      (λ period n mode log stands legal few.
      let none : n ≡ 0 = omega (arith, few) in
      ap (λ k. packets_so_far words period mode (log ++ take k (event ∷ []))) none
      ∙ ap (packets_so_far words period mode) (append-nil log))

  -- More events follow.
  pub turn_more : (first middle after : Encoder) (events nexts : List Event) (packets more : List Packet)
      → GoesOn words first events middle packets → GivesInTurn words first events packets
      → GivesInTurn words middle nexts more → GivesInTurn words first (events ++ nexts) (packets ++ more)
  turn_more first middle after events nexts packets more goes one two = λ period n mode log stands legal.
      decide period n mode log stands legal (cases_lt (length events) n)
    where
      decide : (period n : ℕ) (mode : Mode) (log : List Event) → EncoderStands words period mode log first
          → Legal words (log ++ take n (events ++ nexts)) → (length events < n) ⊎ (n ≤ length events)
          → BeginWith (packets_so_far words period mode log)
          (packets_so_far words period mode (log ++ take n (events ++ nexts))) (packets ++ more)
      decide period n mode log stands legal (inr few) =
          let same : take n (events ++ nexts) ≡ take n events = take-append-le n events nexts few in
          let begin = one period n mode log stands (subst (λ es. Legal words (log ++ es)) same legal) in
          record {
            more = begin.more;
            behind = begin.behind ++ more;
            grown = ap (λ es. packets_so_far words period mode (log ++ es)) same ∙ begin.grown;
            profile = begin.profile;
            whole = ap (λ ps. ps ++ more) begin.whole ∙ append_assoc begin.more begin.behind more;
          }
      decide period n mode log stands legal (inl far) =
          let on : n ≡ length events + (n - length events) = omega (arith, far) in
          let same : take n (events ++ nexts) ≡ events ++ take (n - length events) nexts =
          ap (λ k. take k (events ++ nexts)) on ∙ take-append-add events nexts (n - length events) in
          let joined = append_assoc log events (take (n - length events) nexts) in
          let together =
          subst (Legal words) (sym joined) (subst (λ es. Legal words (log ++ es)) same legal) in
          let then =
          goes period mode log stands
          (follow_on_split words _ (log ++ events) (take (n - length events) nexts) together).0 in
          let begin = two period (n - length events) mode (log ++ events) then.stands together in
          record {
            more = packets ++ begin.more;
            behind = begin.behind;
            grown = ap (λ es. packets_so_far words period mode (log ++ es)) same
                ∙ ap (packets_so_far words period mode) (sym joined)
                ∙ begin.grown
                ∙ ap (λ ps. ps ++ begin.more) then.grown
                ∙ append_assoc (packets_so_far words period mode log) packets begin.more;
            profile = All-append InProfile packets begin.more then.profile begin.profile;
            whole = ap (λ ps. packets ++ ps) begin.whole ∙ sym (append_assoc packets begin.more begin.behind);
          }

module _ (words : Words) (first : Encoder) (numbers : List EventNumbers) (old : List PacketNumbers) where
  -- None was pushed.
  pub pushed_none : ArePushed words first numbers 0 first 0 old old
  pushed_none = record {
    events = [];
    packets = [];
    read = refl;
    goes = goes_none words first;
    turn = turn_none words first;
    still = λ is. refl;
    counted = refl;
    two = omega arith;
    fit = omega arith;
    written = refl;
  }

  module _ (place : ℕ) (middle after : Encoder) (count more : ℕ) (now part tail whole : List PacketNumbers)
      (lent : part ≡ drop count now) (back : whole ≡ take count now ++ tail)
      (before : ArePushed words first numbers place middle count old now) where
    rest : length part ≡ length old - count
    rest =
        ap length lent
        ∙ ap length (behind_front numbers_of old before.packets count now (sym before.counted) before.written)
        ∙ length-drop count old

    -- So many events more were pushed.
    pub pushed_on : (size : ℕ) (events : List Event) (packets : List Packet) → 1 ≤ size
        → take (place + size) numbers ≡ take place numbers ++ map numbers_of_event events
        → GoesOn words middle events after packets → GivesInTurn words middle events packets
        → more ≡ length packets → more ≤ 2 * size → more ≤ length part
        → tail ≡ map numbers_of packets ++ drop more part
        → ArePushed words first numbers (place + size) after (count + more) old whole
    pushed_on size events packets some read goes turn counted few fit written =
        let left = rest in
        let fits = before.fit in
        let two = before.two in
        record {
          events = before.events ++ events;
          packets = before.packets ++ packets;
          read = read
              ∙ ap (λ ns. ns ++ map numbers_of_event events) before.read
              ∙ sym (map-append numbers_of_event before.events events);
          goes = goes_more words first middle after before.events events before.packets packets before.goes goes;
          turn = turn_more words first middle after before.events events before.packets packets before.goes before.turn
              turn;
          still = λ none. absurd (omega (arith, none, some));
          counted = ap (λ n. n + more) before.counted
              ∙ ap (λ n. length before.packets + n) counted
              ∙ sym (length-append before.packets packets);
          two = omega (arith, few, two);
          fit = omega (arith, fit, left, fits);
          written = back
              ∙ subst (λ n. take count now ++ tail
              ≡ map numbers_of (before.packets ++ packets) ++ drop (count + n) old) (sym counted)
              (front_more numbers_of old before.packets packets count now tail (sym before.counted) before.written
              (written
              ∙ ap (λ ns. map numbers_of packets ++ drop more ns) lent
              ∙ ap (λ n. map numbers_of packets ++ drop n (drop count now)) counted));
        }

    module _ (one : EventNumbers) (event : Event) (status : ℕ) (within : place < length numbers)
        (is : slice_index_or numbers place one ≡ numbers_of_event event) where
      -- One event more was pushed.
      pub pushed_more : status ≡ DONE → IsPushed words middle event status after more part tail
          → ArePushed words first numbers (place + 1) after (count + more) old whole
      pushed_more done (Pushed packets goes few counted fit written said) =
          pushed_on 1 (event ∷ []) packets (omega arith)
          (take_more numbers place one within ∙ ap (λ n. take place numbers ++ n ∷ []) is) goes
          (turn_one words middle after event packets goes) counted (omega (arith, few, counted)) fit written
      pushed_more done (steps.NoRoom packets gives few small said same kept) = let no = sym said ∙ done in cc

      -- The packets of the next event have no room.
      pub no_room_at : ¬ (status ≡ DONE) → IsPushed words middle event status after more part tail
          → ArePushed words first numbers place after count old whole
          × EndsPushes words numbers place after count old status
      no_room_at other (Pushed packets goes few counted fit written said) = absurd (other said)
      no_room_at other (steps.NoRoom packets gives few small said same kept) =
          let left = rest in
          let fits = before.fit in
          let stays : whole ≡ now =
          back ∙ ap (λ ns. take count now ++ ns) (kept ∙ lent) ∙ take-append-drop count now in (
            subst (λ ns. ArePushed words first numbers place after count old ns) (sym stays)
                (subst (λ e. ArePushed words first numbers place e count old now) (sym same) before),
            steps.NoRoom event (slice_get-get_or numbers place one within ∙ ap Some is) packets
                (subst (λ e. Gives words e event packets) (sym same) gives) few (omega (arith, small, left, fits)) said,
          )

-- Events come back from their numbers.
events_back : (events : List Event) → map event_in (map numbers_of_event events) ≡ events
events_back [] = refl
events_back (event ∷ events) =
    ap (λ e. e ∷ map event_in (map numbers_of_event events)) (event_back event)
    ∙ ap (λ es. event ∷ es) (events_back events)

-- So the same numbers are those of the same events.
same_events : (numbers : List EventNumbers) (one other : List Event) → AreOfEvents numbers one
    → AreOfEvents numbers other → one ≡ other
same_events numbers one other is too =
    sym (events_back one) ∙ ap (map event_in) (sym is ∙ too) ∙ events_back other

-- Lists that are the same with one thing more were the same before, and the thing is the same.
same_snoc : {X : Type 0} → (xs ys : List X) (x y : X) → xs ++ x ∷ [] ≡ ys ++ y ∷ [] → (xs ≡ ys) × (x ≡ y)
same_snoc xs ys x y same =
    let counts = ap length same in
    let one = length-append xs (x ∷ []) in
    let other = length-append ys (y ∷ []) in
    let many : length xs ≡ length ys = omega (arith, counts, one, other) in
    let fronts : xs ≡ ys =
    sym (take-append_seam xs (x ∷ []))
    ∙ ap (take (length xs)) same
    ∙ ap (λ n. take n (ys ++ y ∷ [])) many
    ∙ take-append_seam ys (y ∷ []) in
    let ends : x ∷ [] ≡ y ∷ [] =
    sym (drop-append_seam xs (x ∷ []))
    ∙ ap (drop (length xs)) same
    ∙ ap (λ n. drop n (ys ++ y ∷ [])) many
    ∙ drop-append_seam ys (y ∷ []) in
    (fronts, cc)

-- Where no event can be next, since no encoder has the state or the image makes no program, this is reported.
pub none_reported : (image : Judged) (state : EncoderNumbers) (numbers : List EventNumbers) (status : ℕ)
    (old : List PacketNumbers) → EndsPushAll image state numbers 0 status → ¬ (status ≡ TOO_SMALL)
    → ((program : Image) → image ≡ Ok program → ¬ AreOfEncoder state)
    → ReportsPushAll image numbers status state state 0 0 old old
none_reported image state numbers status old ends other never = record {
  ends = ends;
  stands = λ program period mode log nexts next. absurd (never program next.made (next.stand.state, next.stand.is));
  packets = λ program period mode log nexts next. absurd (never program next.made (next.stand.state, next.stand.is));
  front = λ program period n mode log nexts few next. absurd (never program next.made (next.stand.state, next.stand.is));
  no_room = λ program period mode log nexts next small are. absurd (other small);
  two = λ small. absurd (other small);
  fill = record { two = omega arith; fit = omega arith; behind = refl };
  untaken = λ none. (refl, refl);
  again = λ were. were;
}

module _ (image : Judged) (made : Image) (makes : image ≡ Ok made) (state : EncoderNumbers)
    (read : EncoderState) (only : (other : EncoderState) → IsOfState state other → Some read ≡ Some other)
    (first : Encoder)
    (begins : (words : Words) (period : ℕ) (mode : Mode) (log : List Event) → StateStands words period mode log read
    → EncoderStands words period mode log first)
    (numbers : List EventNumbers) (taken : ℕ) (encoder : Encoder) (count : ℕ) (old new : List PacketNumbers)
    (pushed : ArePushed (words_of made) first numbers taken encoder count old new) where
  module _ (program : Image) (period : ℕ) (mode : Mode) (log nexts : List Event) where
    -- The encoder goes on over the events that are next.
    stands_on : NumbersStand (words_of program) period mode log state → image ≡ Ok program
        → AreOfEvents (take taken numbers) nexts → Legal (words_of program) (log ++ nexts)
        → StandsOn (words_of program) period mode log nexts encoder pushed.packets
    stands_on stand is are legal =
        let same = one_program made program image makes is in
        let events = same_events (take taken numbers) pushed.events nexts pushed.read are in
        subst (λ p. StandsOn (words_of p) period mode log nexts encoder pushed.packets) same
        (subst (λ es. StandsOn (words_of made) period mode log es encoder pushed.packets) events
        (pushed.goes period mode log
        (begins (words_of made) period mode log
        (subst (λ p. StateStands (words_of p) period mode log read) (sym same)
        (state_stands (words_of program) period mode log state read only stand)))
        (subst (λ es. Legal (words_of made) (log ++ es)) (sym events)
        (subst (λ p. Legal (words_of p) (log ++ nexts)) (sym same) legal))))

    reaches : AreNext image program period mode log nexts state (take taken numbers)
        → EncoderStands (words_of program) period mode (log ++ nexts) encoder
    reaches next = (stands_on next.stand next.made next.are next.legal).stands

    written_all : AreNext image program period mode log nexts state (take taken numbers)
        → AreWritten (packets_so_far (words_of program) period mode log)
        (packets_so_far (words_of program) period mode (log ++ nexts)) count old new
    written_all next =
        let on = stands_on next.stand next.made next.are next.legal in
        record {
          more = pushed.packets;
          grown = on.grown;
          profile = on.profile;
          counted = pushed.counted;
          written = pushed.written;
        }

    -- The first packets are those of the first events that are next, whatever comes after these.
    written_first : (n : ℕ) → n ≤ taken → AreNext image program period mode log nexts state (take n numbers)
        → AreWrittenFirst (packets_so_far (words_of program) period mode log)
        (packets_so_far (words_of program) period mode (log ++ nexts)) count new
    written_first n few next =
        let same = one_program made program image makes next.made in
        let read_first : take n numbers ≡ map numbers_of_event (take n pushed.events) =
        sym (take-take n taken numbers few)
        ∙ ap (take n) pushed.read
        ∙ take-map numbers_of_event n pushed.events in
        let events : take n pushed.events ≡ nexts =
        same_events (take n numbers) (take n pushed.events) nexts read_first next.are in
        let begin =
        subst (λ es. BeginWith (packets_so_far (words_of program) period mode log)
        (packets_so_far (words_of program) period mode (log ++ es)) pushed.packets) events
        (subst (λ p. GivesInTurn (words_of p) first pushed.events pushed.packets) same pushed.turn period n mode log
        (begins (words_of program) period mode log
        (state_stands (words_of program) period mode log state read only next.stand))
        (subst (λ es. Legal (words_of program) (log ++ es)) (sym events) next.legal)) in
        let counted = pushed.counted in
        let long = ap length begin.whole ∙ length-append begin.more begin.behind in
        let mapped = length-map begin.more numbers_of in
        record {
          more = begin.more;
          grown = begin.grown;
          profile = begin.profile;
          within = omega (arith, counted, long);
          written = ap (take (length begin.more))
              (pushed.written
              ∙ ap (λ ps. map numbers_of ps ++ drop count old) begin.whole
              ∙ ap (λ ns. ns ++ drop count old) (map-append numbers_of begin.more begin.behind)
              ∙ append_assoc (map numbers_of begin.more) (map numbers_of begin.behind) (drop count old))
              ∙ ap (λ k. take k (map numbers_of begin.more ++ (map numbers_of begin.behind ++ drop count old)))
              (sym mapped)
              ∙ take-append_seam (map numbers_of begin.more) (map numbers_of begin.behind ++ drop count old);
        }

    -- The packets of the event after those have no room.
    room_is_full : (next : Event) (status : ℕ) → EndsPushes (words_of made) numbers taken encoder count old status
        → status ≡ TOO_SMALL
        → AreNext image program period mode log (nexts ++ next ∷ []) state (take (taken + 1) numbers)
        → HaveNoRoom (packets_so_far (words_of program) period mode (log ++ nexts))
        (packets_so_far (words_of program) period mode (log ++ nexts ++ next ∷ [])) count old
    room_is_full next status (steps.AllPushed all done) small are = let no = sym done ∙ small in cc
    room_is_full next status (steps.NoEvent one at none said) small are = let no = sym said ∙ small in cc
    room_is_full next status (steps.NoRoom one at packets gives few full said) small are =
        let within = slice_get_within numbers taken (numbers_of_event one) at in
        let more : take (taken + 1) numbers ≡ map numbers_of_event (pushed.events ++ one ∷ []) =
        take_more numbers taken (numbers_of_event one) within
        ∙ ap (λ n. take taken numbers ++ n ∷ [])
        (get_or_from_slice_get numbers taken (numbers_of_event one) (numbers_of_event one) at)
        ∙ ap (λ ns. ns ++ numbers_of_event one ∷ []) pushed.read
        ∙ sym (map-append numbers_of_event pushed.events (one ∷ [])) in
        let both = same_snoc pushed.events nexts one next
        (same_events (take (taken + 1) numbers) (pushed.events ++ one ∷ []) (nexts ++ next ∷ []) more are.are) in
        let same = one_program made program image makes are.made in
        let legal = subst (Legal (words_of program)) (sym (append_assoc log nexts (next ∷ []))) are.legal in
        let front = (follow_on_split (words_of program) _ (log ++ nexts) (next ∷ []) legal).0 in
        let read = subst (AreOfEvents (take taken numbers)) both.0 pushed.read in
        let on = stands_on are.stand are.made read front in
        let given = subst (λ p. steps.Gives (words_of p) encoder next packets) same
        (subst (λ e. steps.Gives (words_of made) encoder e packets) both.1 gives) in
        record { more = packets; grown = given period mode (log ++ nexts) on.stands legal; small = full }

  -- How the pushes end.
  ends_all : AreOfEncoder state → (status : ℕ)
      → EndsPushes (words_of made) numbers taken encoder count old status
      → EndsPushAll image state numbers taken status
  ends_all are status (steps.AllPushed all done) =
      AllTaken are made makes pushed.events
      (sym (take_all taken numbers (omega (arith, all))) ∙ pushed.read) all done
  ends_all are status (steps.NoRoom next at packets gives few full said) =
      NoRoom are made makes pushed.events pushed.read next at said
  ends_all are status (steps.NoEvent next at none said) =
      NoEvent are made makes pushed.events pushed.read next at none said

  -- Room for one packet at most is left.
  two_left : (status : ℕ) → EndsPushes (words_of made) numbers taken encoder count old status
      → status ≡ TOO_SMALL → length old < count + 2
  two_left status (steps.AllPushed all done) small = let no = sym done ∙ small in cc
  two_left status (steps.NoRoom next at packets gives few full said) small = omega (arith, few, full)
  two_left status (steps.NoEvent next at none said) small = let no = sym said ∙ small in cc

  -- Where none was taken, the encoder is as it was, and so is the buffer.
  encoder_stays : taken ≡ 0 → encoder ≡ first
  encoder_stays none = pushed.still none

  buffer_stays : taken ≡ 0 → new ≡ old
  buffer_stays none =
      let two = pushed.two in
      let no : count ≡ 0 = omega (arith, two, none) in
      let empty = nil_from_length pushed.packets (sym pushed.counted ∙ no) in
      pushed.written ∙ ap (λ ps. map numbers_of ps ++ drop count old) empty ∙ ap (λ n. drop n old) no

  fill : FillRoom taken count old new
  fill = record {
    two = pushed.two;
    fit = pushed.fit;
    behind = behind_front numbers_of old pushed.packets count new (sym pushed.counted) pushed.written;
  }

  -- So this is reported, with the numbers of the encoder's state.
  pub all_reported : AreOfEncoder state → (status : ℕ)
      → EndsPushes (words_of made) numbers taken encoder count old status → (after : EncoderState)
      → ((words : Words) (period : ℕ) (mode : Mode) (log : List Event) → EncoderStands words period mode log encoder
      → StateStands words period mode log after)
      → (kept : EncoderNumbers) → IsOfState kept after → (encoder ≡ first → kept ≡ state)
      → ReportsPushAll image numbers status state kept taken count old new
  all_reported are status ends after stood kept is back = record {
    ends = ends_all are status ends;
    stands = λ program period mode log nexts next. record {
      state = after;
      is = is;
      stands = stood (words_of program) period mode (log ++ nexts) (reaches program period mode log nexts next);
    };
    packets = λ program period mode log nexts next. written_all program period mode log nexts next;
    front = λ program period n mode log nexts few next. written_first program period mode log nexts n few next;
    no_room = λ program period mode log nexts next small are.
        room_is_full program period mode log nexts next status ends small are;
    two = λ small. two_left status ends small;
    fill = fill;
    untaken = λ none. (back (encoder_stays none), buffer_stays none);
    again = λ were. (after, is);
  }
