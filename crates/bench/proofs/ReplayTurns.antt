-- Where a replay stands at first, and after one turn more.
use Rattle.std.proofs.Common.{◌≡◌, ◌<◌, ◌+◌, ℕ, Bool, true, false, cond, All, List, [], ◌∷◌, ◌++◌, Option, Some, None}
use Rattle.std.proofs.Common.{length, map, inl, nat_lt, slice_get, slice_index_or, take, refl, sym, ap, subst, ◌∙◌}
use Rattle.std.specs.Prelude.{IsSomeAnd, IsTrue}
use Rattle.std.proofs.lemmas.List.{length-map, length-replicate}
use Rattle.legalpath.specs.ProgramLog.{IsLegalLog, ProgramLog}
use Rattle.payload.specs.declared.mode.Mode.{Mode}
use Rattle.encoder.specs.Payloads.{payloads}
use Rattle.message.specs.declared.message.Message.{Message}
use Rattle.funnel.proofs.EveryState.{every-keeps}
use Rattle.funnel.proofs.Places.{get_or-repeated}
use Rattle.funnel.specs.Held.{Held}
use Rattle.funnel.specs.Machine.{Funnel, after_turn, after_turns, add, opening, send_next, sent_by, take_front, take_of}
use Rattle.funnel.specs.Order.{next_message}
use Rattle.funnel.specs.Payloads.{payloads_of}
use Rattle.funnel.specs.declared.turn.Turn.{Turn}
use Rattle.funnel.specs.declared.turn.Turn.TheVariants as turn
use Rattle.bench.specs.Collected.{Collected, HasCollected, Taken}
use Rattle.bench.specs.Replayed.{replayed}
use Rattle.bench.specs.declared.config.Config.{Config}
use Rattle.bench.specs.declared.sender.Sender.{Sender}
use Rattle.bench.specs.declared.stop.Stop.{Stop}
use Rattle.bench.specs.steps.Replaying.{IsReplayed}
use Rattle.bench.specs.steps.Sending.{AreNewSenders, AreSending, sender_at}
use Rattle.bench.specs.steps.Taking.{CameUnlessRefused, IsFrontNext, IsReady, LacksSome, NamesRefusedHart}
use Rattle.bench.proofs.FrontMessage.{front_next}
use Rattle.bench.proofs.CollectedLemmas.{element, take-next}
use Rattle.bench.proofs.RefusedHarts.{came_not_refused}

-- One turn more is a turn of the state before.
after_turns-next : (capacity : ℕ) (payloads : List (List (List ℕ))) (turns : List Turn) (last : Turn) (state : Funnel)
    → after_turns capacity payloads (turns ++ last ∷ []) state
    ≡ after_turn capacity payloads last (after_turns capacity payloads turns state)
after_turns-next capacity payloads [] last state = refl
after_turns-next capacity payloads (first ∷ turns) last state =
    after_turns-next capacity payloads turns last (after_turn capacity payloads first state)

-- A hart that sends leaves what was taken.
send_next-taken : (capacity hart : ℕ) (payload : Option (List ℕ)) (state : Funnel)
    → (send_next capacity hart payload state).taken ≡ state.taken
send_next-taken capacity hart None state = refl
send_next-taken capacity hart (Some payload) state = by_room (nat_lt (length state.queue) capacity)
  where
    by_room : (room : Bool)
        → (cond room (add (next_message hart (sent_by hart state) payload) state) state).taken ≡ state.taken
    by_room true = refl
    by_room false = refl

-- What is taken leaves what was sent.
take_front-sent : (state : Funnel) → (take_front state).sent ≡ state.sent
take_front-sent state = by_queue state.queue
  where
    by_queue : (queue : List Message) → (take_of queue state).sent ≡ state.sent
    by_queue [] = refl
    by_queue (front ∷ rest) = refl

module _ (config : Config) (logs : List ProgramLog) where
  abbrev state_after : List Turn → Funnel
  state_after turns = replayed config.period config.mode config.capacity logs turns

  next_state : (all : List Turn) (last : Turn) (place : ℕ) → slice_get all place ≡ Some last
      → state_after (take (place + 1) all)
      ≡ after_turn config.capacity (map (payloads config.period config.mode) logs) last (state_after (take place all))
  next_state all last place at =
      ap state_after (take-next all place last at)
      ∙ after_turns-next config.capacity (map (payloads config.period config.mode) logs) (take place all) last
      (opening (map (payloads config.period config.mode) logs))

  -- Before the first turn.
  pub starts : {B : Type 0} (core : Held) (senders : List (Sender B)) (collected : Collected)
      → core ≡ record { harts = length logs; capacity = config.capacity; queue = [] }
      → AreNewSenders config.period config.mode logs senders → collected.logs ≡ logs → collected.keep ≡ config.keep
      → ((hart : ℕ) (log : ProgramLog) → slice_get logs hart ≡ Some log
      → HasCollected config.period config.mode log 0 hart collected)
      → IsReplayed config logs [] core senders collected None
  starts {B} core senders collected made new own keep begun = record {
    sending = record {
      funnel = made;
      places =
          length-replicate (length (map (payloads config.period config.mode) logs)) []
          ∙ length-map logs (payloads config.period config.mode);
      count = new.count;
      each = λ hart log at.
          new.each hart log at
          ∙ ap (λ sent. Some (sender_at config.period config.mode log (length sent))) (sym (none hart));
    };
    keep = keep;
    taken = record { own = own; each = λ hart log at. inl (begun hart log at) };
    lacks = λ hart log at known is refused.
        let has = begun hart log (sym (ap (λ some. slice_get some hart) own) ∙ known) in
        absurd (came_not_refused hart _ collected has.came
        (subst (λ some. IsSomeAnd some (λ (taken : Taken). IsTrue taken.refused)) (sym is) refused));
    named = λ hart known refused.
        let its = element logs hart (subst (λ n. hart < n) (ap length own) known) in
        came_not_refused hart _ collected (begun hart its.0 its.1).came refused;
  }
    where
      none : (hart : ℕ) → sent_by hart (opening (map (payloads config.period config.mode) logs)) ≡ []
      none hart = get_or-repeated (length (map (payloads config.period config.mode) logs)) hart []

  module _ {B : Type 0} (all : List Turn) (place : ℕ) (core : Held) (senders : List (Sender B))
      (collected : Collected) (why : Option Stop)
      (is : IsReplayed config logs (take place all) core senders collected why) where
    abbrev before : Funnel
    before = state_after (take place all)

    -- There are as many senders as the funnel serves harts.
    pub as_many : length senders ≡ core.harts
    as_many = is.sending.count ∙ ap (λ (held : Held). held.harts) (sym is.sending.funnel)

    pub same_capacity : core.capacity ≡ config.capacity
    same_capacity = ap (λ (held : Held). held.capacity) is.sending.funnel

    waits : core.queue ≡ before.queue
    waits = ap (λ (held : Held). held.queue) is.sending.funnel

    pub next_is : IsFrontNext config.period config.mode logs before.taken before.queue
    next_is =
        front_next config.period config.mode config.capacity logs before
        (every-keeps config.capacity (map (payloads config.period config.mode) logs) (take place all))

    -- The front message can be taken in.
    pub is_ready : IsReady core.queue collected
    is_ready = record {
      period = config.period;
      mode = config.mode;
      logs = logs;
      taken = before.taken;
      came = is.taken;
      next = subst (IsFrontNext config.period config.mode logs before.taken) (sym waits) next_is;
    }

    -- After the turn of a hart.
    pub after_hart : (hart : ℕ) → slice_get all place ≡ Some (turn.Hart hart) → All IsLegalLog logs
        → (new : Held) (now : List (Sender B))
        → ((period : ℕ) (mode : Mode) (some : List ProgramLog) (state : Funnel) → All IsLegalLog some
        → AreSending period mode core.capacity some state core senders
        → AreSending period mode core.capacity some
        (after_turn core.capacity (map (payloads period mode) some) (turn.Hart hart) state) new now)
        → IsReplayed config logs (take (place + 1) all) new now collected why
    after_hart hart at legal new now sent = record {
      sending =
          subst (λ state. AreSending config.period config.mode config.capacity logs state new now) (sym next)
          (subst (λ room. AreSending config.period config.mode room logs
          (after_turn room (map (payloads config.period config.mode) logs) (turn.Hart hart) before) new now)
          same_capacity
          (sent config.period config.mode logs before legal
          (subst (λ room. AreSending config.period config.mode room logs before core senders) (sym same_capacity)
          is.sending)));
      keep = is.keep;
      taken =
          subst (λ some. CameUnlessRefused config.period config.mode logs some collected)
          (sym (ap (λ (state : Funnel). state.taken) next
          ∙ send_next-taken config.capacity hart
          (slice_get (payloads_of hart (map (payloads config.period config.mode) logs))
          (length (sent_by hart before))) before))
          is.taken;
      lacks =
          subst (λ some. LacksSome some collected)
          (sym (ap (λ (state : Funnel). state.taken) next
          ∙ send_next-taken config.capacity hart
          (slice_get (payloads_of hart (map (payloads config.period config.mode) logs))
          (length (sent_by hart before))) before))
          is.lacks;
      named = is.named;
    }
      where
        next : state_after (take (place + 1) all)
            ≡ after_turn config.capacity (map (payloads config.period config.mode) logs) (turn.Hart hart) before
        next = next_state all (turn.Hart hart) place at

    -- After a turn of the collector.
    pub after_collect : slice_get all place ≡ Some turn.Collect
        → (new : Held) (now : Collected) (next_why : Option Stop)
        → ((state : Funnel) → state.queue ≡ core.queue → new ≡ record core { queue = (take_front state).queue })
        → now.keep ≡ collected.keep
        → ((period : ℕ) (mode : Mode) (some : List ProgramLog) (state : Funnel) → state.queue ≡ core.queue
        → IsFrontNext period mode some state.taken state.queue
        → CameUnlessRefused period mode some state.taken collected
        → CameUnlessRefused period mode some (take_front state).taken now)
        → ((period : ℕ) (mode : Mode) (some : List ProgramLog) (state : Funnel) → state.queue ≡ core.queue
        → IsFrontNext period mode some state.taken state.queue
        → CameUnlessRefused period mode some state.taken collected
        → LacksSome state.taken collected → LacksSome (take_front state).taken now)
        → (NamesRefusedHart why collected → NamesRefusedHart next_why now)
        → IsReplayed config logs (take (place + 1) all) new senders now next_why
    after_collect at new now next_why step keep came lack names = record {
      sending =
          subst (λ state. AreSending config.period config.mode config.capacity logs state new senders) (sym next)
          (record {
            funnel =
                step before (sym waits)
                ∙ ap (λ (held : Held). record held { queue = (take_front before).queue })
                is.sending.funnel;
            places = ap length sent ∙ is.sending.places;
            count = is.sending.count;
            each = λ hart log known.
                is.sending.each hart log known
                ∙ ap (λ all_sent.
                Some (sender_at config.period config.mode log (length (slice_index_or all_sent hart []))))
                (sym sent);
          });
      keep = keep ∙ is.keep;
      taken =
          subst (λ (state : Funnel). CameUnlessRefused config.period config.mode logs state.taken now) (sym next)
          (came config.period config.mode logs before (sym waits) next_is is.taken);
      lacks =
          subst (λ (state : Funnel). LacksSome state.taken now) (sym next)
          (lack config.period config.mode logs before (sym waits) next_is is.taken is.lacks);
      named = names is.named;
    }
      where
        next : state_after (take (place + 1) all) ≡ take_front before
        next = next_state all turn.Collect place at

        sent : (take_front before).sent ≡ before.sent
        sent = take_front-sent before
