-- While all ports are live, the channel's steps are those of the funnel machine.
use Rattle.std.proofs.Common.{◌≡◌, ◌≢◌, ◌⊎◌, ◌+◌, ◌<◌, ◌≤◌, ℕ, zero, suc, List, [], ◌∷◌, ◌++◌, length, cond}
use Rattle.std.proofs.Common.{Option, Some, None, set, slice_get, get_or, refl, sym, ap, ◌∙◌, subst, inl, inr}
use Rattle.std.proofs.Common.{⊎_elim, arith, length-append}
use Rattle.std.proofs.lemmas.Bool.{cases_eq, cases_lt, lt-ltb}
use Rattle.std.proofs.lemmas.List.{get_or_past, get_or-set_other, get_or-set_same, length-set}
use Rattle.std.proofs.lemmas.Option.{slice_get_within}
use mathlib.Core.Option.{some}
use lib.ListN.{get_elem?}
use Rattle.atomic_table.proofs.Lists.{set_else, at_longer, at_last}
use Rattle.message.specs.OfHart.{of_hart}
use Rattle.message.proofs.Elements.{slice_get-behind}
use Rattle.message.proofs.OfHartLemmas.{of_hart-append}
use Rattle.message.specs.declared.message.Message.{Message}
use Rattle.funnel.specs.Lawful.{Lawful}
use Rattle.funnel.specs.Live.{AreLive, Sends, with_new_hart}
use Rattle.funnel.specs.Machine.{Funnel, add, opening, send, sent_by, take_front, take_of}
use Rattle.funnel.specs.Order.{AreInOrder}
use Rattle.funnel.specs.Rule.{Kept, TakesOne, handed_out, newborn, next_port}
use Rattle.funnel.specs.declared.rule.View.{View}
use Rattle.funnel.specs.declared.rule.View.TheVariants as V
use Rattle.funnel.proofs.RuleSteps.{set_there}

-- A new channel is the opening of no harts.
pub new-live : AreLive [] (newborn ∷ []) (opening [])
new-live = record {
  waits = refl;
  outlet = (0, None, [], refl);
  ports = λ hart inside. absurd (omega arith);
}

-- An empty list behind others is what is read there anyway.
get_or-empty : (lists : List (List Message)) (n : ℕ) → get_or (lists ++ [] ∷ []) n [] ≡ get_or lists n []
get_or-empty [] zero = refl
get_or-empty [] (suc n) = refl
get_or-empty (x ∷ xs) zero = refl
get_or-empty (x ∷ xs) (suc n) = get_or-empty xs n

-- Passes with unlike views are not the same.
apart : (views : List View) (p q : ℕ) (v w : View) → get_elem? views p ≡ some v → get_elem? views q ≡ some w
    → (some v ≡ some w → ⊥) → p ≢ q
apart views p q v w here there unlike same = unlike (sym here ∙ ap (get_elem? views) same ∙ there)

module _ (queue : List Message) (views : List View) (state : Funnel) (k : Kept queue views)
    (live : AreLive queue views state) where
  outlet_at : get_elem? views live.outlet.0
      ≡ some (V.Outlet (length state.sent) state.taken live.outlet.1 live.outlet.2)
  outlet_at = live.outlet.3

  -- There are as many harts as seats.
  counted : length state.sent ≡ length k.seats
  counted = (k.may_know live.outlet.0 _ outlet_at).1

  took : state.taken ≡ k.taken
  took = (k.may_know live.outlet.0 _ outlet_at).2

  -- What a hart sent is what was taken of it and then what the channel holds of it.
  all : (hart : ℕ) → sent_by hart state ≡ of_hart hart (k.taken ++ queue)
  all hart = by_place (cases_lt hart (length state.sent))
    where
      by_place : (hart < length state.sent) ⊎ (length state.sent ≤ hart)
          → sent_by hart state ≡ of_hart hart (k.taken ++ queue)
      by_place (inl inside) = let port = live.ports hart inside in (k.may_know port.0 _ port.1).1
      by_place (inr behind) =
          get_or_past state.sent hart [] behind ∙ sym (k.strangers hart (omega (arith, behind, counted)))

  pub live-lawful : Lawful state
  live-lawful = record {
    whole = λ hart.
        all hart
        ∙ ap (λ taken. of_hart hart (taken ++ queue)) (sym took)
        ∙ of_hart-append hart state.taken queue
        ∙ ap (λ waits. of_hart hart state.taken ++ of_hart hart waits) (sym live.waits);
    in_order = λ hart. subst (AreInOrder hart) (sym (all hart)) (k.in_order hart);
  }

  -- A port that sends, where there is room.
  module _ (capacity pass : ℕ) (message : Message) (room : length queue < capacity) where
    port_sends : (s : List Message) → get_elem? views pass ≡ some (V.Port message.hart s)
        → AreLive (queue ++ message ∷ []) (set views pass (V.Port message.hart (s ++ message ∷ [])))
        (send capacity message state)
    port_sends s at =
        subst (λ b. AreLive (queue ++ message ∷ []) now (cond b (add message state) state))
        (sym (lt-ltb (length state.queue) capacity (let waits = ap length live.waits in omega (arith, room, waits))))
        (record {
          waits = ap (λ waits. waits ++ message ∷ []) live.waits;
          outlet = (
            live.outlet.0,
            live.outlet.1,
            live.outlet.2,
            set_else views pass live.outlet.0 port (apart views live.outlet.0 pass _ _ outlet_at at (λ same. cc))
                ∙ outlet_at
                ∙ ap (λ n. some (V.Outlet n state.taken live.outlet.1 live.outlet.2)) (sym places),
          );
          ports = λ hart inside. by_hart hart (omega (arith, inside, places)) (cases_eq hart message.hart);
        })
      where
        port : View
        port = V.Port message.hart (s ++ message ∷ [])

        now : List View
        now = set views pass port

        mine : (slice_get k.seats message.hart ≡ Some pass) × (s ≡ of_hart message.hart (k.taken ++ queue))
        mine = k.may_know pass (V.Port message.hart s) at

        known : message.hart < length state.sent
        known = let inside = slice_get_within k.seats message.hart pass mine.0 in omega (arith, inside, counted)

        sent : List Message
        sent = sent_by message.hart state ++ message ∷ []

        places : length (set state.sent message.hart sent) ≡ length state.sent
        places = length-set state.sent message.hart sent

        own : sent_by message.hart (add message state) ≡ s ++ message ∷ []
        own =
            get_or-set_same state.sent message.hart sent [] known
            ∙ ap (λ before. before ++ message ∷ []) (all message.hart ∙ sym mine.1)

        by_hart : (hart : ℕ) → hart < length state.sent → (hart ≡ message.hart) ⊎ (hart ≡ message.hart → ⊥)
            → (p : ℕ) × (get_elem? now p ≡ some (V.Port hart (sent_by hart (add message state))))
        by_hart hart inside (inl same) = (
          pass,
          set_there views pass (V.Port message.hart s) port at
              ∙ ap (λ l. some (V.Port message.hart l)) (sym own)
              ∙ ap (λ h. some (V.Port h (sent_by h (add message state)))) (sym same),
        )
        by_hart hart inside (inr other) =
            let theirs = live.ports hart inside in (
              theirs.0,
              set_else views pass theirs.0 port (apart views theirs.0 pass _ _ theirs.1 at (λ same. other cc))
                  ∙ theirs.1
                  ∙ ap (λ l. some (V.Port hart l))
                  (sym (get_or-set_other state.sent message.hart hart sent [] other)),
            )

    -- The message of a port that keeps the rule is of the port's hart.
    own_message : (h : ℕ) (s : List Message) → get_elem? views pass ≡ some (V.Port h s)
        → Kept (queue ++ message ∷ []) (set views pass (V.Port h (s ++ message ∷ []))) → message.hart ≡ h
    own_message h s at kept =
        let here = set_there views pass (V.Port h s) (V.Port h (s ++ message ∷ [])) at in
        let order = subst (AreInOrder h) (sym (kept.may_know pass _ here).1) (kept.in_order h) in
        (order.numbered (length s) message (slice_get-behind s message [])).0

    pub sends-live : (before after : View) → get_elem? views pass ≡ some before → Sends before message after
        → Kept (queue ++ message ∷ []) (set views pass after)
        → AreLive (queue ++ message ∷ []) (set views pass after) (send capacity message state)
    sends-live (V.Outlet made taken settled list) after at (inl never) kept = absurd never
    sends-live (V.Outlet made taken settled list) after at (inr never) kept = absurd never
    sends-live V.Spent after at (inl never) kept = absurd never
    sends-live V.Spent after at (inr never) kept = absurd never
    sends-live (V.Port h s) after at sends kept =
        let is : after ≡ V.Port h (s ++ message ∷ []) = ⊎_elim (λ t. t.0) (λ t. t.0) sends in
        let own = own_message h s at (subst (λ v. Kept (queue ++ message ∷ []) (set views pass v)) is kept) in
        subst (λ v. AreLive (queue ++ message ∷ []) (set views pass v) (send capacity message state))
        (ap (λ j. V.Port j (s ++ message ∷ [])) own ∙ sym is)
        (port_sends s (at ∙ ap (λ j. some (V.Port j s)) (sym own)))

  -- The outlet that hands out a port.
  pub hands_out-live : (pass : ℕ) (before : View) (made : ℕ) (taken : List Message) (settled : Option ℕ)
      (list : List Message)
      → before ≡ V.Outlet made taken settled list → get_elem? views pass ≡ some before
      → AreLive queue (set views pass (handed_out before) ++ next_port before ∷ []) (with_new_hart state)
  hands_out-live pass before made taken settled list is at =
      subst (λ v. AreLive queue (set views pass (handed_out v) ++ next_port v ∷ []) (with_new_hart state)) (sym is)
      (record {
        waits = live.waits;
        outlet = (
          pass,
          settled,
          list,
          at_longer cut (V.Port made [] ∷ []) pass left (set_there views pass outlet left here)
              ∙ ap (λ n. some (V.Outlet n taken settled list))
              (omega (arith, count, length-append state.sent ([] ∷ [])))
              ∙ ap (λ t. some (V.Outlet (length (state.sent ++ [] ∷ [])) t settled list)) same,
        );
        ports = λ hart inside. by_place hart inside (cases_lt hart (length state.sent));
      })
    where
      outlet : View
      outlet = V.Outlet made taken settled list

      left : View
      left = V.Outlet (made + 1) taken settled list

      here : get_elem? views pass ≡ some outlet
      here = at ∙ ap some is

      cut : List View
      cut = set views pass left

      fit : (pass ≡ k.outlet) × (made ≡ length k.seats) × (taken ≡ k.taken) × (settled ≡ k.settled) × (list ≡ k.list)
      fit = k.may_know pass outlet here

      count : made ≡ length state.sent
      count = fit.1 ∙ sym counted

      same : taken ≡ state.taken
      same = fit.2 ∙ sym took

      by_place : (hart : ℕ) → hart < length (state.sent ++ [] ∷ [])
          → (hart < length state.sent) ⊎ (length state.sent ≤ hart)
          → (p : ℕ)
          × (get_elem? (cut ++ V.Port made [] ∷ []) p ≡ some (V.Port hart (sent_by hart (with_new_hart state))))
      by_place hart inside (inl before) =
          let port = live.ports hart before in (
            port.0,
            at_longer cut (V.Port made [] ∷ []) port.0 (V.Port hart (sent_by hart state))
                (set_else views pass port.0 left (apart views port.0 pass _ _ port.1 here (λ e. cc)) ∙ port.1)
                ∙ ap (λ l. some (V.Port hart l)) (sym (get_or-empty state.sent hart)),
          )
      by_place hart inside (inr behind) = (
        length cut,
        at_last cut (V.Port made []) (length cut) refl
            ∙ ap (λ n. some (V.Port n []))
            (omega (arith, inside, behind, count, length-append state.sent ([] ∷ [])))
            ∙ ap (λ l. some (V.Port hart l))
            (sym (get_or-empty state.sent hart ∙ get_or_past state.sent hart [] behind)),
      )

-- The outlet that takes.
pub takes-live : (rest : List Message) (views : List View) (state : Funnel) (pass : ℕ) (before after : View)
    (message : Message)
    → Kept (message ∷ rest) views → AreLive (message ∷ rest) views state → get_elem? views pass ≡ some before
    → TakesOne before message after → AreLive rest (set views pass after) (take_front state)
takes-live rest views state pass (V.Port h s) after message k live at never = absurd never
takes-live rest views state pass V.Spent after message k live at never = absurd never
takes-live rest views state pass (V.Outlet made taken settled list) after message k live at takes =
    subst (λ v. AreLive rest (set views pass v) (take_front state)) (sym takes.0)
    (subst (λ q. AreLive rest (set views pass now) (take_of q state)) (sym live.waits)
    (record {
      waits = refl;
      outlet = (
        pass,
        settled,
        list,
        set_there views pass outlet now at
            ∙ ap (λ n. some (V.Outlet n (taken ++ message ∷ []) settled list))
            (fit.1 ∙ sym (counted (message ∷ rest) views state k live))
            ∙ ap (λ t. some (V.Outlet (length state.sent) (t ++ message ∷ []) settled list))
            (fit.2 ∙ sym (took (message ∷ rest) views state k live)),
      );
      ports = λ hart inside. let port = live.ports hart inside in
          (port.0, set_else views pass port.0 now (apart views port.0 pass _ _ port.1 at (λ e. cc)) ∙ port.1);
    }))
  where
    outlet : View
    outlet = V.Outlet made taken settled list

    now : View
    now = V.Outlet made (taken ++ message ∷ []) settled list

    fit : (pass ≡ k.outlet) × (made ≡ length k.seats) × (taken ≡ k.taken) × (settled ≡ k.settled) × (list ≡ k.list)
    fit = k.may_know pass outlet at
