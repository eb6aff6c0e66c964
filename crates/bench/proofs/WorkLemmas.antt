-- Messages that carry the first payloads of a log.
use Rattle.std.proofs.Common.{◌≡◌, ◌⊎◌, ◌+◌, ℕ, Bool, true, false, List, [], ◌∷◌, ◌++◌, Some}
use Rattle.std.proofs.Common.{length, set, take, slice_get, refl, sym, ap, subst, inl, inr, ◌∙◌, arith}
use Rattle.std.specs.Prelude.{Contains}
use Rattle.std.specs.declared.thread.PromisedHandle.{PromisedHandle}
use Rattle.std.proofs.lemmas.Bool.{cases_eq}
use Rattle.std.proofs.lemmas.List.{length-append, length-map, length-set, length_push, map-append}
use Rattle.std.proofs.lemmas.List.Elements.{Contains-push_cases}
use Rattle.std.proofs.lemmas.Option.{same_Some, slice_get_within}
use Rattle.legalpath.specs.ProgramLog.{ProgramLog}
use Rattle.payload.specs.declared.mode.Mode.{Mode}
use Rattle.encoder.specs.Payloads.{payloads}
use Rattle.encoder.specs.SourceAt.{IsAt, SourceAt}
use Rattle.message.specs.OfHart.{of_hart}
use Rattle.message.specs.declared.message.Message.{Message}
use Rattle.funnel.specs.Ends.{FunnelId, IsBeginning, PortView, after_sending}
use Rattle.funnel.specs.Order.{next_message}
use Rattle.funnel.specs.Payloads.{payloads_in}
use Rattle.receiver.proofs.HoldLemmas.{set-other}
use Rattle.bench.specs.Stopping.{LacksPayloads}
use Rattle.bench.specs.Working.{AreNotAll, CarryFirst, IsWork}
use Rattle.bench.specs.declared.config.Config.{Config}
use Rattle.bench.specs.declared.worker.Sending.{Sending}
use Rattle.bench.specs.declared.worker.Work.{Work}
use Rattle.bench.specs.steps.Gathering.{IsWorkerOf}
use Rattle.bench.proofs.CollectedLemmas.{set-at, take-next}
use Rattle.bench.proofs.FirstItems.{take-front, take-last}

payloads_joined : (front rest : List Message) → payloads_in (front ++ rest) ≡ payloads_in front ++ payloads_in rest
payloads_joined front rest = map-append (λ (message : Message). message.payload) front rest

count_payloads : (messages : List Message) → length (payloads_in messages) ≡ length messages
count_payloads messages = length-map messages (λ (message : Message). message.payload)

module _ (period : ℕ) (mode : Mode) (log : ProgramLog) where
  abbrev all : List (List ℕ)
  all = payloads period mode log

  -- With the next one.
  pub carry_more : (sent : List Message) (message : Message) → CarryFirst period mode log sent
      → slice_get (payloads period mode log) (length sent) ≡ Some message.payload
      → CarryFirst period mode log (sent ++ message ∷ [])
  carry_more sent message first at =
      payloads_joined sent (message ∷ [])
      ∙ ap (λ more. more ++ message.payload ∷ []) first
      ∙ sym (take-next all (length sent) message.payload at)
      ∙ ap (λ n. take n all) (sym (length_push sent message))

  -- A front of them.
  pub carry_front : (front rest : List Message) → CarryFirst period mode log (front ++ rest)
      → CarryFirst period mode log front
  carry_front front rest first =
      take-front (payloads_in front) (payloads_in rest) all (length (front ++ rest))
      (sym (payloads_joined front rest) ∙ first)
      ∙ ap (λ n. take n all) (count_payloads front)

  -- The last of them is the log's next.
  pub carry_last : (front : List Message) (message : Message) → CarryFirst period mode log (front ++ message ∷ [])
      → slice_get (payloads period mode log) (length front) ≡ Some message.payload
  carry_last front message first =
      ap (slice_get all) (sym (count_payloads front))
      ∙ take-last (payloads_in front) message.payload all (length (front ++ message ∷ []))
      (sym (payloads_joined front (message ∷ [])) ∙ first)

-- A source that gave nothing stands before the first payload.
pub first_at : (at : SourceAt) → at.number ≡ 0 → IsAt at.period at.mode at.log 0 at
first_at at first = ap (λ n. record at { number = n }) first

-- This many payloads of a log went through a port.
pub record HaveGone (period : ℕ) (mode : Mode) (log : ProgramLog) (port : PortView) (number : ℕ) (now : PortView)
    : Type 0 where
  pub funnel : now.funnel ≡ port.funnel
  pub hart : now.hart ≡ port.hart
  pub count : length now.sent ≡ number
  pub sent : CarryFirst period mode log now.sent

module _ (period : ℕ) (mode : Mode) (log : ProgramLog) (port : PortView) where
  -- At first none did.
  pub none_gone : port.sent ≡ [] → HaveGone period mode log port 0 port
  none_gone none = record {
    funnel = refl;
    hart = refl;
    count = ap length none;
    sent = subst (CarryFirst period mode log) (sym none) refl;
  }

  -- With the next one.
  pub one_gone : (number : ℕ) (old new : PortView) (payload : List ℕ) → HaveGone period mode log port number old
      → Some payload ≡ slice_get (payloads period mode log) number → new ≡ after_sending old payload
      → HaveGone period mode log port (number + 1) new
  one_gone number old new payload gone next sending =
      let message = next_message old.hart old.sent payload in
      subst (HaveGone period mode log port (number + 1)) (sym sending) (record {
        funnel = gone.funnel;
        hart = gone.hart;
        count = length_push old.sent message ∙ ap (λ n. n + 1) gone.count;
        sent = carry_more period mode log old.sent message gone.sent
            (ap (slice_get (payloads period mode log)) gone.count ∙ sym next);
      })

  -- What a worker leaves that was not refused.
  pub all_gone : (number : ℕ) (now left : PortView) (flag : Bool) → HaveGone period mode log port number now
      → left ≡ now → flag ≡ false → IsWork period mode port log left flag
  all_gone number now left flag gone same off =
      subst (λ p. IsWork period mode port log p flag) (sym same)
      (gone.funnel, gone.hart, gone.sent, λ on. absurd (apart flag on off))
    where
      apart : (b : Bool) → b ≡ true → b ≡ false → ⊥
      apart b on off = cc

  -- What a worker leaves that was refused before the next one.
  pub some_gone : (number : ℕ) (now left : PortView) (flag : Bool) (payload : List ℕ)
      → HaveGone period mode log port number now
      → Some payload ≡ slice_get (payloads period mode log) number → left ≡ now
      → IsWork period mode port log left flag
  some_gone number now left flag payload gone next same =
      let within = slice_get_within (payloads period mode log) number payload (sym next) in
      let count = gone.count in
      subst (λ p. IsWork period mode port log p flag) (sym same)
      (gone.funnel, gone.hart, gone.sent, λ on. omega (arith, within, count))

-- What was taken of a worker's hart carries the first payloads of its log.
pub settled_first : (period : ℕ) (mode : Mode) (log : ProgramLog) (port receipt : PortView) (taken : List Message)
    (handed_back : Bool) → IsWork period mode port log receipt handed_back
    → IsBeginning (of_hart receipt.hart taken) receipt.sent → CarryFirst period mode log (of_hart port.hart taken)
settled_first period mode log port receipt taken handed_back work begins =
    carry_front period mode log (of_hart port.hart taken) begins.0
    (subst (CarryFirst period mode log)
    (begins.1 ∙ ap (λ hart. of_hart hart taken ++ begins.0) work.1) work.2)

-- And it is not all of the log's where a payload was handed back.
pub settled_lacks : (period : ℕ) (mode : Mode) (log : ProgramLog) (port receipt : PortView) (taken : List Message)
    (handed_back : Bool) → IsWork period mode port log receipt handed_back
    → IsBeginning (of_hart receipt.hart taken) receipt.sent → handed_back ≡ true
    → AreNotAll period mode log (of_hart port.hart taken)
settled_lacks period mode log port receipt taken handed_back work begins back =
    let few = work.3 back in
    let all = ap length begins.1 ∙ length-append (of_hart receipt.hart taken) begins.0 in
    subst (λ hart. AreNotAll period mode log (of_hart hart taken)) work.1 (omega (arith, few, all))

module _ {S : Type 0} (at : S → SourceAt) (funnel : FunnelId) (config : Config) (logs : List ProgramLog)
    (worker : PromisedHandle Work (Sending S)) (own : IsWorkerOf at funnel config logs worker)
    (taken : List Message) where
  abbrev source : SourceAt
  source = at worker.promise.source.value

  abbrev place : ℕ
  place = worker.promise.port.value.hart

  -- What holds of the worker's log holds of the log of a hart that is its own.
  of_own : (P : ℕ → Mode → ProgramLog → List Message → Type 0) (hart : ℕ) (log : ProgramLog)
      → slice_get logs hart ≡ Some log → place ≡ hart
      → P source.period source.mode source.log (of_hart place taken)
      → P config.period config.mode log (of_hart hart taken)
  of_own P hart log known here holds =
      let its : source.log ≡ log = same_Some source.log log (sym own.log ∙ ap (slice_get logs) here ∙ known) in
      subst (λ h. P config.period config.mode log (of_hart h taken)) here
      (subst (λ (l : ProgramLog). P config.period config.mode l (of_hart place taken)) its
      (subst (λ m. P config.period m source.log (of_hart place taken)) own.mode
      (subst (λ p. P p source.mode source.log (of_hart place taken)) own.period holds)))

  -- With its flag each hart that is noted as one of which a payload was handed back lacks payloads.
  pub lacks_noted : (flags : List Bool) (at_place : ℕ) (flag : Bool) → at_place ≡ place
      → (flag ≡ true → AreNotAll source.period source.mode source.log (of_hart place taken))
      → ((hart : ℕ) → slice_get flags hart ≡ Some true
      → LacksPayloads config.period config.mode logs taken hart)
      → (hart : ℕ) → slice_get (set flags at_place flag) hart ≡ Some true
      → LacksPayloads config.period config.mode logs taken hart
  lacks_noted flags at_place flag here lacks before hart noted = λ log known.
      by_case (cases_eq hart at_place) log known
    where
      by_case : (hart ≡ at_place) ⊎ (hart ≡ at_place → ⊥) → (log : ProgramLog) → slice_get logs hart ≡ Some log
          → AreNotAll config.period config.mode log (of_hart hart taken)
      by_case (inl same) log known =
          let within = slice_get_within (set flags at_place flag) hart true noted in
          let size = length-set flags at_place flag in
          let written = set-at flags at_place flag (omega (arith, within, size, same)) in
          let on : flag ≡ true =
          same_Some flag true (sym written ∙ ap (slice_get (set flags at_place flag)) (sym same) ∙ noted) in
          of_own AreNotAll hart log known (sym (same ∙ here)) (lacks on)
      by_case (inr other) log known =
          before hart (sym (set-other flags at_place flag hart other) ∙ noted) log known

  -- What was taken of the harts of workers carries the first payloads of their logs, with this worker settled.
  pub carried_fewer : (harts : List ℕ) → CarryFirst source.period source.mode source.log (of_hart place taken)
      → (hart : ℕ) (log : ProgramLog) → slice_get logs hart ≡ Some log
      → CarryFirst config.period config.mode log (of_hart hart taken) ⊎ Contains (harts ++ place ∷ []) hart
      → CarryFirst config.period config.mode log (of_hart hart taken) ⊎ Contains harts hart
  carried_fewer harts first hart log known (inl done) = inl done
  carried_fewer harts first hart log known (inr still) = by_rest (Contains-push_cases harts place hart still)
    where
      by_rest : Contains harts hart ⊎ (place ≡ hart)
          → CarryFirst config.period config.mode log (of_hart hart taken) ⊎ Contains harts hart
      by_rest (inl rest) = inr rest
      by_rest (inr here) = inl (of_own CarryFirst hart log known here first)
