-- What was received of each hart by itself is what was received of all.
use Rattle.std.proofs.Common.{◌≡◌, ◌≢◌, ◌⊎◌, inl, inr, ◌+◌, ◌<◌, ◌++◌, ℕ, zero, suc, Bool, All, List, [], ◌∷◌, Option}
use Rattle.std.proofs.Common.{Some, length, map, set, slice_get, refl, sym, ap, subst, ◌∙◌, arith, zero-add}
use Rattle.std.specs.Option.{option_map}
use Rattle.std.proofs.lemmas.List.{length-map, length-replicate}
use Rattle.std.proofs.lemmas.Option.{same_Some, slice_get-map, slice_get_within}
use Rattle.retire.specs.declared.event.Event.{Event}
use Rattle.rvclass.specs.Words.{Words}
use Rattle.payload.specs.ClosedTrace.{last_is_closing}
use Rattle.payload.specs.declared.mode.Mode.{Mode}
use Rattle.decoder.specs.Describes.{Describes}
use Rattle.message.proofs.AcceptedLemmas.{slice_get-set}
use Rattle.message.proofs.Elements.{slice_get-some}
use Rattle.message.proofs.OfHartLemmas.{of_hart-next, of_hart-other}
use Rattle.message.specs.Accepted.{AreAccepted, newcomers}
use Rattle.message.specs.Harts.{newcomer}
use Rattle.message.specs.OfHart.{of_hart, packets_of}
use Rattle.message.specs.declared.message.Message.{Message}
use Rattle.receiver.proofs.AcceptLemmas.{going}
use Rattle.receiver.specs.Agreeing.{Agrees}
use Rattle.receiver.specs.Holds.{AreDecoded}
use Rattle.receiver.specs.NotReceived.{IsNotReceived}
use Rattle.receiver.specs.declared.fault.ReceiveFault.{ReceiveFault}
use Rattle.receiver.specs.declared.fault.ReceiveFault.TheVariants as receiving
use Rattle.parallel_decode.proofs.ByHart.{accepting-own, all-accepted, all-of-harts, newcomer-at}
use Rattle.parallel_decode.specs.declared.own.Own.{Own}
use Rattle.parallel_decode.specs.steps.OwnMessages.{AreOwnAccepted, IsOwn, IsOwnRefused}
use Rattle.parallel_decode.specs.steps.Surveying.{AreOwns, closed_of}
use Rattle.parallel_decode.specs.steps.Walked.{IsOfHarts}

-- A message that is refused after those of its hart is refused after all.
pub refused-own : (words : Words) (harts : ℕ) (announced : Option Mode) (messages : List Message) (message : Message)
    → AreAccepted (newcomers harts) messages → message.hart < harts → (why : ReceiveFault)
    → IsOwnRefused words announced (of_hart message.hart messages) message why
    → IsNotReceived words harts announced messages message why
refused-own words harts announced messages message all within (receiving.Demux why) is =
    accepting-own harts messages message within ∙ is
refused-own words harts announced messages message all within receiving.Mode is = record {
  packet = is.0;
  accepted = accepting-own harts messages message within ∙ is.1;
  another = is.2;
}
refused-own words harts announced messages message all within (receiving.Decode why) is =
    let accepted = accepting-own harts messages message within ∙ is.1 in (
      record {
        packet = is.0;
        accepted = accepted;
        not_closed = going harts messages message is.0 all accepted;
        not_decoded = is.2;
      },
      is.3,
    )

-- A list of what there is for each place.
collect : {X : Type 0} (P : ℕ → X → Type 0) (count from : ℕ) → ((i : ℕ) → i < count → (x : X) × P (from + i) x)
    → (xs : List X) × (length xs ≡ count) × ((i : ℕ) (x : X) → slice_get xs i ≡ Some x → P (from + i) x)
collect {X} P zero from each = ([], refl, none)
  where
    none : (i : ℕ) (x : X) → slice_get [] i ≡ Some x → P (from + i) x
    none i x is = cc
collect {X} P (suc count) from each =
    let first = each 0 (omega arith) in
    let rest = collect P count (from + 1) (λ i within.
    let one = each (suc i) (omega (arith, within)) in
    (one.0, subst (λ n. P n one.0) (shift from i) one.1)) in
    (first.0 ∷ rest.0, ap suc rest.1, members first.0 rest.0 first.1 rest.2)
  where
    shift : (from i : ℕ) → from + suc i ≡ from + 1 + i
    shift from i = omega arith

    members : (x : X) (xs : List X) → P (from + 0) x
        → ((i : ℕ) (y : X) → slice_get xs i ≡ Some y → P (from + 1 + i) y)
        → (i : ℕ) (y : X) → slice_get (x ∷ xs) i ≡ Some y → P (from + i) y
    members x xs here rest zero y is = subst (P (from + 0)) (same_Some x y is) here
    members x xs here rest (suc i) y is = subst (λ n. P n y) (sym (shift from i)) (rest i y is)

-- The same, with the places counted from 0.
pub collect-all : {X : Type 0} (P : ℕ → X → Type 0) (count : ℕ) → ((i : ℕ) → i < count → (x : X) × P i x)
    → (xs : List X) × (length xs ≡ count) × ((i : ℕ) (x : X) → slice_get xs i ≡ Some x → P i x)
collect-all P count each =
    let all = collect P count 0 (λ i within.
    let one = each i within in
    (one.0, subst (λ n. P n one.0) (sym (zero-add i)) one.1)) in
    (all.0, all.1, λ i x is. subst (λ n. P n x) (zero-add i) (all.2 i x is))

-- With one message more of a hart.
pub owns-next : (words : Words) (announced : Option Mode) (messages : List Message) (message : Message)
    (owns : List Own) (at : ℕ) (new : Own) (log : List Event) → at ≡ message.hart
    → AreOwns words announced messages owns
    → IsOwn words announced (of_hart message.hart messages ++ message ∷ []) log new
    → AreOwns words announced (messages ++ message ∷ []) (set owns at new)
owns-next words announced messages message owns at new log here are next hart own is =
    by_place (slice_get-set owns at new hart own is)
  where
    by_place : ((at ≡ hart) × (own ≡ new)) ⊎ ((at ≢ hart) × (slice_get owns hart ≡ Some own))
        → (log : List Event) × IsOwn words announced (of_hart hart (messages ++ message ∷ [])) log own
    by_place (inl (this, is_new)) = (
      log,
      subst (IsOwn words announced (of_hart hart (messages ++ message ∷ [])) log) (sym is_new)
          (subst (λ hart. IsOwn words announced (of_hart hart (messages ++ message ∷ [])) log new) (sym here ∙ this)
          (subst (λ own. IsOwn words announced own log new) (sym (of_hart-next messages message)) next)),
    )
    by_place (inr (apart, found)) =
        let was = are hart own found in (
          was.0,
          subst (λ own_messages. IsOwn words announced own_messages was.0 own)
              (sym (of_hart-other hart messages message (λ same. apart (here ∙ same)))) was.1,
        )

-- Where a hart keeps its flag, all do.
pub flags-kept : (owns : List Own) (at : ℕ) (old new : Own) → slice_get owns at ≡ Some old → new.closed ≡ old.closed
    → closed_of (set owns at new) ≡ closed_of owns
flags-kept [] at old new is same = refl
flags-kept (own ∷ owns) zero old new is same =
    ap (λ flag. flag ∷ closed_of owns) (same ∙ ap (λ (own : Own). own.closed) (sym (same_Some own old is)))
flags-kept (own ∷ owns) (suc at) old new is same =
    ap (λ flags. own.closed ∷ flags) (flags-kept owns at old new is same)

module _ (words : Words) (harts : ℕ) (announced : Option Mode) (messages : List Message)
    (of_harts : All (IsOfHarts harts) messages) (owns : List Own) (many : length owns ≡ harts)
    (are : AreOwns words announced messages owns) where
  -- What was received of a hart.
  record OwnAt (hart : ℕ) : Type 0 where
    own : Own
    is : slice_get owns hart ≡ Some own
    log : List Event
    received : IsOwn words announced (of_hart hart messages) log own

  own-at : (hart : ℕ) → hart < harts → OwnAt hart
  own-at hart below =
      let found = slice_get-some owns hart (omega (arith, below, many)) in
      let received = are hart found.0 found.1 in
      record { own = found.0; is = found.1; log = received.0; received = received.1 }

  -- All messages are accepted,
  pub all_accepted : AreAccepted (newcomers harts) messages
  all_accepted =
      all-accepted (newcomers harts) messages
      (subst (λ n. All (IsOfHarts n) messages) (sym (length-replicate harts newcomer)) of_harts)
      (λ hart h is.
      let within = slice_get_within (newcomers harts) hart h is in
      let below : hart < harts = omega (arith, within, length-replicate harts newcomer) in
      subst (λ h. AreOwnAccepted h (of_hart hart messages))
      (same_Some newcomer h (sym (newcomer-at harts hart below) ∙ is)) (own-at hart below).received.accepted)

  -- and none opens a trace in another mode than the announced one.
  pub all_agree : All (Agrees announced) messages
  all_agree =
      all-of-harts (Agrees announced) harts messages of_harts (λ hart below. (own-at hart below).received.agree)

  -- The flag of a hart is that of its packets.
  flag-of : (hart : ℕ) (flag : Bool) → slice_get (closed_of owns) hart ≡ Some flag
      → flag ≡ last_is_closing (packets_of hart messages)
  flag-of hart flag is =
      let within = slice_get_within (map (λ (own : Own). own.closed) owns) hart flag is in
      let mapped = length-map owns (λ (own : Own). own.closed) in
      let at = own-at hart (omega (arith, within, mapped, many)) in
      same_Some flag at.own.closed
      (sym is ∙ slice_get-map (λ (own : Own). own.closed) owns hart
      ∙ ap (option_map (λ (own : Own). own.closed)) at.is)
      ∙ at.received.closed

  -- What is decoded.
  pub logs_decoded : (logs : List (List Event)) → length logs ≡ harts
      → ((hart : ℕ) (log : List Event) → slice_get logs hart ≡ Some log
      → Describes words (packets_of hart messages) log)
      → AreDecoded (λ hart. words) harts messages logs (closed_of owns)
  logs_decoded logs counted each = record {
    lists_count = counted;
    closed_count = length-map owns (λ (own : Own). own.closed) ∙ many;
    described = each;
    are_closed = flag-of;
  }

  pub all_logs : (logs : List (List Event)) × AreDecoded (λ hart. words) harts messages logs (closed_of owns)
  all_logs =
      let logs = collect-all (λ hart log. Describes words (packets_of hart messages) log) harts (λ hart below.
      let at = own-at hart below in
      (at.log, at.received.stands.described)) in
      (logs.0, logs_decoded logs.0 logs.1 logs.2)
