-- The funnel and the harts that send stand, after a turn of a hart, where the funnel machine does.
use Rattle.std.proofs.Common.{◌≡◌, ◌≢◌, ◌<◌, ◌+◌, ◌⊎◌, inl, inr, ℕ, true, cond, List, [], ◌∷◌, ◌++◌, Some, None, length}
use Rattle.std.proofs.Common.{map, nat_lt, set, slice_get, sym, ap, subst, ◌∙◌, arith}
use Rattle.std.proofs.lemmas.Bool.{cases_eq}
use Rattle.std.proofs.lemmas.List.{get_or-set_other, get_or-set_same, length-set, length_push}
use Rattle.std.proofs.lemmas.Option.{same_Some, slice_get_within}
use Rattle.legalpath.specs.ProgramLog.{ProgramLog}
use Rattle.payload.specs.declared.mode.Mode.{Mode}
use Rattle.encoder.specs.Payloads.{payloads}
use Rattle.message.specs.declared.message.Message.{Message}
use Rattle.funnel.specs.Held.{Held}
use Rattle.funnel.specs.Machine.{Funnel, add, send_next, sent_by}
use Rattle.funnel.specs.Order.{next_message}
use Rattle.funnel.specs.Payloads.{payloads_of}
use Rattle.receiver.proofs.HoldLemmas.{set-other}
use Rattle.bench.specs.declared.sender.Sender.{Sender}
use Rattle.bench.specs.steps.Sending.{AreSending, sender_at}
use Rattle.bench.proofs.CollectedLemmas.{set-at}
use Rattle.bench.proofs.OwnPayloads.{own_payloads}

module _ {B : Type 0} (period : ℕ) (mode : Mode) (capacity : ℕ) (logs : List ProgramLog) (state : Funnel) (core : Held)
    (senders : List (Sender B)) (sending : AreSending period mode capacity logs state core senders)
    (hart : ℕ) (log : ProgramLog) (at : slice_get logs hart ≡ Some log) where
  -- How many messages the hart sent.
  abbrev count : ℕ
  count = length (sent_by hart state)

  own : slice_get (payloads_of hart (map (payloads period mode) logs)) count
      ≡ slice_get (payloads period mode log) count
  own = ap (λ all. slice_get all count) (own_payloads period mode hart logs log at)

  within : hart < length senders
  within = slice_get_within senders hart (sender_at period mode log count) (sending.each hart log at)

  -- A hart with no payload left sends none.
  pub none_sent : (next : Sender B) → slice_get (payloads period mode log) count ≡ None
      → next ≡ sender_at period mode log count
      → AreSending period mode capacity logs
      (send_next capacity hart (slice_get (payloads_of hart (map (payloads period mode) logs)) count) state) core
      (set senders hart next)
  none_sent next ended is =
      subst (λ payload. AreSending period mode capacity logs (send_next capacity hart payload state) core
      (set senders hart next)) (sym (own ∙ ended)) (record {
        funnel = sending.funnel;
        places = sending.places;
        count = length-set senders hart next ∙ sending.count;
        each = λ other its there. by_hart other its there (cases_eq other hart);
      })
    where
      by_hart : (other : ℕ) (its : ProgramLog) → slice_get logs other ≡ Some its
          → (other ≡ hart) ⊎ (other ≡ hart → ⊥)
          → slice_get (set senders hart next) other ≡ Some (sender_at period mode its (length (sent_by other state)))
      by_hart other its there (inl same) =
          ap (slice_get (set senders hart next)) same
          ∙ set-at senders hart next within
          ∙ ap Some is
          ∙ sym (sending.each hart log at)
          ∙ ap (slice_get senders) (sym same)
          ∙ sending.each other its there
      by_hart other its there (inr apart) =
          set-other senders hart next other apart ∙ sending.each other its there

  module _ (payload : List ℕ) where
    abbrev message : Message
    message = next_message hart (sent_by hart state) payload

    abbrev after : Funnel
    after = add message state

    sent_own : sent_by hart after ≡ sent_by hart state ++ message ∷ []
    sent_own =
        get_or-set_same state.sent hart (sent_by hart state ++ message ∷ []) []
        (let inside = slice_get_within logs hart log at in omega (arith, inside, sending.places))

    sent_other : (other : ℕ) → other ≢ hart → sent_by other after ≡ sent_by other state
    sent_other other apart =
        get_or-set_other state.sent hart other (sent_by hart state ++ message ∷ []) [] apart

    module _ (next : Sender B) (is : next ≡ sender_at period mode log (count + 1)) where
      by_hart : (other : ℕ) (its : ProgramLog) → slice_get logs other ≡ Some its
          → (other ≡ hart) ⊎ (other ≡ hart → ⊥)
          → slice_get (set senders hart next) other ≡ Some (sender_at period mode its (length (sent_by other after)))
      by_hart other its there (inl same) =
          let one_more = ap length sent_own ∙ length_push (sent_by hart state) message in
          let its_own : Some log ≡ Some its = sym at ∙ ap (slice_get logs) (sym same) ∙ there in
          ap (slice_get (set senders hart next)) same
          ∙ set-at senders hart next within
          ∙ ap Some is
          ∙ ap (λ n. Some (sender_at period mode log n)) (sym one_more)
          ∙ ap (λ h. Some (sender_at period mode log (length (sent_by h after)))) (sym same)
          ∙ ap (λ (l : ProgramLog). Some (sender_at period mode l (length (sent_by other after))))
          (same_Some log its its_own)
      by_hart other its there (inr apart) =
          set-other senders hart next other apart
          ∙ sending.each other its there
          ∙ ap (λ sent. Some (sender_at period mode its (length sent))) (sym (sent_other other apart))

      -- A hart with a payload left sends it where there is room.
      pub one_sent : (new : Held) → slice_get (payloads period mode log) count ≡ Some payload
          → nat_lt (length state.queue) capacity ≡ true
          → new ≡ record { harts = length logs; capacity = capacity; queue = after.queue }
          → AreSending period mode capacity logs
          (send_next capacity hart (slice_get (payloads_of hart (map (payloads period mode) logs)) count) state) new
          (set senders hart next)
      one_sent new given room stands =
          subst (λ some. AreSending period mode capacity logs (send_next capacity hart some state) new
          (set senders hart next)) (sym (own ∙ given))
          (subst (λ b. AreSending period mode capacity logs (cond b after state) new (set senders hart next)) (sym room)
          (record {
            funnel = stands;
            places =
                length-set state.sent hart (sent_by hart state ++ message ∷ [])
                ∙ sending.places;
            count = length-set senders hart next ∙ sending.count;
            each = λ other its there. by_hart other its there (cases_eq other hart);
          }))
