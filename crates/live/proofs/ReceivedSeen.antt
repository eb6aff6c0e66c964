-- What is seen of a message, by what is held of SENT.
use Rattle.std.proofs.Common.{◌≡◌, ◌<◌, ◌+◌, ◌∙◌, ℕ, zero, suc, List, [], ◌∷◌, Option, Some, None, drop, option_map, slice_get, take}
use Rattle.std.proofs.Common.{refl, sym, ap, arith}
use Rattle.std.proofs.lemmas.List.{length-take}
use Rattle.std.proofs.lemmas.Option.{slice_get-map}
use Rattle.message.specs.declared.message.Message.{Message}
use Rattle.payload.specs.declared.by.By.{By}
use Rattle.live.specs.Compared.{known_trues}
use Rattle.live.specs.Holding.{Holding}
use Rattle.live.specs.Holds.{Holds}
use Rattle.live.specs.Live.{held}
use Rattle.live.specs.Received.{seen_at, seen_beside}
use Rattle.live.specs.View.{given_up, in_view, standing_of}
use Rattle.live.specs.declared.standing.Standing.{Standing}
use Rattle.live.specs.declared.standing.Standing.TheVariants as standing
use Rattle.live.specs.steps.Receiving.{seen_slot}
use Rattle.live.proofs.Judging.{slice_get-drop}
use Rattle.live.proofs.Views.{view_is}
use Rattle.live.proofs.Widening.{in_view_within}

-- What is seen beside what is held of a message of SENT.
slot_seen : (how : By) (message : Message) (trues : List Message) (sent : Option Message)
    → seen_slot how message (option_map (held trues) sent) ≡ seen_beside how message sent
slot_seen how message trues None = refl
slot_seen how message trues (Some sent) = refl

-- The same of the message in view at a place.
pub slots_seen : (how : By) (sent came : List Message) (front : ℕ) (own : Holding) → Holds sent came front own
    → (message : Message) (place : ℕ) → seen_slot how message (slice_get own.slots place)
    ≡ seen_beside how message (slice_get (in_view own.window sent front) place)
slots_seen how sent came front own holds message place =
    let later = drop (given_up own.window front) sent in
    ap (λ l. seen_slot how message (slice_get l place)) holds.slots
    ∙ ap (seen_slot how message) (slice_get-map (held (known_trues own.by sent came)) later place)
    ∙ slot_seen how message (known_trues own.by sent came) (slice_get later place)
    ∙ ap (λ l. seen_beside how message (slice_get l place)) (sym (view_is own.window sent front holds.ahead))

-- A message among those that were read.
get_read : {X : Type 0} → (xs : List X) (n read k : ℕ) → k < read → slice_get (take n (take read xs)) k ≡ slice_get (take n xs) k
get_read xs zero read k less = refl
get_read xs (suc n) zero k less = absurd (omega (arith, less))
get_read [] (suc n) (suc read) k less = refl
get_read (x ∷ xs) (suc n) (suc read) zero less = refl
get_read (x ∷ xs) (suc n) (suc read) (suc k) less = get_read xs n read k (omega (arith, less))

-- What is seen of a message does not depend on what was not read, if where it is does not.
pub seen_wide : (how : By) (window : ℕ) (sent : List Message) (front read : ℕ) (message : Message) (stands : Standing)
    → standing_of window (take read sent) front message.hart message.number ≡ stands
    → seen_at how (in_view window (take read sent) front) message stands ≡ seen_at how (in_view window sent front) message stands
seen_wide how window sent front read message standing.Below is = refl
seen_wide how window sent front read message standing.Beyond is = refl
seen_wide how window sent front read message (standing.At place) is =
    let given = given_up window front in
    let within = in_view_within window (take read sent) front message.hart message.number place is in
    let few = length-take read sent in
    ap (seen_beside how message)
    (slice_get-drop (take (front + window) (take read sent)) given place
    ∙ get_read sent (front + window) read (given + place) (omega (arith, within, few))
    ∙ sym (slice_get-drop (take (front + window) sent) given place))
