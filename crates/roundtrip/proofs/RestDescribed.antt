-- What the pieces of a log describe, from any event of it on.
use Rattle.std.proofs.Common.{◌≡◌, ℕ, ◌^◌, ◌<◌, Bool, true, false, List, [], ◌∷◌, ◌++◌, Option, Some, None, refl, sym}
use Rattle.std.proofs.Common.{ap, subst, ◌∙◌, append_assoc}
use Rattle.std.specs.List.{last_or, AllByRecursion}
use Rattle.retire.specs.Events.{privilege, outcomes}
use Rattle.retire.specs.declared.event.Event.{Event}
use Rattle.retire.specs.declared.event.Event.TheVariants.{Retire, Trap}
use Rattle.rvclass.specs.Words.{Words}
use Rattle.legalpath.proofs.FollowOnLemmas.{last_or-append}
use Rattle.legalpath.specs.Backward.{is_backward}
use Rattle.legalpath.specs.Discontinuity.{is_discontinuity}
use Rattle.legalpath.specs.Join.{join}
use Rattle.legalpath.specs.NoneOf.{NoneOf}
use Rattle.payload.specs.declared.mode.Mode.{Mode}
use Rattle.payload.specs.declared.packet.Packet.TheVariants as packet
use Rattle.encoder.specs.Packets.{packet_by, reported_by, closing}
use Rattle.encoder.specs.Piece.{Piece}
use Rattle.encoder.specs.Rule.{with_handler, is_handler, is_start}
use Rattle.encoder.specs.declared.rule.Rule.{Rule}
use Rattle.decoder.specs.Fits.{Fits}
use Rattle.decoder.specs.Order.{MayPrecede}
use Rattle.decoder.specs.Pieces.{reported_after, Pieces}
use Rattle.decoder.specs.Settling.{makes_explicit}
use Rattle.decoder.specs.Walk.{End, EndsAt, RetiresAt, IsWalk}
use Rattle.roundtrip.specs.Reach.{stretches_of}
use Rattle.roundtrip.proofs.QuietLemmas.{all-snoc, NoneEarly}
use Rattle.roundtrip.proofs.PacketOrder.{last_packets, head_packet, first_is_head, precedes, reported_after-packet_by}

-- The last pieces of a log, the first of which may have begun with these events: their packets fit their
-- stretches after this event, the stretches are the rest of the log, and this says whether the first of
-- the packets makes a plain address packet before it explicit.
pub record RestDescribed (words : Words) (mode : Mode) (since : Option Event) (reported : ℕ) (by_last : Rule)
    (front events : List Event) (explicit : Bool) (pieces : List Piece) : Type 0 where
  pub fit : Pieces words mode since reported (last_packets mode reported by_last pieces) None (stretches_of pieces)
  pub whole : join (stretches_of pieces) ≡ front ++ events
  pub head : makes_explicit (head_packet mode reported by_last pieces) ≡ explicit

-- A stretch of retirements after an event, up to this last one, that gave no packet yet.
pub record Quiet (words : Words) (since : Event) (front : List Event) (last : Event) : Type 0 where
  pub before : RetiresAt (privilege since) since
  pub all : AllByRecursion (RetiresAt (privilege since)) front
  pub now : RetiresAt (privilege since) last
  pub forward : NoneOf (is_backward words) front
  pub early : NoneEarly (is_discontinuity words) (since ∷ front)
  pub ends : last_or (Some since) front ≡ Some last

-- The first of these events, if there is one, is no handler.
abbrev pub NotHandled : Words → Option Event → Option Event → List Event → Type 0
NotHandled words before_that before [] = Unit {0}
NotHandled words before_that before (event ∷ events) = is_handler words before_that before event ≡ false

-- After a retirement the last reported address is in range.
abbrev pub InRangeAfter : Option Event → ℕ → Type 0
InRangeAfter None reported = Unit {0}
InRangeAfter (Some (Trap priv interrupt cause epc tval)) reported = Unit {0}
InRangeAfter (Some (Retire addr itype priv)) reported = reported < 2 ^ 64

-- The first of these events is a retirement that is no new start.
abbrev pub GoesOn : ℕ → ℕ → Event → List Event → Type 0
GoesOn period number before [] = ⊥
GoesOn period number before (Trap priv interrupt cause epc tval ∷ events) = ⊥
GoesOn period number before (Retire addr itype priv ∷ events) = is_start period number (Some before) priv ≡ false

-- The first of these events is the handler of a trap after this event.
abbrev pub Handles : Words → Option Event → List Event → Type 0
Handles words before [] = false ≡ true
Handles words before (Trap priv interrupt cause epc tval ∷ events) = false ≡ true
Handles words before (Retire addr itype priv ∷ events) =
    with_handler words before (Some (Retire addr itype priv)) ≡ true

-- Where the pieces stand before some events: the last piece ended at the event before; or a stretch is
-- open; or a trap waits for its handler.
pub data State (words : Words) (period : ℕ) : Option Event → List Event → Option Event → Option Event → ℕ → List Event
    → ℕ → Type 0 where
  AtCut : {before_that before : Option Event} {number : ℕ} {events : List Event} {reported : ℕ} →
      NotHandled words before_that before events → InRangeAfter before reported →
      State words period before [] before_that before number events reported
  InStretch : {since : Event} {front : List Event} {before_that : Option Event} {before : Event} {number : ℕ}
      {events : List Event} {reported : ℕ} →
      Quiet words since front before → reported < 2 ^ 64 → GoesOn period number before events →
      State words period (Some since) front before_that (Some before) number events reported
  AfterTrap : {before_that : Option Event} {epc priv : ℕ} {interrupt : Bool} {cause tval number : ℕ}
      {events : List Event} {reported : ℕ} →
      Handles words before_that events →
      State words period before_that (Trap priv interrupt cause epc tval ∷ []) before_that
      (Some (Trap priv interrupt cause epc tval)) number events reported

-- Whether the next packet makes a plain address packet explicit, by the events that follow it.
abbrev pub explicit_before : ℕ → ℕ → Option Event → Rule → List Event → Bool
explicit_before period number before by_last [] = makes_explicit (packet.Support (closing by_last))
explicit_before period number before by_last (Trap priv interrupt cause epc tval ∷ events) = true
explicit_before period number before by_last (Retire addr itype priv ∷ events) = is_start period number before priv

-- The same in a state: an open stretch goes on with a packet that does not, and a trap with its handler is a packet
-- that does.
abbrev pub explicit_in : {words : Words} {period : ℕ} {since : Option Event} {front : List Event}
    {before_that before : Option Event} {number : ℕ} {events : List Event} {reported : ℕ} → Rule
    → State words period since front before_that before number events reported → Bool
explicit_in {period = period} {before = before} {number = number} {events = events} by_last (AtCut handled known) =
    explicit_before period number before by_last events
explicit_in by_last (InStretch quiet known on) = false
explicit_in by_last (AfterTrap handles) = true

-- What the events after one describe, in each state that it may leave.
abbrev pub RestDescribedAfter : Words → ℕ → Mode → Option Event → Event → ℕ → List Event → (List Event → List Piece)
    → Type 0
RestDescribedAfter words period mode before event number events rest =
    (since : Option Event) (front : List Event) (reported : ℕ) (by_last : Rule) →
    (state : State words period since front before (Some event) number events reported) →
    RestDescribed words mode since reported by_last front events (explicit_in by_last state) (rest front)

-- An event ends a piece, whose packet fits it.
pub cut : (words : Words) (mode : Mode) (since : Option Event) (reported : ℕ) (by_last : Rule) (front : List Event)
    (last : Event) (rule : Rule) (events : List Event) (explicit : Bool) (pieces : List Piece) →
    Fits words mode since reported (packet_by mode reported front last rule)
    (Some (head_packet mode (reported_by rule reported last) rule pieces)) (front ++ last ∷ []) →
    RestDescribed words mode (Some last) (reported_by rule reported last) rule [] events explicit pieces →
    RestDescribed words mode since reported by_last front (last ∷ events)
    (makes_explicit (packet_by mode reported front last rule)) (record { front = front; last = last; by = rule } ∷
    pieces)
cut words mode since reported by_last front last rule events explicit pieces fits described =
    let after = reported_by rule reported last in
    let reporting = packet_by mode reported front last rule in
    let head = first_is_head mode after rule pieces in
    let order = subst (λ next. MayPrecede reporting next) (sym head)
    (precedes mode reported front last rule after pieces) in
    let fit = subst (λ next. Fits words mode since reported reporting next (front ++ last ∷ [])) (sym head) fits in
    let ends : last_or since (front ++ last ∷ []) ≡ Some last = last_or-append since front (last ∷ []) in
    let by_address = subst (λ address. Pieces words mode (Some last) address (last_packets mode after rule pieces) None
    (stretches_of pieces)) (sym (reported_after-packet_by mode reported front last rule)) described.fit in
    let rest = subst (λ before. Pieces words mode before (reported_after reporting reported (front ++ last ∷ []))
    (last_packets mode after rule pieces) None (stretches_of pieces)) (sym ends) by_address in
    record {
      fit = (order, fit, rest);
      whole = ap (λ l. (front ++ last ∷ []) ++ l) described.whole ∙ append_assoc front (last ∷ []) events;
      head = refl;
    }

-- A quiet stretch and one retirement more are a walk.
pub quiet_walks : (words : Words) (since : Event) (front : List Event) (before last : Event) (end : End)
    → Quiet words since front before → RetiresAt (privilege since) last → EndsAt words end since front last
    → IsWalk words since (outcomes (front ++ last ∷ [])) end (front ++ last ∷ [])
quiet_walks words since front before last end quiet here ends =
    record {
      front = front;
      last = last;
      whole = refl;
      retirements = (quiet.before, all-snoc (RetiresAt (privilege since)) front last quiet.all here);
      branches = refl;
      forward = quiet.forward;
      ends = ends;
    }

-- After a retirement comes no handler.
pub not_handled : (words : Words) (before : Option Event) (addr itype priv : ℕ) (events : List Event)
    → NotHandled words before (Some (Retire addr itype priv)) events
not_handled words before addr itype priv [] = tt
not_handled words before addr itype priv (event ∷ events) = refl
