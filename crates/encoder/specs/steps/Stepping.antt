-- How this crate's code goes from one event to the next, by its fields. The files on spots, rules, pieces and packets
-- say what the packets of a log are.
use Rattle.std.specs.Prelude.{ℕ, ◌-◌, ◌==◌, ◌&&◌, ◌||◌, not, nat_le, nat_lt, Bool, true, false, List, [], ◌∷◌, ◌++◌}
use Rattle.std.specs.Prelude.{length, Option, Some, None, if◌then◌else◌}
use Rattle.retire.specs.Events.{place, privilege, is_branch, is_taken}
use Rattle.retire.specs.Itype as types
use Rattle.retire.specs.declared.event.Event.{Event}
use Rattle.retire.specs.declared.event.Event.TheVariants.{Retire, Trap}
use Rattle.rvclass.specs.Words.{Words}
use Rattle.legalpath.specs.Backward.{jumps_back}
use Rattle.payload.specs.AddressField.{delta}
use Rattle.payload.specs.Limits.{most_outcomes}
use Rattle.payload.specs.declared.mode.Mode.{Mode}
use Rattle.payload.specs.declared.packet.Packet.{Packet}
use Rattle.payload.specs.declared.packet.Packet.TheVariants as packet
use Rattle.payload.specs.declared.packet.Report.TheVariants.{Plain, Updiscon, Notify}
use Rattle.payload.specs.declared.packet.Support.{Support}
use Rattle.payload.specs.declared.packet.Support.TheVariants.{EndedNtr}
use Rattle.encoder.specs.Packets.{trap_packet, reported_by, closing}
use Rattle.encoder.specs.declared.due.Due.{Due}
use Rattle.encoder.specs.declared.due.Due.TheVariants as due_of
use Rattle.encoder.specs.declared.encoder.Encoder.{Encoder}
use Rattle.encoder.specs.declared.rule.Rule.{Rule}
use Rattle.encoder.specs.declared.rule.Rule.TheVariants as by

-- A retirement of this type is an uninferable discontinuity.
abbrev pub is_discontinuity_by_type : ℕ → Bool
is_discontinuity_by_type itype = (itype == types.trap_return) || (itype == types.uninferable)

-- What is due for a retirement after a trap for which this is due.
abbrev pub due_behind_trap : Due → Due
due_behind_trap due_of.TrapOrHandler = due_of.Handler
due_behind_trap other = due_of.Sync

-- What is due for an event after the held one, for which this is due. This many retirements come before the next
-- periodic sync.
abbrev pub next_due : Option Event → Due → ℕ → Event → Due
next_due None due left (Retire addr itype priv) = due_of.Sync
next_due None due left (Trap priv interrupt cause epc tval) = due_of.Trap
next_due (Some (Retire at type level)) due left (Retire addr itype priv) =
    if not (priv == level) || (left == 0) then due_of.Sync else
    if is_discontinuity_by_type type then due_of.Target else
    due_of.Nothing
next_due (Some (Trap level interrupt cause epc tval)) due left (Retire addr itype priv) = due_behind_trap due
next_due (Some (Retire at type level)) due left (Trap priv interrupt cause epc tval) =
    if is_discontinuity_by_type type then due_of.Trap else due_of.TrapOrHandler
next_due (Some (Trap level irq code at value)) due left (Trap priv interrupt cause epc tval) = due_of.Trap

-- The event is a trap or a new start, by what is due for it.
abbrev pub cuts_off : Due → Bool
cuts_off due_of.TrapOrHandler = true
cuts_off due_of.Trap = true
cuts_off due_of.Sync = true
cuts_off other = false

-- The event is a backward jump, by its type, by the place of the next one, and by its instruction.
abbrev pub jumps_back_to : Words → Event → Event → Bool
jumps_back_to words (Retire addr itype priv) next =
    (itype == types.other) && nat_le (place next) addr && jumps_back addr (words addr)
jumps_back_to words (Trap priv interrupt cause epc tval) next = false

-- The rule of an event for which nothing is due, by whether a trap or a new start comes next and by whether the event
-- is a backward jump.
abbrev pub rule_of_quiet : Bool → Bool → Rule
rule_of_quiet true back = by.Explicit
rule_of_quiet false true = by.Notify
rule_of_quiet false false = by.MapOrNothing

-- The rule of the held event before the next one. `due` is due for the held event and `after` for the next one, which
-- is no handler.
abbrev pub rule_before : Words → Event → Due → Event → Due → Rule
rule_before words held due_of.TrapOrHandler next after = by.Trap false
rule_before words held due_of.Trap next after = by.Trap false
rule_before words held due_of.Handler next after = by.Handler
rule_before words held due_of.Sync next after = by.Sync
rule_before words held due_of.Target next after = by.Target (cuts_off after)
rule_before words held due_of.Nothing next after = rule_of_quiet (cuts_off after) (jumps_back_to words held next)

-- The rule of the last event of a log, for which this is due.
abbrev pub rule_at_end : Due → Rule
rule_at_end due_of.TrapOrHandler = by.Trap false
rule_at_end due_of.Trap = by.Trap false
rule_at_end due_of.Handler = by.Handler
rule_at_end due_of.Sync = by.Sync
rule_at_end due_of.Target = by.Target false
rule_at_end due_of.Nothing = by.Explicit

-- The packets of an event by its rule, with these outcomes, in this mode and after this last reported address; that of
-- a handler was given with its trap.
abbrev pub packets_by : Rule → Event → List Bool → Mode → ℕ → List Packet
packets_by (by.Trap handler) held outcomes mode reported =
    trap_packet held false (privilege held) false (place held) ∷ []
packets_by by.Handler held outcomes mode reported = []
packets_by by.Sync held outcomes mode reported = packet.Sync (is_taken held) (privilege held) (place held) ∷ []
packets_by (by.Target cut_off) held outcomes mode reported =
    packet.Address outcomes (delta mode reported (place held)) (if cut_off then Updiscon else Plain) ∷ []
packets_by by.Explicit held outcomes mode reported =
    packet.Address outcomes (delta mode reported (place held)) Plain ∷ []
packets_by by.Notify held outcomes mode reported =
    packet.Address outcomes (delta mode reported (place held)) Notify ∷ []
packets_by by.MapOrNothing held outcomes mode reported = packet.Map outcomes ∷ []

-- The packet of a trap and its handler.
abbrev pub handler_packet : Event → Event → Packet
handler_packet trap handler = trap_packet trap (is_taken handler) (privilege handler) true (place handler)

-- The event is a handler, by what is due for it. The packet of the trap before it reports it.
abbrev pub is_handler_due : Due → Bool
is_handler_due due_of.Handler = true
is_handler_due other = false

-- The rule is `MapOrNothing`.
abbrev pub is_map_or_nothing : Rule → Bool
is_map_or_nothing by.MapOrNothing = true
is_map_or_nothing other = false

-- The rule of the held event, if there is one, before the next event. `due` is due for the held event and `after` for
-- the next one.
abbrev pub rule_of_held : Words → Option Event → Due → Event → Due → Option Rule
rule_of_held words None due next after = None
rule_of_held words (Some held) due next after = Some (rule_before words held due next after)

-- There is a held event, and it gives no packet: no other rule than `MapOrNothing` reports it, and the outcomes do not
-- fill a branch map.
abbrev pub gives_nothing : Option Rule → List Bool → Bool
gives_nothing None pending = false
gives_nothing (Some rule) pending = is_map_or_nothing rule && nat_lt (length pending) most_outcomes

-- The held event gives no packet once the next event is known, for which `after` is due.
abbrev pub is_quiet : Words → Encoder → Option Event → Event → Due → Bool
is_quiet words e held next after = gives_nothing (rule_of_held words held e.due next after) e.pending

-- The packets that the next event, for which this is due, gives where it is not quiet, by the rule of the held event.
abbrev pub packets_for_rule : Encoder → Option Event → Option Rule → Event → Due → List Packet
packets_for_rule e (Some held) (Some rule) next after =
    if is_handler_due after then handler_packet held next ∷ [] else
    packets_by rule held e.pending e.mode e.reported
packets_for_rule e held rule next after = []

-- The same, where the rule is the one that the two events have.
abbrev pub packets_before : Words → Encoder → Option Event → Event → Due → List Packet
packets_before words e held next after = packets_for_rule e held (rule_of_held words held e.due next after) next after

-- The last reported address after these packets, by the rule of the held event.
abbrev pub reported_for_rule : Encoder → Option Event → Option Rule → Event → Due → ℕ
reported_for_rule e (Some held) (Some rule) next after =
    if is_handler_due after then place next else reported_by rule e.reported held
reported_for_rule e held rule next after = e.reported

-- The same, where the rule is the one that the two events have.
abbrev pub reported_before : Words → Encoder → Option Event → Event → Due → ℕ
reported_before words e held next after = reported_for_rule e held (rule_of_held words held e.due next after) next after

-- How many retirements come before the next periodic sync after this event, where this many came before it.
abbrev pub left_after : ℕ → ℕ → Event → ℕ
left_after between left (Retire addr itype priv) = if left == 0 then between else left - 1
left_after between left (Trap priv interrupt cause epc tval) = left

-- The outcomes with that of an event for which this is due. The packet of the trap has reported that of a handler.
abbrev pub pending_with : Due → Event → List Bool → List Bool
pending_with due event pending =
    if not (is_handler_due due) && is_branch event then pending ++ is_taken event ∷ [] else pending

-- The encoder holds an event for which this is due, with these outcomes before it and this last reported address.
abbrev pub hold : Encoder → List Bool → ℕ → Event → Due → Encoder
hold e pending reported event due = record e {
  left = left_after e.between e.left event;
  held = Some event;
  due = due;
  pending = pending_with due event pending;
  reported = reported;
}

-- The packets that an event, for which this is due, gives.
abbrev pub given_with : Words → Encoder → Event → Due → List Packet
given_with words e event due = if is_quiet words e e.held event due then [] else packets_before words e e.held event due

-- The encoder after an event for which this is due.
abbrev pub after_with : Words → Encoder → Event → Due → Encoder
after_with words e event due =
    if is_quiet words e e.held event due then hold e e.pending e.reported event due else
    hold e [] (reported_before words e e.held event due) event due

-- The next event gives no packet, and nothing is due for it. It comes after an event for which nothing is due, with
-- this many retirements before the next periodic sync, and with these outcomes.
abbrev pub passes : Words → Event → ℕ → List Bool → Event → Bool
passes words (Retire at type level) left pending (Retire addr itype priv) =
    (priv == level) && (not (left == 0)) && (not (is_discontinuity_by_type type))
    && nat_lt (length pending) most_outcomes
    && not (jumps_back_to words (Retire at type level) (Retire addr itype priv))
passes words held left pending next = false

-- What is due for an event that an encoder is given.
abbrev pub due_next : Encoder → Event → Due
due_next e event = next_due e.held e.due e.left event

-- The packets that an event gives.
abbrev pub given : Words → Encoder → Event → List Packet
given words e event = given_with words e event (due_next e event)

-- The encoder after an event.
abbrev pub encoder_after : Words → Encoder → Event → Encoder
encoder_after words e event = after_with words e event (due_next e event)

-- The packet of the last event of a log, if none has reported it yet.
abbrev pub last_given : Encoder → Option Event → List Packet
last_given e None = []
last_given e (Some held) = packets_by (rule_at_end e.due) held e.pending e.mode e.reported

-- How the trace closes after the last event of a log.
abbrev pub ends_by : Encoder → Option Event → Support
ends_by e None = EndedNtr
ends_by e (Some held) = closing (rule_at_end e.due)

-- The packets that are left at the end of a log.
abbrev pub given_at_end : Encoder → Option Event → List Packet
given_at_end e held = last_given e held ++ packet.Support (ends_by e held) ∷ []
