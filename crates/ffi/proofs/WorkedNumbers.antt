-- Packets, events and states as numbers, cut texts and statuses: worked by hand.
use Rattle.std.proofs.Common.{◌≡◌, true, false, [], ◌∷◌, Some, None, refl}
use Rattle.payload.specs.declared.packet.Packet.TheVariants as packet
use Rattle.payload.specs.declared.packet.Report.TheVariants.{Notify}
use Rattle.payload.specs.declared.packet.Support.TheVariants.{Open, EndedNtr}
use Rattle.payload.specs.declared.mode.Mode.TheVariants.{Full}
use Rattle.encoder.specs.declared.due.Due.TheVariants.{Sync}
use Rattle.retire.specs.declared.event.Event.TheVariants.{Retire, Trap}
use Rattle.ffi.specs.EncoderKept.{numbers_of_state}
use Rattle.ffi.specs.Encoded.{text_between}
use Rattle.ffi.specs.Events.{numbers_if_any, numbers_of_event}
use Rattle.ffi.specs.Numbers.{numbers_of, of_kind}
use Rattle.ffi.specs.Pushed.{new_status}

sync : numbers_of (packet.Sync true 3 2147483660) ≡ record (of_kind 0) { taken = 1; privilege = 3; address = 2147483660 }
sync = refl

interrupt : numbers_of (packet.Trap false 1 7 true false 4096 0)
    ≡ record (of_kind 1) { privilege = 1; cause = 7; interrupt = 1; address = 4096 }
interrupt = refl

full : numbers_of (packet.Support (Open Full)) ≡ record (of_kind 2) { mode = 1 }
full = refl

closing : numbers_of (packet.Support EndedNtr) ≡ of_kind 4
closing = refl

-- The first branch was taken, the second was not.
address : numbers_of (packet.Address (true ∷ false ∷ []) 8 Notify)
    ≡ record (of_kind 5) { report = 2; outcomes = 2; map = 2; address = 8 }
address = refl

second_text : text_between (1 ∷ 2 ∷ 3 ∷ []) 1 3 ≡ Some (2 ∷ 3 ∷ [])
second_text = refl

back : text_between (1 ∷ 2 ∷ 3 ∷ []) 2 1 ≡ None
back = refl

past : text_between (1 ∷ 2 ∷ 3 ∷ []) 1 4 ≡ None
past = refl

retirement : numbers_of_event (Retire 2147483648 4 3)
    ≡ record { kind = 0; itype = 4; privilege = 3; cause = 0; interrupt = 0; address = 2147483648; tval = 0 }
retirement = refl

trap : numbers_of_event (Trap 0 false 13 2147483650 4096)
    ≡ record { kind = 1; itype = 0; privilege = 0; cause = 13; interrupt = 0; address = 2147483650; tval = 4096 }
trap = refl

timer : numbers_of_event (Trap 3 true 7 2147483650 0)
    ≡ record { kind = 1; itype = 0; privilege = 3; cause = 7; interrupt = 1; address = 2147483650; tval = 0 }
timer = refl

-- The first retirement of a log at the period 16, a branch that was not taken.
held : numbers_of_state (record {
  between = 15;
  left = 15;
  held = Some (Retire 2147483648 4 3);
  due = Sync;
  pending = false ∷ [];
  mode = Full;
  reported = 0;
}) ≡ record {
  between = 15;
  left = 15;
  mode = 1;
  holds = 1;
  due = 1;
  outcomes = 1;
  map = 1;
  reported = 0;
  held = numbers_if_any (Some (Retire 2147483648 4 3));
}
held = refl

asked : new_status 1024 1 ≡ 0
asked = refl

no_period : new_status 0 1 ≡ 4
no_period = refl

no_mode : new_status 1 2 ≡ 4
no_mode = refl
