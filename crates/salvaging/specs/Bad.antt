-- Which used messages are bad, and which are good.
use Rattle.std.specs.Prelude.{ℕ, ◌≡◌, ◌≢◌, ◌↔◌, true, List, [], ◌∷◌, Option, Some, None, Ok, Err}
use Rattle.retire.specs.declared.event.Event.{Event}
use Rattle.rvclass.specs.Words.{Words}
use Rattle.payload.specs.Closing.{is_closing, is_closing_packet}
use Rattle.payload.specs.Reading.{reading}
use Rattle.payload.specs.declared.mode.Mode.{Mode}
use Rattle.payload.specs.declared.packet.Packet.{Packet}
use Rattle.decoder.specs.Describes.{Describes}
use Rattle.decoder.specs.Order.{IsOpen}
use Rattle.decoder.specs.declared.fault.DecodeFault.{DecodeFault}
use Rattle.decoder.specs.declared.fault.DecodeFault.TheVariants.{NotOpened, AfterClose, Memory}
use Rattle.losses.specs.Runs.{Run, longer, trace_of_run}
use Rattle.salvaging.specs.declared.reason.Reason.{Reason}
use Rattle.salvaging.specs.declared.reason.Reason.TheVariants as reason

-- A used message with this payload is good after the run under way: it unpacks to this packet, and with it the trace of
-- the run still describes a log. It closes the trace only where no greater number of its hart is used.
pub record IsGood (words : Words) (mode : Mode) (run : Run) (payload : List ℕ) (following : Option ℕ)
    (packet : Packet) : Type 0 where
  pub read : reading payload ≡ Ok packet
  pub not_early : is_closing_packet packet ≡ true → following ≡ None
  pub described : (log : List Event) × Describes words (trace_of_run mode (longer run (packet ∷ []))) log

-- The packet of a used message is not decoded after the run under way, for this reason: with it the trace of the run
-- describes no log. The reason is NotOpened if and only if the message is its hart's number 0 and its packet opens no
-- trace. It is never AfterClose, and never that an allocation failed. Which of the others it is, the decoder decides by
-- the first fault on the way.
pub record IsUndecoded (words : Words) (mode : Mode) (run : Run) (payload : List ℕ) (following : Option ℕ)
    (why : DecodeFault) : Type 0 where
  pub packet : Packet
  pub read : reading payload ≡ Ok packet
  pub not_early : is_closing_packet packet ≡ true → following ≡ None
  pub not_opened : (why ≡ NotOpened) ↔ (((run.missing ≡ 0) × (run.packets ≡ [])) × ¬ IsOpen packet)
  pub not_after_close : why ≢ AfterClose
  pub not_memory : why ≢ Memory
  pub not_described : (log : List Event) → ¬ Describes words (trace_of_run mode (longer run (packet ∷ []))) log

-- A used message with this payload is bad after the run under way, for this reason, where `following` is the next
-- greater number of its hart that is used, if one is. It does not unpack; or its packet closes a trace and another
-- number is used after it; or its packet is not decoded.
abbrev pub IsBad : Words → Mode → Run → List ℕ → Option ℕ → Reason → Type 0
IsBad words mode run payload following (reason.Packet why) = reading payload ≡ Err why
IsBad words mode run payload following (reason.Decode why) = IsUndecoded words mode run payload following why
IsBad words mode run payload following (reason.Closing next) =
    (is_closing payload ≡ true) × (following ≡ Some next)
