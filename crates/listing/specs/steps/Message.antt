-- What one message of a capture is listed as.
use Rattle.std.specs.Prelude.{ℕ, ◌≡◌, ◌++◌, if◌then◌else◌, Bool, true, false, List, [], ◌∷◌, Option, Some, None}
use Rattle.std.specs.Prelude.{Result}
use Rattle.message.specs.Range.{selects}
use Rattle.retire.specs.declared.event.Event.{Event}
use Rattle.rvclass.specs.Fetch.{words_of}
use Rattle.rvclass.specs.Words.{Words}
use Rattle.payload.specs.declared.fault.PackFault.{PackFault}
use Rattle.payload.specs.declared.mode.Mode.{Mode}
use Rattle.payload.specs.declared.packet.Packet.{Packet}
use Rattle.decoder.specs.declared.fault.DecodeFault.TheVariants.{Memory}
use Rattle.message.specs.declared.message.Message.{Message}
use Rattle.receiver.specs.Agreeing.{Agrees}
use Rattle.receiver.specs.Holds.{HasReceived, Holds}
use Rattle.receiver.specs.NotReceived.{IsNotReceived}
use Rattle.receiver.specs.Received.{Received}
use Rattle.receiver.specs.declared.fault.ReceiveFault.{ReceiveFault}
use Rattle.receiver.specs.declared.fault.ReceiveFault.TheVariants as fault
use Rattle.listing.specs.Effect.{Effect, HasEffect}
use Rattle.listing.specs.Entries.{effect_entry, refused_entry}
use Rattle.listing.specs.Listing.{names_in, naming_mode}
use Rattle.listing.specs.PacketEnding.{read_closes, read_waits}
use Rattle.listing.specs.declared.entries.At.{At}
use Rattle.listing.specs.declared.form.Form.{Form}
use Rattle.listing.specs.declared.input.ListInput.{ListInput}

-- The effect of a message that adds these events, with which its hart has so many, and whose payload unpacks to this.
abbrev pub effect_of : List Event → ℕ → Result Packet PackFault → Effect
effect_of added rows read = record {
  added = added;
  rows = rows;
  waits = read_waits read;
  closes = read_closes read;
}

-- A message is not received because an allocation failed.
abbrev pub denies_memory : ReceiveFault → Bool
denies_memory (fault.Decode Memory) = true
denies_memory other = false

-- The entry of a message that is not received, for this reason: none where an allocation fails.
abbrev pub fault_entry : Form → Mode → At → Message → ReceiveFault → List ℕ
fault_entry form mode at message why =
    if denies_memory why then [] else refused_entry form mode at.number at.offset message

-- A receiver received some messages, each of so many harts by this program.
pub record ReceivedSome (words : Words) (received : Received) : Type 0 where
  pub harts : ℕ
  pub messages : List Message
  pub has : HasReceived (λ hart. words) harts messages received

-- A message was received after others, with this effect, and its entry is this.
pub record IsTaken {S : Type 0} (input : ListInput S) (harts : ℕ) (announced : Option Mode) (at : At)
    (messages : List Message) (message : Message) (received : Received) (entry : List ℕ) : Type 0 where
  pub effect : Effect
  pub receives : HasReceived (λ hart. words_of input.program.now) harts (messages ++ message ∷ []) received
  pub has : HasEffect (words_of input.program.now) messages message effect
  pub agrees : Agrees announced message
  pub text : entry
      ≡ effect_entry input.form (names_in input) (naming_mode announced) at.number at.offset message effect

-- A message was not received after others, for this reason, and its entry is this.
pub record IsRefused {S : Type 0} (input : ListInput S) (harts : ℕ) (announced : Option Mode) (at : At)
    (messages : List Message) (message : Message) (received : Received) (why : ReceiveFault) (entry : List ℕ) : Type 0 where
  pub holds : Holds (λ hart. words_of input.program.now) harts messages received
  pub refused : IsNotReceived (words_of input.program.now) harts announced messages message why
  pub text : entry ≡ fault_entry input.form (naming_mode announced) at message why

-- A message was received after others, or was not for this reason, and its entry is this.
abbrev pub IsJudged : {S : Type 0} → ListInput S → ℕ → Option Mode → At → List Message → Message → Received
    → Option ReceiveFault → List ℕ → Type 0
IsJudged input harts announced at messages message received None entry =
    IsTaken input harts announced at messages message received entry
IsJudged input harts announced at messages message received (Some why) entry =
    IsRefused input harts announced at messages message received why entry

-- A message of the harts that are listed was judged after others and has its entry. Any other is passed over: nothing is
-- received, and there is no entry.
pub data IsJudgedOf {S : Type 0} (input : ListInput S) (harts : ℕ) (announced : Option Mode) (at : At)
    (messages : List Message) (message : Message) (received : Received) (why : Option ReceiveFault) (entry : List ℕ) : Type 0 where
  Judged : selects input.only message.hart ≡ true
      → IsJudged input harts announced at messages message received why entry
      → IsJudgedOf input harts announced at messages message received why entry
  Passed : selects input.only message.hart ≡ false
      → HasReceived (λ hart. words_of input.program.now) harts messages received → why ≡ None → entry ≡ []
      → IsJudgedOf input harts announced at messages message received why entry
