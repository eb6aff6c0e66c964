-- What is left of RECEIVED, and what is read of it.
use Rattle.std.specs.Prelude.{ℕ, ◌≡◌, ◌+◌, ◌-◌, ◌*◌, ◌<◌, ◌≤◌, ◌++◌, Bool, true, false, List, [], Option, Some, None, Result, Ok, Err}
use Rattle.std.specs.Prelude.{drop, length, take}
use Rattle.frames.specs.Frame.{message_in}
use Rattle.frames.specs.Start.{IsStart, first_place}
use Rattle.frames.specs.declared.span.Span.{Span}
use Rattle.frames.specs.declared.start.CaptureStart.{CaptureStart}
use Rattle.frames.specs.declared.span.Span.TheVariants as span
use Rattle.log_streams.specs.declared.fault.FileFault.TheVariants as lacks
use Rattle.message.specs.declared.message.Message.{Message}
use Rattle.live.specs.Following.{Audited, IsLeftAt, IsLookFault, Left, Reads}
use Rattle.live.specs.Holding.{Holding}
use Rattle.live.specs.Holds.{is_wanted}
use Rattle.live.specs.Received.{Rule, first_span, seen_of}
use Rattle.live.specs.declared.fault.LookFault.{LookFault}
use Rattle.live.specs.declared.fault.ReceivedFault.{ReceivedFault}
use Rattle.live.specs.declared.fault.ReceivedFault.TheVariants as received

-- What is held of RECEIVED: how many harts are known, how many bytes come before those that are held, these bytes, whether
-- RECEIVED ends with them, how many there may be, and for how many more there is a place after them.
pub record ReceivedHeld : Type 0 where
  pub harts : ℕ
  pub offset : ℕ
  pub bytes : List ℕ
  pub ended : Bool
  pub most : ℕ
  pub room : ℕ

-- These bytes may follow those that are held: none, if RECEIVED ends with those.
abbrev pub MayFollow : Bool → List ℕ → Type 0
MayFollow true more = more ≡ []
MayFollow false more = Unit {0}

-- These bytes are left of RECEIVED: those that are held, and those that its file has left, where they are known.
abbrev pub IsLeft : ReceivedHeld → Option (List ℕ) → List ℕ → Type 0
IsLeft own None rest = ⊥
IsLeft own (Some more) rest = MayFollow own.ended more × (rest ≡ own.bytes ++ more)

-- How RECEIVED begins, and what is left after its header. Or its file is not read.
abbrev pub IsBegun : List ℕ → Result CaptureStart ReceivedFault → ReceivedHeld → Option (List ℕ) → Type 0
IsBegun rest (Ok start) new file = IsStart rest start.header start.fault × IsLeft new file (drop (first_place start.header) rest)
IsBegun rest (Err (received.File why)) new file = why ≡ lacks.Memory
IsBegun rest (Err (received.Sent why)) new file = ⊥

-- What is held where so many harts are known: no more bytes than there may be.
pub record Receives (harts : ℕ) (own : ReceivedHeld) : Type 0 where
  pub known : own.harts ≡ harts
  pub most : own.most ≡ 29 * (harts + 3) + 65536
  pub held : length own.bytes ≤ own.most

-- To look a message up, if there is one, the message of SENT after so many is wanted.
abbrev pub IsWantedBy : Audited → ℕ → ℕ → Option Message → Type 0
IsWantedBy all front read None = ⊥
IsWantedBy all front read (Some message) =
    is_wanted all.harts all.window (take read all.sent) front message.hart message.number ≡ true

-- SENT was read from one place to another to look up messages that begin one of the first so many of these bytes: no message
-- was read in vain.
abbrev pub AllSought : Audited → ℕ → ℕ → ℕ → List ℕ → ℕ → Type 0
AllSought all front first read bytes most = (k : ℕ) → first ≤ k → k < read
    → (at : ℕ) × (at < most) × IsWantedBy all front k (message_in (drop at bytes))

-- So many bytes from a place on are looked at to find whether a message is taken there: more messages of the most bytes
-- than harts are known.
abbrev pub most_sought : ℕ → ℕ
most_sought harts = 29 * (harts + 2)

-- SENT was read on after so many messages to look up messages that begin one of the first so many of these bytes, where these
-- messages came and so many are up to the front.
pub record Follows (all : Audited) (came : List Message) (front first : ℕ) (bytes : List ℕ) (most : ℕ) (own : Holding)
    (left : Left) : Type 0 where
  pub read : ℕ
  pub reads : Reads all read came front own left
  pub more : first ≤ read
  pub sought : AllSought all front first read bytes most

-- It could not be read on.
pub record FailsFor (all : Audited) (front first : ℕ) (bytes : List ℕ) (most : ℕ) (why : LookFault) (left : Left)
    : Type 0 where
  pub read : ℕ
  pub more : first ≤ read
  pub within : read ≤ length all.sent
  pub sought : AllSought all front first (read + 1) bytes most
  pub fault : IsLookFault all read why
  pub remains : IsLeftAt all read why left

-- What RECEIVED is read by, where so many messages of SENT are up to the front.
abbrev pub rule_of : ℕ → Audited → ℕ → Rule
rule_of harts all front = record {
  sees = seen_of all.by all.harts all.window all.sent front;
  window = all.window;
  harts = harts;
}

-- How many bytes a message or a run has.
abbrev pub size_of : Option Span → ℕ
size_of None = 0
size_of (Some (span.Frame offset message)) = 11 + length message.payload
size_of (Some (span.Bytes offset count)) = count

-- What comes first of the bytes that are left was read, and the others are left. Or RECEIVED is not read on. Or SENT is not:
-- of a run some bytes may have been passed over.
abbrev pub IsNextSpan : Audited → ℕ → ReceivedHeld → List ℕ → Result (Option Span) ReceivedFault → ReceivedHeld
    → Option (List ℕ) → Type 0
IsNextSpan all front own rest (Ok found) new file =
    (found ≡ first_span (rule_of own.harts all front) own.offset rest)
    × IsLeft new file (drop (size_of found) rest) × (new.offset ≡ own.offset + size_of found) × (new.harts ≡ own.harts)
IsNextSpan all front own rest (Err (received.File why)) new file = why ≡ lacks.Memory
IsNextSpan all front own rest (Err (received.Sent why)) new file =
    (passed : ℕ) × (passed ≤ size_of (first_span (rule_of own.harts all front) own.offset rest))
    × IsLeft new file (drop passed rest) × (new.offset ≡ own.offset + passed) × (new.harts ≡ own.harts)

-- How many bytes messages that are looked up begin among, where it is read on from one place to another.
abbrev pub sought_to : ReceivedHeld → ReceivedHeld → ℕ
sought_to own new = new.offset - own.offset + most_sought own.harts

-- While SENT is read on to look up messages that begin one of the first so many bytes.
abbrev pub FollowsOn : {X : Type 0} → Audited → List Message → ℕ → ℕ → List ℕ → ℕ → Result X ReceivedFault → Holding → Left
    → Type 0
FollowsOn all came front first bytes most (Ok found) own left = Follows all came front first bytes most own left
FollowsOn all came front first bytes most (Err (received.File why)) own left = Unit {0}
FollowsOn all came front first bytes most (Err (received.Sent why)) own left =
    FailsFor all front first bytes most why left
