-- The messages of a capture that are followed, hart by hart.
use Rattle.std.specs.Prelude.{ℕ, ◌≡◌, ◌≢◌, ◌+◌, ◌++◌, ◌==◌, if◌then◌else◌, All, false, List, [], ◌∷◌, Option, Some, None}
use Rattle.std.specs.Prelude.{map, option_map, slice_get}
use Rattle.captures.specs.declared.outcome.CaptureFault.{CaptureFault}
use Rattle.captures.specs.steps.Reading.{AreReadUpTo}
use Rattle.listing.specs.Placed.{PlacedMessage, placed}
use Rattle.message.specs.Capture.{capture}
use Rattle.message.specs.Cut.{IsMessage}
use Rattle.message.specs.declared.fault.MessageFault.{MessageFault}
use Rattle.message.specs.declared.message.Message.{Message}
use Rattle.rvclass.specs.Fetch.{words_of}
use Rattle.rvclass.specs.Words.{Words}
use Rattle.comparing.specs.Counts.{before_stop}
use Rattle.comparing.specs.Explained.{is_whole_hart}
use Rattle.comparing.specs.Sources.{EndsRefused, own_placed, source_message}
use Rattle.comparing.specs.declared.explained.ExplainedHart.{ExplainedHart}
use Rattle.comparing.specs.declared.source.SourceMessage.{SourceMessage}
use Rattle.comparing.specs.declared.sourcing.Followed.{Followed}
use Rattle.comparing.specs.declared.sourcing.SourcedHart.{SourcedHart}
use Rattle.comparing.specs.declared.sourcing.StopMessage.{StopMessage}
use Rattle.comparing.specs.declared.trail.Trail.{Trail}
use Rattle.comparing.specs.steps.Following.{IsFollowed, source_by}

-- The harts of trails.
abbrev pub harts_of : List Trail → List ExplainedHart
harts_of trails = map (λ (trail : Trail). trail.hart) trails

-- These messages of a capture were followed by each trail whose hart's log did not come back whole.
abbrev pub AreFollowed : Words → ℕ → List Message → List Trail → Type 0
AreFollowed words offset messages trails =
    (place : ℕ) (trail : Trail) → slice_get trails place ≡ Some trail → is_whole_hart trail.hart ≡ false
    → IsFollowed words (own_placed trail.hart.line.hart offset messages) trail

-- The harts of trails have numbers in order. The first has this one.
abbrev pub AreNumberedFrom : ℕ → List Trail → Type 0
AreNumberedFrom first trails =
    (place : ℕ) (trail : Trail) → slice_get trails place ≡ Some trail → trail.hart.line.hart ≡ first + place

-- One more message was followed by the trail of its hart, if there is one. The others stay.
pub record IsFollowedOn (what : Followed) (at : SourceMessage) (message : Message) (old new : List Trail) : Type 0 where
  pub harts : harts_of new ≡ harts_of old
  pub others : (place : ℕ) (trail : Trail) → what.first + place ≢ message.hart → slice_get new place ≡ Some trail
      → slice_get old place ≡ Some trail
  pub own : (place : ℕ) (before after : Trail) (placed : List PlacedMessage) (one : PlacedMessage)
      → what.first + place ≡ message.hart → slice_get old place ≡ Some before → slice_get new place ≡ Some after
      → is_whole_hart before.hart ≡ false → one.message ≡ message → source_message one ≡ at
      → All (λ (other : PlacedMessage). other.message.hart ≡ one.message.hart) placed
      → IsFollowed (words_of what.program.now) placed before
      → IsFollowed (words_of what.program.now) (placed ++ one ∷ []) after

-- Decoding the message's hart, which has a trail, does not go on with the message.
pub record IsRefusedAt (what : Followed) (message : Message) (old : List Trail) : Type 0 where
  pub place : ℕ
  pub trail : Trail
  pub hart_is : what.first + place ≡ message.hart
  pub here : slice_get old place ≡ Some trail
  pub not_whole : is_whole_hart trail.hart ≡ false
  pub refused : (own : List PlacedMessage) (one : PlacedMessage) → one.message ≡ message
      → IsFollowed (words_of what.program.now) own trail
      → EndsRefused (words_of what.program.now) (own ++ one ∷ []) trail.hart.row

-- The message at which decoding stops, where this one of a hart comes next.
abbrev pub stopped_after : Option (ℕ × CaptureFault) → SourceMessage → ℕ → Option StopMessage → Option StopMessage
stopped_after None at hart before = before
stopped_after (Some stop) at hart before =
    if stop.0 == at.place then Some (record { hart = hart; at = at; why = stop.1 }) else before

-- A message at which decoding stops for this reason.
abbrev pub stop_message : CaptureFault → PlacedMessage → StopMessage
stop_message why one = record { hart = one.message.hart; at = source_message one; why = why }

-- The complete message at which decoding stops, among all that are complete.
abbrev pub stopped_in : Option (ℕ × CaptureFault) → List PlacedMessage → Option StopMessage
stopped_in None all = None
stopped_in (Some stop) all = option_map (stop_message stop.1) (slice_get all stop.0)

-- The messages with which some bytes begin were followed, up to the one at which decoding stops.
pub record AreFollowedUpTo (what : Followed) (bytes : List ℕ) (old new : List Trail) (stopped : Option StopMessage)
    : Type 0 where
  pub messages : List Message
  pub end : Option MessageFault
  pub read : AreReadUpTo bytes messages end
  pub harts : harts_of new ≡ harts_of old
  pub stopped_is : stopped ≡ stopped_in what.stop (placed 0 what.offset messages)
  pub followed : AreFollowed (words_of what.program.now) what.offset [] old → AreNumberedFrom what.first old
      → AreFollowed (words_of what.program.now) what.offset (before_stop what.stop messages) new

-- Decoding a hart that has a trail does not go on with the last of the messages with which some bytes begin. All of them
-- come before that at which decoding stops.
pub record IsRefusedUpTo (what : Followed) (bytes : List ℕ) (old : List Trail) : Type 0 where
  pub messages : List Message
  pub rest : List ℕ
  pub ranges : All IsMessage messages
  pub begins : bytes ≡ capture messages ++ rest
  pub early : before_stop what.stop messages ≡ messages
  pub place : ℕ
  pub hart : ExplainedHart
  pub here : slice_get (harts_of old) place ≡ Some hart
  pub not_whole : is_whole_hart hart ≡ false
  pub refused : AreFollowed (words_of what.program.now) what.offset [] old → AreNumberedFrom what.first old
      → EndsRefused (words_of what.program.now) (own_placed hart.line.hart what.offset messages) hart.row

-- The message at which decoding stops, and why, if it is of this hart.
abbrev pub own_stop_by : Option StopMessage → ℕ → Option (SourceMessage × CaptureFault)
own_stop_by None hart = None
own_stop_by (Some stop) hart = if stop.hart == hart then Some (stop.at, stop.why) else None

-- What is said of the hart of a trail, and where its row comes from.
abbrev pub sourced_by : Option StopMessage → Trail → SourcedHart
sourced_by stopped trail = record {
  hart = trail.hart;
  source = source_by trail (own_stop_by stopped trail.hart.line.hart);
}
