-- How far the messages of bytes were walked.
use Rattle.std.specs.Prelude.{ℕ, ◌≡◌, ◌≤◌, ◌<◌, ◌++◌, ⊤, true, All, List, [], Option, drop, length}
use Rattle.std.specs.declared.vec.Vec.{Vec}
use Rattle.message.specs.Range.{selected, selects}
use Rattle.message.specs.declared.range.HartRange.{HartRange}
use Rattle.rvclass.specs.Words.{Words}
use Rattle.payload.specs.declared.mode.Mode.{Mode}
use Rattle.message.specs.Capture.{capture}
use Rattle.message.specs.Cut.{IsMessage}
use Rattle.message.specs.declared.message.Message.{Message}
use Rattle.decoder.specs.declared.fault.DecodeFault.TheVariants.{Memory}
use Rattle.receiver.specs.NotReceived.{IsNotReceived}
use Rattle.receiver.specs.declared.fault.ReceiveFault.{ReceiveFault}
use Rattle.receiver.specs.declared.fault.ReceiveFault.TheVariants as receiving
use Rattle.captures.specs.Decoded.{as_capture_fault}
use Rattle.captures.specs.Decoded.{StopsDecodingOf}
use Rattle.captures.specs.Returned.{IsMemory}
use Rattle.parallel_decode.specs.steps.Starts.{AreStarts}
use Rattle.parallel_decode.specs.Marked.{IsMarkedSurvey}
use Rattle.parallel_decode.specs.declared.ahead.Ahead.{Ahead}
use Rattle.parallel_decode.specs.declared.ahead.Ahead.TheVariants.{End, Fault, Received}
use Rattle.parallel_decode.specs.declared.surveying.Attempt.{Attempt}
use Rattle.parallel_decode.specs.declared.surveying.Attempt.TheVariants.{Surveyed, RefusedAt}

-- The hart of the message is below this count.
abbrev pub IsOfHarts : ℕ → Message → Type 0
IsOfHarts harts message = message.hart < harts

-- The bytes begin with these messages. Those of these harts are of harts below the count, and the lists have their
-- places.
pub record AreWalked {A : Type 0} (range : HartRange) (harts : ℕ) (bytes : List ℕ) (messages : List Message)
    (places : List (Vec ℕ A)) (place passed : ℕ) : Type 0 where
  pub counted : passed ≡ length messages
  pub within : place ≤ length bytes
  pub ranges : All IsMessage messages
  pub whole : bytes ≡ capture messages ++ drop place bytes
  pub of_harts : All (IsOfHarts harts) (selected range messages)
  pub starts : AreStarts bytes places (selected range messages)
  pub count : length places ≡ harts

-- What comes after these messages, where the rest of the bytes is this.
abbrev pub IsAhead : HartRange → Words → ℕ → Option Mode → List Message → List ℕ → Ahead → Type 0
IsAhead range words harts announced messages rest End = rest ≡ []
IsAhead range words harts announced messages rest (Fault why) =
    StopsDecodingOf range words harts announced (selected range messages) rest why × ¬ IsMemory why
IsAhead range words harts announced messages rest Received = ⊤

-- If it is said that the message is refused after these messages, it is of these harts and is refused, for this reason.
abbrev pub IsRefusal : HartRange → Words → ℕ → Option Mode → List Message → Message → Ahead → Type 0
IsRefusal range words harts announced messages message End = ⊥
IsRefusal range words harts announced messages message (Fault why) =
    (refused : ReceiveFault) × (why ≡ as_capture_fault refused) × (selects range message.hart ≡ true)
    × IsNotReceived words harts announced messages message refused × ¬ (refused ≡ receiving.Decode Memory)
IsRefusal range words harts announced messages message Received = ⊤

-- A survey, if there is one, is that of the bytes.
abbrev pub IsAttempt : HartRange → Words → ℕ → Option Mode → List ℕ → Attempt → Type 0
IsAttempt range words harts announced bytes (Surveyed survey) =
    IsMarkedSurvey range words harts announced bytes survey
IsAttempt range words harts announced bytes (RefusedAt place) = ⊤
