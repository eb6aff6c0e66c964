-- Harts of a comparison with the messages that their rows come from.
use Rattle.std.specs.Prelude.{ℕ, ◌≡◌, ◌+◌, ◌++◌, All, false, List, [], ◌∷◌, Option, Some, length, slice_get}
use Rattle.std.specs.List.{AllZip}
use Rattle.bench.specs.Got.{Got}
use Rattle.captures.specs.Whole.{BeginsWith}
use Rattle.captures.specs.declared.outcome.CaptureFault.{CaptureFault}
use Rattle.message.specs.Capture.{capture}
use Rattle.message.specs.Cut.{IsMessage}
use Rattle.message.specs.declared.header.Header.{Header}
use Rattle.message.specs.declared.message.Message.{Message}
use Rattle.message.specs.declared.range.HartRange.{HartRange}
use Rattle.rvclass.specs.Words.{Words}
use Rattle.comparing.specs.Compared.{AreGotOf}
use Rattle.comparing.specs.Counts.{before_stop}
use Rattle.comparing.specs.Explained.{is_whole_hart}
use Rattle.comparing.specs.Sources.{EndsRefused, IsSource, first_offset, own_placed}
use Rattle.comparing.specs.declared.explained.ExplainedHart.{ExplainedHart}
use Rattle.comparing.specs.declared.sourcing.SourcedHart.{SourcedHart}

-- The harts have numbers in order. The first has this one.
abbrev pub AreNumbered : ℕ → List ExplainedHart → Type 0
AreNumbered first [] = Unit {0}
AreNumbered first (hart ∷ harts) = (hart.line.hart ≡ first) × AreNumbered (first + 1) harts

-- What is said of a hart, and where its row comes from by the bytes of a capture, where its log did not come back whole.
pub record IsSourced (words : Words) (bytes : List ℕ) (stop : Option (ℕ × CaptureFault)) (hart : ExplainedHart)
    (one : SourcedHart) : Type 0 where
  pub hart_is : one.hart ≡ hart
  pub from : is_whole_hart hart ≡ false → IsSource words bytes stop hart.line.hart hart.row one.source

-- The same of harts, in order.
abbrev pub AreSourced : Words → List ℕ → Option (ℕ × CaptureFault) → List ExplainedHart → List SourcedHart → Type 0
AreSourced words bytes stop harts sourced = AllZip (IsSourced words bytes stop) harts sourced

-- Decoding one of these harts, whose log did not come back whole, does not go on with the last of the first messages of a
-- capture, all of which come before that at which decoding stops. Its row is not decoded before that message.
pub record StopsEarly (words : Words) (bytes : List ℕ) (stop : Option (ℕ × CaptureFault)) (harts : List ExplainedHart)
    : Type 0 where
  pub header : Option Header
  pub messages : List Message
  pub rest : List ℕ
  pub ranges : All IsMessage messages
  pub begins : BeginsWith header bytes (capture messages ++ rest)
  pub early : before_stop stop messages ≡ messages
  pub place : ℕ
  pub hart : ExplainedHart
  pub here : slice_get harts place ≡ Some hart
  pub not_whole : is_whole_hart hart ≡ false
  pub refused : EndsRefused words (own_placed hart.line.hart (first_offset header) messages) hart.row

-- The bytes of a capture decode to something of each of these harts that it has, and decoding them stops there. Then
-- decoding none of them stops before that.
abbrev pub NoneStopsEarly : Type 0
NoneStopsEarly =
    (range : HartRange) (words : Words) (count : ℕ) (bytes : List ℕ) (gots : List Got)
    (stop : Option (ℕ × CaptureFault)) (harts : List ExplainedHart) → AreGotOf range words count bytes gots stop
    → AreNumbered range.first harts → length harts ≡ length gots → ¬ StopsEarly words bytes stop harts
