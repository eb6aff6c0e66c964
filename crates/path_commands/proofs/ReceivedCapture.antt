-- How RECEIVED reads, from how it begins.
use Rattle.std.proofs.Common.{◌≡◌, ℕ, List, Option, drop, refl, ◌∙◌}
use Rattle.payload.specs.declared.by.By.{By}
use Rattle.message.specs.declared.range.HartRange.{HartRange}
use Rattle.message.specs.declared.fault.MessageFault.{MessageFault}
use Rattle.message.specs.declared.header.Header.{Header}
use Rattle.message.specs.declared.message.Message.{Message}
use Rattle.frames.specs.Counted.{messages_in}
use Rattle.frames.specs.Passages.{Left, spans_from, spans_left}
use Rattle.frames.specs.Start.{IsStart, first_place}
use Rattle.auditing.specs.Known.{known_all}
use Rattle.auditing.specs.Seen.{sight_of}
use Rattle.path_commands.specs.ReceivedCapture.{ReceivedCapture, IsReceivedCapture}
use Rattle.path_commands.specs.Rows.{front_rows}
use Rattle.path_commands.specs.declared.report.Report.{Report}
use Rattle.path_commands.specs.steps.Noting.{noted_of}

-- RECEIVED of these bytes, which begin with this header or with none.
abbrev pub came_of : By → List Message → List ℕ → Option Header → Option MessageFault → ReceivedCapture
came_of how sent bytes header fault = record {
  header = header;
  fault = fault;
  spans = spans_from (sight_of how sent) (first_place header) (drop (first_place header) bytes);
}

pub is_came_of : (how : By) (sent : List Message) (bytes : List ℕ) (header : Option Header)
    (fault : Option MessageFault) → IsStart bytes header fault → IsReceivedCapture how sent bytes
    (came_of how sent bytes header fault)
is_came_of how sent bytes header fault start = record { start = start; spans = refl }

module _ (own how : By) (sent : List Message) (bytes : List ℕ) (header : Option Header) (fault : Option MessageFault)
    (left : Left) (from : ℕ) (by_is : own ≡ how) (from_is : from ≡ first_place header)
    (left_is : spans_left (sight_of own sent) left ≡ spans_from (sight_of own sent) from (drop from bytes)) where
  -- The spans that are read are those.
  pub spans_are : spans_left (sight_of own sent) left ≡ (came_of how sent bytes header fault).spans
  spans_are = left_is ∙ (λ i. spans_from (sight_of (by_is i) sent) (from_is i) (drop (from_is i) bytes))

  -- The rows are those.
  pub rows_are : (report : Report) → front_rows own report sent (spans_left (sight_of own sent) left)
      ≡ front_rows how report sent (came_of how sent bytes header fault).spans
  rows_are report = λ i. front_rows (by_is i) report sent (spans_are i)

  -- What is noted is of those.
  pub notes_are : (harts : HartRange)
      → noted_of harts (known_all own sent) (known_all own (messages_in (spans_left (sight_of own sent) left)))
      ≡ noted_of harts (known_all how sent)
      (known_all how (messages_in (came_of how sent bytes header fault).spans))
  notes_are harts = λ i. noted_of harts (known_all (by_is i) sent) (known_all (by_is i) (messages_in (spans_are i)))
