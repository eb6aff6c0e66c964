-- The text of what is found in a capture that may be damaged.
use Rattle.std.specs.Prelude.{ℕ, ◌≡◌, ◌++◌, Bool, true, List, [], Option, Some, None, IfSome, filter}
use Rattle.std.specs.List.{flat_map, list_any}
use Rattle.payload.specs.declared.mode.Mode.{Mode}
use Rattle.payload.specs.declared.mode.Mode.TheVariants.{Differential}
use Rattle.frames.specs.declared.span.Span.{Span}
use Rattle.frames.specs.declared.span.Span.TheVariants.{Frame, Bytes}
use Rattle.message.specs.Header.{IsHeader}
use Rattle.message.specs.declared.fault.MessageFault.{MessageFault}
use Rattle.message.specs.declared.header.Header.{Header}
use Rattle.message.specs.Range.{every_hart, selects}
use Rattle.message.specs.declared.range.HartRange.{HartRange}
use Rattle.captures.specs.Dump.{dump_line, has_bad_payload, header_line}
use Rattle.captures.specs.Offsets.{bytes_line}
use Rattle.frames.specs.Start.{IsStart, spans_of}

-- The line of a frame is that of its message, whose address field is named by this mode, and its address by these
-- symbols; bytes have a line of theirs.
abbrev pub span_line : Option (List ℕ) → Mode → Span → List ℕ
span_line symbols mode (Frame place message) = dump_line symbols mode message
span_line symbols mode (Bytes place count) = bytes_line place count

-- The span is of bytes, or the payload of its message is bad.
abbrev pub is_damaged : Span → Bool
is_damaged (Frame place message) = has_bad_payload message
is_damaged (Bytes place count) = true

-- The lines of spans, in order.
abbrev pub spans_text : Option (List ℕ) → Mode → List Span → List ℕ
spans_text symbols mode spans = flat_map (span_line symbols mode) spans

-- The span is of bytes, or its message is of one of these harts.
abbrev pub is_chosen : HartRange → Span → Bool
is_chosen harts (Frame place message) = selects harts message.hart
is_chosen harts (Bytes place count) = true

-- The spans of bytes, and those of these harts, in their order.
abbrev pub chosen : HartRange → List Span → List Span
chosen harts spans = filter (is_chosen harts) spans

-- The line of the header, if there is one.
abbrev pub start_line : Option Header → List ℕ
start_line None = []
start_line (Some header) = header_line header

-- The mode that names address fields: the header's, or without a header the differential one.
abbrev pub mode_of : Option Header → Mode
mode_of None = Differential
mode_of (Some header) = header.mode

-- The line of the header, if there is one, and the lines of these harts' frames and of the bytes between frames.
abbrev pub search_text : Option (List ℕ) → HartRange → Option Header → List ℕ → List ℕ
search_text symbols harts header bytes =
    start_line header ++ spans_text symbols (mode_of header) (chosen harts (spans_of header bytes))

-- Where a search stops that goes on to the end: nowhere, or, with the fault of the header, before the first message.
abbrev pub stop_of : Option MessageFault → Option (ℕ × MessageFault)
stop_of None = None
stop_of (Some why) = Some (0, why)

-- The text is what a search of a capture finds of these harts, with names by these symbols, if they are given. The flag
-- says whether there are bytes of no frame or a bad payload of these harts, and the fault is that of a header that is
-- cut short or bad.
pub record IsSearchedOf (symbols : Option (List ℕ)) (harts : HartRange) (bytes : List ℕ) (bad : Bool)
    (fault : Option (ℕ × MessageFault)) (text : List ℕ) : Type 0 where
  pub header : Option Header
  pub why : Option MessageFault
  pub start : IsStart bytes header why
  pub stop : fault ≡ stop_of why
  pub flag : bad ≡ list_any is_damaged (chosen harts (spans_of header bytes))
  pub lines : text ≡ search_text symbols harts header bytes

-- The text is what a search of a capture finds, which is that of all harts without symbols.
abbrev pub IsSearched : List ℕ → Bool → Option (ℕ × MessageFault) → List ℕ → Type 0
IsSearched bytes = IsSearchedOf None every_hart bytes

-- All spans of a capture, behind a valid header or with none, are those of all harts.
abbrev pub AllHartsChooseEverySpan : Type 0
AllHartsChooseEverySpan =
    (header : Option Header) (bytes : List ℕ) → IfSome header IsHeader
    → chosen every_hart (spans_of header bytes) ≡ spans_of header bytes
