-- Faults as statuses.
use Rattle.std.specs.Prelude.{ℕ, Option, Some, None}
use Rattle.captures.specs.declared.line_fault.LineFault.{LineFault}
use Rattle.captures.specs.declared.line_fault.LineFault.TheVariants as line
use Rattle.captures.specs.declared.outcome.CaptureFault.{CaptureFault}
use Rattle.captures.specs.declared.outcome.CaptureFault.TheVariants as capture
use Rattle.decoder.specs.declared.fault.DecodeFault.{DecodeFault}
use Rattle.decoder.specs.declared.fault.DecodeFault.TheVariants as decode
use Rattle.legalpath.specs.declared.fault.Why.{Why}
use Rattle.legalpath.specs.declared.fault.Why.TheVariants as path
use Rattle.rvclass.specs.declared.piece_fault.PieceFault.{PieceFault}
use Rattle.rvclass.specs.declared.piece_fault.PieceFault.TheVariants as piece
use Rattle.message.specs.declared.fault.DemuxFault.{DemuxFault}
use Rattle.message.specs.declared.fault.DemuxFault.TheVariants as demux
use Rattle.message.specs.declared.fault.MessageFault.{MessageFault}
use Rattle.message.specs.declared.fault.MessageFault.TheVariants as message
use Rattle.message.specs.declared.header.Version.{Version}
use Rattle.message.specs.declared.header.Version.TheVariants as version
use Rattle.payload.specs.declared.fault.PackFault.{PackFault}
use Rattle.payload.specs.declared.fault.PackFault.TheVariants as pack
use Rattle.retire.specs.declared.fault.LogFault.{LogFault}
use Rattle.retire.specs.declared.fault.LogFault.TheVariants as log
use Rattle.rvclass.specs.declared.fault.ProgramFault.{ProgramFault}
use Rattle.rvclass.specs.declared.fault.ProgramFault.TheVariants as image
use Rattle.symbols.specs.declared.fault.SymbolsFault.{SymbolsFault}
use Rattle.symbols.specs.declared.fault.SymbolsFault.TheVariants as symbols
use Rattle.ffi.specs.declared.fault.Fault.{Fault}
use Rattle.ffi.specs.declared.fault.Fault.TheVariants as fault
use Rattle.ffi.specs.declared.fault.ImageFault.{ImageFault}
use Rattle.ffi.specs.declared.fault.ImageFault.TheVariants as made
use Rattle.ffi.specs.declared.status.TheConstants.{DONE, MEMORY, OUT_OF_RANGE, BAD_ENDS}
use Rattle.ffi.specs.declared.status.TheConstants.{SHORT, BAD_LENGTH, UNREAD, UNWRITTEN, BAD_HEADER}
use Rattle.ffi.specs.declared.status.TheConstants.{EMPTY, TOO_LONG, BAD_PAD, UNSUPPORTED, BAD_PRIVILEGE}
use Rattle.ffi.specs.declared.status.TheConstants.{BAD_REPORT}
use Rattle.ffi.specs.declared.status.TheConstants.{ODD_BASE, TOO_LARGE, PAST_END}
use Rattle.ffi.specs.declared.status.TheConstants.{OVERLAP, TOO_MUCH, TOO_MANY_PIECES, NOT_SORTED}
use Rattle.ffi.specs.declared.status.TheConstants.{WRONG_HEADER, WRONG_FIELDS, NO_NUMBER, ODD_ADDRESS}
use Rattle.ffi.specs.declared.status.TheConstants.{WRONG_ROW_TYPE, WRONG_ROW_PRIVILEGE, LARGE_CAUSE}
use Rattle.ffi.specs.declared.status.TheConstants.{WRONG_TRAP_FIELDS, VALUED_INTERRUPT, TOO_MANY_ROWS}
use Rattle.ffi.specs.declared.status.TheConstants.{OFF_PROGRAM, NOT_RETIRABLE, WRONG_TYPE, WRONG_NEXT}
use Rattle.ffi.specs.declared.status.TheConstants.{WRONG_PRIVILEGE, WRONG_EPC}
use Rattle.ffi.specs.declared.status.TheConstants.{STRANGER, REPEAT, GAP, AFTER_CLOSE, OTHER_MODE}
use Rattle.ffi.specs.declared.status.TheConstants.{NOT_OPENED, WALKS_OFF_PROGRAM, MISSED_NOTIFY}
use Rattle.ffi.specs.declared.status.TheConstants.{WRONG_BRANCHES, WRONG_PLACE, WALKS_AT_WRONG_PRIVILEGE}
use Rattle.ffi.specs.declared.status.TheConstants.{AFTER_CLOSING_PACKET}
use Rattle.ffi.specs.declared.status.TheConstants.{LINE_FIELDS, LINE_HART_ONE, LINE_HART_TWO, LINE_NUMBER}
use Rattle.ffi.specs.declared.status.TheConstants.{LINE_BYTES, LINE_ABOVE}
use Rattle.ffi.specs.declared.status.TheConstants.{NO_SYMBOL, SYMBOLS_TOO_LARGE, UNEQUAL_COUNTS}
use Rattle.ffi.specs.declared.status.TheConstants.{BAD_STATE, NO_EVENT}

-- Why a message or a header is not read or not written.
abbrev pub message_status : MessageFault → ℕ
message_status message.Short = SHORT
message_status message.BadLength = BAD_LENGTH
message_status message.Read = UNREAD
message_status message.Write = UNWRITTEN
message_status message.BadHeader = BAD_HEADER

-- Why a capture that begins as one of version 2 does has no valid header, as a status; 0 where it has.
abbrev pub header_fault : Option MessageFault → ℕ
header_fault None = DONE
header_fault (Some why) = message_status why

-- Why bytes are no payload of a packet.
abbrev pub pack_status : PackFault → ℕ
pack_status pack.Empty = EMPTY
pack_status pack.TooLong = TOO_LONG
pack_status pack.BadPad = BAD_PAD
pack_status pack.Unsupported = UNSUPPORTED
pack_status pack.BadPrivilege = BAD_PRIVILEGE
pack_status pack.BadReport = BAD_REPORT

-- Why a message is not accepted.
abbrev pub demux_status : DemuxFault → ℕ
demux_status demux.Stranger = STRANGER
demux_status demux.Repeat = REPEAT
demux_status (demux.Gap expected) = GAP
demux_status demux.AfterClose = AFTER_CLOSE
demux_status (demux.Packet why) = pack_status why

-- Why a packet is not decoded.
abbrev pub decode_status : DecodeFault → ℕ
decode_status decode.NotOpened = NOT_OPENED
decode_status decode.OffProgram = WALKS_OFF_PROGRAM
decode_status decode.MissedNotify = MISSED_NOTIFY
decode_status decode.Branches = WRONG_BRANCHES
decode_status decode.WrongPlace = WRONG_PLACE
decode_status decode.WrongPrivilege = WALKS_AT_WRONG_PRIVILEGE
decode_status decode.AfterClose = AFTER_CLOSING_PACKET
decode_status decode.Memory = MEMORY

-- Why decoding a capture stops.
abbrev pub capture_status : CaptureFault → ℕ
capture_status (capture.Message why) = message_status why
capture_status (capture.Demux why) = demux_status why
capture_status (capture.Decode why) = decode_status why
capture_status capture.Mode = OTHER_MODE

-- Why bytes make no program.
abbrev pub program_status : ProgramFault → ℕ
program_status image.OddBase = ODD_BASE
program_status image.TooLarge = TOO_LARGE
program_status image.PastEnd = PAST_END

-- Why a piece is not added to a program.
abbrev pub piece_status : PieceFault → ℕ
piece_status piece.OddBase = ODD_BASE
piece_status piece.TooLarge = TOO_LARGE
piece_status piece.PastEnd = PAST_END
piece_status piece.Overlap = OVERLAP
piece_status piece.TooMuch = TOO_MUCH
piece_status piece.TooMany = TOO_MANY_PIECES
piece_status piece.Memory = MEMORY

-- Why an image makes no program.
abbrev pub image_status : ImageFault → ℕ
image_status (made.First why) = program_status why
image_status (made.Piece why) = piece_status why
image_status made.NotSorted = NOT_SORTED
image_status made.Memory = MEMORY

-- Why a text is no log.
abbrev pub log_status : LogFault → ℕ
log_status log.Header = WRONG_HEADER
log_status (log.Fields row) = WRONG_FIELDS
log_status (log.Number row) = NO_NUMBER
log_status (log.Odd row) = ODD_ADDRESS
log_status (log.RowType row) = WRONG_ROW_TYPE
log_status (log.Privilege row) = WRONG_ROW_PRIVILEGE
log_status (log.Cause row) = LARGE_CAUSE
log_status (log.TrapFields row) = WRONG_TRAP_FIELDS
log_status (log.InterruptValue row) = VALUED_INTERRUPT
log_status log.TooLong = TOO_MANY_ROWS
log_status (log.LongerThan most) = TOO_MANY_ROWS
log_status log.Read = UNREAD
log_status log.Memory = MEMORY

-- The row of a text that a fault names, counted from 1; 0 where it names none.
abbrev pub log_row : LogFault → ℕ
log_row (log.Fields row) = row
log_row (log.Number row) = row
log_row (log.Odd row) = row
log_row (log.RowType row) = row
log_row (log.Privilege row) = row
log_row (log.Cause row) = row
log_row (log.TrapFields row) = row
log_row (log.InterruptValue row) = row
log_row other = 0

-- Why a row is illegal.
abbrev pub why_status : Why → ℕ
why_status path.OffProgram = OFF_PROGRAM
why_status path.NotRetirable = NOT_RETIRABLE
why_status path.WrongType = WRONG_TYPE
why_status path.WrongNext = WRONG_NEXT
why_status path.WrongPrivilege = WRONG_PRIVILEGE
why_status path.WrongEpc = WRONG_EPC

-- A line's hart is not below the most harts of a version.
abbrev pub line_hart_status : Version → ℕ
line_hart_status version.One = LINE_HART_ONE
line_hart_status version.Two = LINE_HART_TWO

-- What is wrong with a line of a text that becomes a capture.
abbrev pub line_status : LineFault → ℕ
line_status line.Fields = LINE_FIELDS
line_status (line.Hart its) = line_hart_status its
line_status (line.Number limit) = LINE_NUMBER
line_status line.Bytes = LINE_BYTES
line_status line.Above = LINE_ABOVE

-- Why symbols are not read.
abbrev pub symbols_status : SymbolsFault → ℕ
symbols_status symbols.TooLarge = SYMBOLS_TOO_LARGE
symbols_status symbols.NoSymbol = NO_SYMBOL
symbols_status symbols.Memory = MEMORY

-- Why a call gives no answer.
abbrev pub fault_status : Fault → ℕ
fault_status fault.Memory = MEMORY
fault_status (fault.NoProgram why) = image_status why
fault_status (fault.Log why) = log_status why
fault_status (fault.Illegal why) = why_status why.why
fault_status fault.Range = OUT_OF_RANGE
fault_status fault.Ends = BAD_ENDS
fault_status fault.Count = UNEQUAL_COUNTS
fault_status (fault.Symbols why) = symbols_status why
fault_status (fault.Line number why) = line_status why
fault_status (fault.NoEvent row) = NO_EVENT
fault_status fault.State = BAD_STATE
fault_status (fault.Payload why) = pack_status why
fault_status (fault.Decode why) = decode_status why

-- The row or line that a fault names, counted from 1; 0 where it names none.
abbrev pub fault_row : Fault → ℕ
fault_row (fault.Log why) = log_row why
fault_row (fault.Illegal why) = why.row
fault_row (fault.Line number why) = number
fault_row (fault.NoEvent row) = row
fault_row other = 0
