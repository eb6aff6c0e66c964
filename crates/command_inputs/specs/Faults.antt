-- The fault of a subcommand for each fault of what it calls, and how the subcommand ends at it.
use Rattle.std.specs.Prelude.{ℕ, List, Result, Ok, Err}
use Rattle.std.specs.Borrow.{Bor}
use Rattle.log_streams.specs.declared.fault.FileFault.{FileFault}
use Rattle.log_streams.specs.declared.fault.FileFault.TheVariants as file
use Rattle.log_streams.specs.declared.stop.Stop.{Stop}
use Rattle.log_streams.specs.declared.stop.Stop.TheVariants as stop
use Rattle.rvclass.specs.declared.piece_fault.PieceFault.{PieceFault}
use Rattle.rvclass.specs.declared.piece_fault.PieceFault.TheVariants as piece
use Rattle.retire.specs.declared.fault.LogFault.{LogFault}
use Rattle.retire.specs.declared.fault.LogFault.TheVariants as log
use Rattle.retire.specs.declared.fault.WriteFault.{WriteFault}
use Rattle.retire.specs.declared.fault.WriteFault.TheVariants as write
use Rattle.symbols.specs.declared.fault.SymbolsFault.{SymbolsFault}
use Rattle.symbols.specs.declared.fault.SymbolsFault.TheVariants as symbols
use Rattle.command_inputs.specs.declared.fault.Fault.{Fault}
use Rattle.command_inputs.specs.declared.fault.Fault.TheVariants as fault
use Rattle.command_inputs.specs.declared.status.Status.{Status}
use Rattle.command_inputs.specs.declared.status.Status.TheVariants.{Refused, Machine}

-- A path, as text.
abbrev pub Path : Type 0
Path = Bor (List ℕ)

-- The fault of a file that has no content.
abbrev pub file_fault : {W : Type 0} → Path → FileFault → Fault W
file_fault path file.CannotRead = fault.Unreadable path
file_fault path file.Memory = fault.Memory

-- The fault of a piece that was not added to the image.
abbrev pub piece_fault : {W : Type 0} → Path → PieceFault → Fault W
piece_fault path piece.Memory = fault.Memory
piece_fault path why = fault.Piece path why

-- The fault of a log that was not read.
abbrev pub log_fault : {W : Type 0} → Path → LogFault → Fault W
log_fault path log.Read = fault.Unreadable path
log_fault path log.Memory = fault.Memory
log_fault path why = fault.Log path why

-- The fault of a log of which nothing is made.
abbrev pub stop_fault : {W : Type 0} → Path → Stop → Fault W
stop_fault path (stop.Unread why) = log_fault path why
stop_fault path (stop.Illegal why) = fault.Illegal path why

-- The fault of a file whose symbols are not read.
abbrev pub symbols_fault : {W : Type 0} → Path → SymbolsFault → Fault W
symbols_fault path symbols.Memory = fault.Memory
symbols_fault path why = fault.Symbols path why

-- The fault of output that was not written.
abbrev pub write_fault : {W : Type 0} → WriteFault → Fault W
write_fault write.Write = fault.Output
write_fault write.Memory = fault.Memory

-- The status at a fault, by that of each reason of the subcommand's own. At faults of files, of the output and of
-- allocation it is that of the machine. At every other fault that any subcommand may have, the input is refused.
abbrev pub status_of : {W : Type 0} → (W → Status) → Fault W → Status
status_of own (fault.Own why) = own why
status_of own (fault.Unreadable path) = Machine
status_of own fault.Output = Machine
status_of own fault.Memory = Machine
status_of own _ = Refused

-- The status that a subcommand ended with: the one that it returned, or the one of its fault.
abbrev pub final_status : {W : Type 0} → (W → Status) → Result Status (Fault W) → Status
final_status own (Ok status) = status
final_status own (Err fault) = status_of own fault

-- The same fault, with this reason in place of one of the subcommand's own.
abbrev pub map_own : {V W : Type 0} → (V → W) → Fault V → Fault W
map_own to (fault.Own why) = fault.Own (to why)
map_own to fault.Format = fault.Format
map_own to fault.Base = fault.Base
map_own to fault.Only = fault.Only
map_own to fault.NoLogs = fault.NoLogs
map_own to (fault.ManyLogs most) = fault.ManyLogs most
map_own to (fault.Unreadable path) = fault.Unreadable path
map_own to (fault.Image why) = fault.Image why
map_own to (fault.Piece path why) = fault.Piece path why
map_own to (fault.Log path why) = fault.Log path why
map_own to (fault.Illegal path why) = fault.Illegal path why
map_own to (fault.Symbols path why) = fault.Symbols path why
map_own to fault.Output = fault.Output
map_own to fault.Memory = fault.Memory
