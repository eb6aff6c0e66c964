-- What is found of an image and of a log, from what is read of its file.
use Rattle.std.proofs.Common.{◌≡◌, ◌⊎◌, inl, inr, refl, ℕ, sym, ap, List}
use Rattle.std.proofs.Common.{◌+◌, ◌^◌, ◌∙◌, Result, Ok, Err, Some}
use Rattle.std.specs.Result.{result_map_both}
use Rattle.retire.specs.Log.{log_up_to, records_of}
use Rattle.retire.specs.declared.event.Event.{Event}
use Rattle.retire.specs.declared.fault.LogFault.{LogFault}
use Rattle.retire.specs.declared.fault.LogFault.TheVariants as log
use Rattle.rvclass.specs.Image.{Image}
use Rattle.rvclass.specs.Program.{program_of}
use Rattle.rvclass.specs.declared.fault.ProgramFault.{ProgramFault}
use Rattle.command_inputs.specs.Faults.{Path, log_fault}
use Rattle.command_inputs.specs.Found.{IsImageAt, IsRead}
use Rattle.command_inputs.specs.FoundLogs.{IsLegalLogUpTo, IsLogUpTo}
use Rattle.log_streams.specs.Known.{Content, MayBegin}
use Rattle.command_inputs.proofs.FromStart.{decided, program_from_start}
use Rattle.command_inputs.specs.declared.fault.Fault.{Fault}
use Rattle.command_inputs.specs.declared.fault.Fault.TheVariants as fault

-- An image that is not read makes no program.
pub image_unread : {W : Type 0} (content : Content) (base : ℕ) (path : Path) (why : Fault W)
    → (why ≡ fault.Memory) ⊎ IsRead content path (Err why) → (why ≡ fault.Memory) ⊎ IsImageAt content base path
    (Err why)
image_unread content base path why (inl denied) = inl denied
image_unread content base path why (inr read) = inr (record { bytes = Err why; read = read; made = refl })

module _ {W : Type 0} (content : Content) (base : ℕ) (path : Path) (bytes : List ℕ)
    (begun : MayBegin (Some (2 ^ 24 + 1)) (content path.now) bytes) where
  -- What is made of the first bytes of an image is made of it.
  of_first : (made : Result Image ProgramFault) → made ≡ program_of base bytes
      → IsImageAt {W = W} content base path (result_map_both (λ program. program) fault.Image made)
  of_first made is =
      let (text, held, same) =
      decided (program_of base) (2 ^ 24 + 1) (program_from_start base) (content path.now) bytes begun in
      record {
        bytes = Ok text;
        read = held;
        made = ap (result_map_both (λ program. program) fault.Image) (is ∙ same);
      }

  -- An image that is refused makes no program.
  pub image_refused : (why : ProgramFault) → Err why ≡ program_of base bytes
      → IsImageAt {W = W} content base path (Err (fault.Image why))
  image_refused why = of_first (Err why)

  -- An image that is taken makes the program.
  pub image_made : (program : Image) → Ok program ≡ program_of base bytes
      → IsImageAt {W = W} content base path (Ok program)
  image_made program = of_first (Ok program)

-- A log with a fault has no events.
pub log_refused : {W : Type 0} (rows : ℕ) (content : Content) (path : Path) (bytes : List ℕ) (why : LogFault)
    → IsRead {W = W} content path (Ok bytes) → (why ≡ log.Memory) ⊎ (log_up_to rows (records_of bytes) ≡ Err why)
    → (log_fault {W = W} path why ≡ fault.Memory) ⊎ IsLogUpTo {W = W} rows content path (Err (log_fault path why))
log_refused {W} rows content path bytes why read (inl denied) = inl (ap (log_fault {W = W} path) denied)
log_refused {W} rows content path bytes why read (inr is) = inr (record {
  bytes = Ok bytes;
  read = read;
  made = ap (result_map_both (λ (events : List Event). events) (log_fault {W = W} path)) (sym is);
})

-- A log has its events.
pub log_read : {W : Type 0} (rows : ℕ) (content : Content) (path : Path) (bytes : List ℕ) (events : List Event)
    → IsRead {W = W} content path (Ok bytes) → log_up_to rows (records_of bytes) ≡ Ok events
    → IsLogUpTo {W = W} rows content path (Ok events)
log_read {W} rows content path bytes events read is = record {
  bytes = Ok bytes;
  read = read;
  made = ap (result_map_both (λ (events : List Event). events) (log_fault {W = W} path)) (sym is);
}

-- A log that is not read is not legal.
pub legal_unread : {W : Type 0} (rows : ℕ) (content : Content) (program : Image) (path : Path) (why : Fault W)
    → (why ≡ fault.Memory) ⊎ IsLogUpTo rows content path (Err why)
    → (why ≡ fault.Memory) ⊎ IsLegalLogUpTo rows content program path (Err why)
legal_unread rows content program path why (inl denied) = inl denied
legal_unread rows content program path why (inr read) =
    inr (record { events = Err why; read = read; judged = refl })
