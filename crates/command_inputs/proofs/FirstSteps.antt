-- What a run prints that finds the program of logs first, or legal logs.
use Rattle.std.proofs.Common.{◌≡◌, ◌⊎◌, inl, inr, refl, ℕ, sym, subst, ap, ◌∙◌, List, Option, Some, None}
use Rattle.std.proofs.Common.{Result, Ok, Err}
use Rattle.std.proofs.lemmas.Result.{IfErr-at_err}
use Rattle.std.specs.Prelude.{IfErr, IfSome}
use Rattle.legalpath.specs.ProgramLog.{ProgramLog}
use Rattle.rvclass.specs.Image.{Image}
use Rattle.command_inputs.specs.Faults.{Path}
use Rattle.command_inputs.specs.Found.{AreFew, IsAskedProgram, IsBase, IsProgramAt}
use Rattle.command_inputs.specs.FoundLogs.{AreAskedLogsUpTo, AreLegalLogsUpTo}
use Rattle.log_streams.specs.Known.{Content}
use Rattle.command_inputs.specs.Printed.{First, Printed, PrintsUnlessDenied}
use Rattle.command_inputs.specs.declared.fault.Fault.{Fault}
use Rattle.command_inputs.specs.declared.fault.Fault.TheVariants as fault
use Rattle.command_inputs.specs.declared.status.Status.{Status}
use Rattle.command_inputs.specs.declared.words.ProgramArgs.{ProgramArgs}
use Rattle.command_inputs.proofs.Runs.{ends_silently}

-- Once there are a base and logs, it is the image that makes no program.
pub program_lacked : {W : Type 0} (content : Content) (most : ℕ) (asked : ProgramArgs) (paths : List Path) (base : ℕ)
    (one : Unit {0}) → IsBase {W = W} asked (Ok base) → AreFew {W = W} most paths (Ok one) → (why : Fault W)
    → (why ≡ fault.Memory) ⊎ IsProgramAt content base asked (Err why)
    → (why ≡ fault.Memory) ⊎ IsAskedProgram content most asked paths (Err why)
program_lacked content most asked paths base one based few why (inl denied) = inl denied
program_lacked content most asked paths base one based few why (inr none) =
    inr (Ok base, based, (Ok one, few, none))

-- What is found before any file is read, and ends the search for the program, ends the run.
pub early_ends : {W A B : Type 0} (seen : Option (Fault W)) (result : Result A (Fault W)) (why : Fault W)
    (ended : Result B (Fault W))
    → result ≡ Err why → ended ≡ Err why → IfSome seen (λ fault. result ≡ Err fault)
    → IfSome seen (λ fault. ended ≡ Err fault)
early_ends None result why ended failed is early = tt
early_ends (Some fault) result why ended failed is early =
    is ∙ ap Err (IfErr-at_err (λ fault. why ≡ fault) early (subst (λ r. IfErr r (λ fault. why ≡ fault)) (sym failed)
    refl))

-- Where this fault leads to what is lacked, a step that ends at it lacks that, or an allocation failed.
pub lacks : {W A : Type 0} (why : Fault W) (ended : Result A (Fault W)) (Finds : Type 0) (Lacks : Fault W → Type 0)
    → ended ≡ Err why → (why ≡ fault.Memory) ⊎ Finds → (Finds → Lacks why)
    → IfErr ended (λ why. (why ≡ fault.Memory) ⊎ Lacks why)
lacks why ended Finds Lacks is found leads =
    subst (λ r. IfErr r (λ why. (why ≡ fault.Memory) ⊎ Lacks why)) (sym is) (go found)
  where
    go : (why ≡ fault.Memory) ⊎ Finds → (why ≡ fault.Memory) ⊎ Lacks why
    go (inl memory) = inl memory
    go (inr finds) = inr (leads finds)

-- Where the program was found, nothing is seen before any file is read.
pub passes : {W A B : Type 0} (seen : Option (Fault W)) (result : Result A (Fault W)) (value : A)
    (ended : Result B (Fault W))
    → result ≡ Ok value → IfSome seen (λ fault. result ≡ Err fault) → IfSome seen (λ fault. ended ≡ Err fault)
passes None result value ended found early = tt
passes (Some fault) result value ended found early =
    let never : Ok value ≡ Err fault = sym found ∙ early in cc

module _ {W : Type 0} (rows : ℕ) (content : Content) (most : ℕ) (asked : ProgramArgs) (items : List Path) where
  -- There is no program, so there are no logs.
  pub no_logs : (CanWrite : Type 0) (out : Option (List ℕ)) (why : Fault W) (ended : Result Status (Fault W))
      → ended ≡ Err why → (Next : List ProgramLog → Printed W → Type 0)
      → (why ≡ fault.Memory) ⊎ IsAskedProgram content most asked items (Err why)
      → PrintsUnlessDenied (First (AreAskedLogsUpTo rows content most asked items) Next) CanWrite ended out out
  no_logs CanWrite out why ended is Next none =
      ends_silently (First (AreAskedLogsUpTo rows content most asked items) Next) CanWrite
      (IsAskedProgram content most asked items (Err why)) why ended out is none
      (λ none. (Err why, (Err why, none, refl), refl))

  module _ (paths : List Path) (same : paths ≡ items) where
    -- What is found of the logs by a slice of the paths is found by the paths, once there is a program and the files
    -- are as they were.
    pub logs_there : (program : Image) (known : Content) (found : Result (List ProgramLog) (Fault W))
        → IsAskedProgram {W = W} content most asked items (Ok program) → known ≡ content
        → AreLegalLogsUpTo rows known program paths found → AreAskedLogsUpTo rows content most asked items found
    logs_there program known found is kept logs = (
      Ok program,
      is,
      subst (λ paths. AreLegalLogsUpTo rows content program paths found) same
          (subst (λ known. AreLegalLogsUpTo rows known program paths found) kept logs),
    )

    -- A log is not legal.
    pub logs_end : (CanWrite : Type 0) (out : Option (List ℕ)) (why : Fault W) (ended : Result Status (Fault W))
        → ended ≡ Err why → (Next : List ProgramLog → Printed W → Type 0) (program : Image) (known : Content)
        → IsAskedProgram {W = W} content most asked items (Ok program) → known ≡ content
        → (why ≡ fault.Memory) ⊎ AreLegalLogsUpTo rows known program paths (Err why)
        → PrintsUnlessDenied (First (AreAskedLogsUpTo rows content most asked items) Next) CanWrite ended out out
    logs_end CanWrite out why ended is Next program known found kept none =
        ends_silently (First (AreAskedLogsUpTo rows content most asked items) Next) CanWrite
        (AreLegalLogsUpTo rows known program paths (Err why)) why ended out is none
        (λ none. (Err why, logs_there program known (Err why) found kept none, refl))
