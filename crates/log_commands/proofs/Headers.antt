-- The numbers of the header of a capture that is asked for.
use Rattle.std.proofs.Common.{◌≡◌, ◌≤◌, ◌<◌, ◌^◌, ◌-◌, ◌+◌, ℕ, Bool, true, false, Option, Some, None, Result, Ok, Err}
use Rattle.std.proofs.Common.{arith, if◌then◌else◌, nat_lt, refl}
use Rattle.std.proofs.lemmas.Bool.{ltb-false, ltb-true}
use Rattle.captures.specs.Versions.{MayStart}
use Rattle.command_inputs.specs.FurtherPieces.{base_number}
use Rattle.command_inputs.specs.declared.fault.Fault.TheVariants as fault
use Rattle.message.specs.Version.{most_harts}
use Rattle.message.specs.declared.header.Header.{Header}
use Rattle.message.specs.declared.header.Version.{Version}
use Rattle.message.specs.declared.header.Version.TheVariants.{One, Two}
use Rattle.command_inputs.specs.declared.words.Encode.{Encode}
use Rattle.log_commands.proofs.PartLogs.{limit_there, part_there}
use Rattle.log_commands.specs.Faults.{Fault}
use Rattle.log_commands.specs.Parts.{all_harts, asked_part, first_hart, most_logs}
use Rattle.log_commands.specs.declared.reason.LogReason.TheVariants.{FirstHart, ManyHarts}
use Rattle.log_commands.specs.steps.Parts.{limit_of}

-- They are within their ranges where there is a hart and no more than may be.
pub may_start : (version : Version) (header : Header) → 1 ≤ header.period → header.period < 2 ^ 16
    → 1 ≤ header.harts → header.harts ≤ most_harts version → MayStart version header
may_start One header some_period period some_harts harts = tt
may_start Two header some_period period some_harts harts =
    record { some_period = some_period; period = period; some_harts = some_harts; harts = harts }

-- There is a hart where the first hart is below the count of all.
some_harts : (first harts most : ℕ) (below : Bool) → nat_lt first harts ≡ below
    → ◌≡◌ {A = Result ℕ Fault} (if below then Ok (harts - first) else Err (fault.Own (FirstHart harts))) (Ok most)
    → 1 ≤ harts
some_harts first harts most true below is = omega (arith, ltb-true first harts below)
some_harts first harts most false below is = cc

-- There are no more than may be where the part is one.
few_harts : (most harts : ℕ) (over : Bool) → nat_lt most harts ≡ over
    → ◌≡◌ {A = Result (Unit {0}) Fault} (if over then Err (fault.Own (ManyHarts most)) else Ok tt) (Ok tt)
    → harts ≤ most
few_harts most harts true over is = cc
few_harts most harts false over is = omega (arith, ltb-false most harts over)

-- The harts of a part are so where the part is one, and there is a log and no more than it may have.
in_part : (version : Version) (first of : Option ℕ) (logs most : ℕ) → asked_part version first of ≡ Ok tt
    → most_logs version first of ≡ Ok most → 1 ≤ logs → logs ≤ most
    → (1 ≤ all_harts of logs) × (all_harts of logs ≤ most_harts version)
in_part version first None logs most part is one few =
    let limit : most_harts version ≡ most = cc is in (one, omega (arith, few, limit))
in_part version first (Some harts) logs most part is one few = (
  some_harts (first_hart first) harts most (nat_lt (first_hart first) harts) refl is,
  few_harts (most_harts version) harts (nat_lt (most_harts version) harts) refl part,
)

-- And where there is a limit of the logs.
pub harts_in_part : (asked : Encode) (logs most : ℕ) → limit_of asked ≡ Ok most → 1 ≤ logs → logs ≤ most
    → (1 ≤ all_harts asked.of logs) × (all_harts asked.of logs ≤ most_harts asked.version)
harts_in_part asked logs most leads one few =
    let part = asked_part asked.version asked.first asked.of in
    let base = base_number asked.program in
    let found = most_logs asked.version asked.first asked.of in
    in_part asked.version asked.first asked.of logs most (part_there part base found most leads)
    (limit_there part base found most leads) one few

-- The logs of a part are those of harts that it counts.
within_part : (version : Version) (first of : Option ℕ) (logs most : ℕ) → asked_part version first of ≡ Ok tt
    → most_logs version first of ≡ Ok most → logs ≤ most → first_hart first + logs ≤ all_harts of logs
within_part version None None logs most part is few = omega arith
within_part version (Some first) None logs most part is few = cc
within_part version first (Some harts) logs most part is few =
    below (nat_lt (first_hart first) harts) refl is
  where
    below : (b : Bool) → nat_lt (first_hart first) harts ≡ b
        → ◌≡◌ {A = Result ℕ Fault} (if b then Ok (harts - first_hart first) else Err (fault.Own (FirstHart harts))) (Ok most)
        → first_hart first + logs ≤ harts
    below true here same =
        let less = ltb-true (first_hart first) harts here in
        let limit : harts - first_hart first ≡ most = cc same in omega (arith, less, limit, few)
    below false here same = cc

-- And where there is a limit of the logs.
pub logs_in_part : (asked : Encode) (logs most : ℕ) → limit_of asked ≡ Ok most → logs ≤ most
    → first_hart asked.first + logs ≤ all_harts asked.of logs
logs_in_part asked logs most leads few =
    let part = asked_part asked.version asked.first asked.of in
    let base = base_number asked.program in
    let found = most_logs asked.version asked.first asked.of in
    within_part asked.version asked.first asked.of logs most (part_there part base found most leads)
    (limit_there part base found most leads) few
