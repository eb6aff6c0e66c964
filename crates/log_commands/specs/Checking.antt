-- What `check` prints, and how it ends.
use Rattle.std.specs.Prelude.{⊤, ◌⊎◌, ◌≡◌, ℕ, ◌++◌, [], ◌∷◌, Bool, codes, List, Option, Some, None, Result, Ok, Err}
use Rattle.std.specs.Prelude.{if◌then◌else◌, is_some, length}
use Rattle.std.specs.Fmt.{decimal}
use Rattle.std.specs.Io.KnownBytes.{Keeps}
use Rattle.std.specs.List.{AllZip, flat_map, list_any}
use Rattle.explaining.specs.Explanation.{explanation}
use Rattle.legalpath.specs.FaultText.{path_fault_text}
use Rattle.legalpath.specs.declared.fault.PathFault.{PathFault}
use Rattle.message.specs.Version.{most_harts}
use Rattle.message.specs.declared.header.Version.TheVariants.{Two}
use Rattle.retire.specs.declared.event.Event.{Event}
use Rattle.rvclass.specs.Image.{Image}
use Rattle.command_inputs.specs.declared.words.Check.{Check}
use Rattle.command_inputs.specs.FurtherPieces.{base_number}
use Rattle.command_inputs.specs.Faults.{Path}
use Rattle.command_inputs.specs.Finding.{After}
use Rattle.command_inputs.specs.Found.{IsAskedProgram}
use Rattle.command_inputs.specs.FoundLogs.{IsLogUpTo}
use Rattle.command_inputs.specs.Judged.{IsJudgedUpTo, Judged}
use Rattle.log_streams.specs.Known.{Content}
use Rattle.command_inputs.specs.Order.{logs_fault}
use Rattle.command_inputs.specs.Printed.{First, IsPrinted}
use Rattle.command_inputs.specs.Symbols.{AreSymbols}
use Rattle.command_inputs.specs.declared.status.Status.{Status}
use Rattle.command_inputs.specs.declared.status.Status.TheVariants.{Refused, Whole}
use Rattle.log_commands.specs.Faults.{Fault, Meaning, Once, Printed}
use Rattle.log_commands.specs.Most.{most_of}

-- What logs are checked by: the program, and the file of symbols by which places are named, if one is given.
pub record CheckInput : Type 0 where
  pub program : Image
  pub symbols : Option (List ℕ)

-- The symbols, if they are given, are found, of the input with this program.
abbrev pub IsCheckInputWith : Content → Option Path → Image → Result CheckInput Fault → Type 0
IsCheckInputWith content symbols program =
    After (AreSymbols content symbols) (λ names found. found ≡ Ok (record { program = program; symbols = names }))

-- The input is found: the program first, by the bases, the count of logs, and the image with its further pieces, and
-- then the symbols, if they are given.
abbrev pub IsCheckInput : Content → Check → Result CheckInput Fault → Type 0
IsCheckInput content asked =
    After (IsAskedProgram content (most_harts Two) asked.program asked.logs.items)
    (IsCheckInputWith content asked.symbols)

-- The line of a log at a path. It says that the log is legal and how many events it has, or which row is the first
-- illegal one and why.
abbrev pub verdict_line : List ℕ → ℕ → Option PathFault → List ℕ
verdict_line path count None = path ++ (codes ": legal, " ++ (decimal count ++ codes " events\n"))
verdict_line path count (Some illegal) = path ++ (codes ": " ++ (path_fault_text illegal ++ codes "\n"))

-- The line below that of a log: it explains the first illegal row, if there is one and that is asked for.
abbrev pub explained_line : Bool → CheckInput → List Event → Option PathFault → List ℕ
explained_line explain input events None = []
explained_line explain input events (Some illegal) = if explain then explanation input.symbols input.program events illegal else []

-- What is written of a log at a path: its line, and the one below.
abbrev pub log_lines : Bool → CheckInput → List ℕ → List Event → Option PathFault → List ℕ
log_lines explain input path events illegal =
    verdict_line path (length events) illegal ++ explained_line explain input events illegal

-- What is written of a log that was checked.
abbrev pub check_lines : Bool → CheckInput → Judged → List ℕ
check_lines explain input log = log_lines explain input log.path log.events log.illegal

-- A log that was checked is illegal.
abbrev pub is_illegal : Judged → Bool
is_illegal log = is_some log.illegal

-- The status of a run that read every log: input is refused where some log is illegal.
abbrev pub status_with : Bool → Status
status_with some_illegal = if some_illegal then Refused else Whole

-- Every log was read, of at most so many rows. Each has its lines, and the status says whether one is illegal.
pub record ChecksAll (most : ℕ) (content : Content) (explain : Bool) (input : CheckInput) (paths : List Path)
    (text : List ℕ) (status : Status) : Type 0 where
  pub logs : List Judged
  pub judged : AllZip (IsJudgedUpTo most content input.program) paths logs
  pub lines : text ≡ flat_map (check_lines explain input) logs
  pub ended : status ≡ status_with (list_any is_illegal logs)

-- The logs before some path were read, and each has its lines. The log at that path was not read, for this reason.
pub record ChecksUpTo (most : ℕ) (content : Content) (explain : Bool) (input : CheckInput) (paths : List Path)
    (text : List ℕ) (why : Fault) : Type 0 where
  pub front : List Path
  pub path : Path
  pub rest : List Path
  pub logs : List Judged
  pub whole : paths ≡ front ++ path ∷ rest
  pub judged : AllZip (IsJudgedUpTo most content input.program) front logs
  pub lines : text ≡ flat_map (check_lines explain input) logs
  pub unread : IsLogUpTo most content path (Err why)

-- The text is the lines of the logs at these paths, up to the first that is not read, and this is the end that goes
-- with it.
abbrev pub EndsLines : ℕ → Content → Bool → CheckInput → List Path → List ℕ → Result Status Fault → Type 0
EndsLines most content explain input paths text (Ok status) =
    ChecksAll most content explain input paths text status
EndsLines most content explain input paths text (Err why) = ChecksUpTo most content explain input paths text why

-- The lines of the logs at these paths are written.
abbrev pub WritesLines : ℕ → Content → Bool → CheckInput → List Path → Printed → Type 0
WritesLines most content explain input paths printed =
    EndsLines most content explain input paths printed.text printed.ended

-- The program and the symbols are found first. Where there is no fault, the lines of the logs are written.
abbrev pub Checks : Content → Check → Printed → Type 0
Checks content asked =
    First (IsCheckInput content asked)
    (λ input. WritesLines (most_of asked.long) content asked.explain input asked.logs.items)

-- `check` writes once it has them.
abbrev pub CanCheck : Content → Check → Type 0
CanCheck content asked = Once (IsCheckInput content asked) (λ _. ⊤)

-- All logs at a front part of these paths were read, perhaps at none or at all of them, and their lines were appended.
pub record AppendsFirstLines (most : ℕ) (content : Content) (explain : Bool) (input : CheckInput) (paths : List Path)
    (old new : Option (List ℕ)) : Type 0 where
  pub front : List Path
  pub rest : List Path
  pub status : Status
  pub whole : paths ≡ front ++ rest
  pub lines : IsPrinted (WritesLines most content explain input front) (Ok status) old new

-- The input was found, and the lines of the first logs were appended, perhaps of none.
abbrev pub BeginsLines : Content → Check → Option (List ℕ) → Option (List ℕ) → Type 0
BeginsLines content asked old new =
    Once (IsCheckInput content asked)
    (λ input. AppendsFirstLines (most_of asked.long) content asked.explain input asked.logs.items old new)

-- The lines of the logs at a front part of these paths are written.
pub record WritesFirstLines (most : ℕ) (content : Content) (explain : Bool) (input : CheckInput) (paths : List Path)
    (printed : Printed) : Type 0 where
  pub front : List Path
  pub rest : List Path
  pub whole : paths ≡ front ++ rest
  pub lines : WritesLines most content explain input front printed

-- The input was found, and the lines of the first logs are written.
abbrev pub ChecksFirst : Content → Check → Printed → Type 0
ChecksFirst content asked printed =
    Once (IsCheckInput content asked)
    (λ input. WritesFirstLines (most_of asked.long) content asked.explain input asked.logs.items printed)

-- What `check` means. It writes the lines of the logs in turn, once it has read them all or up to one that it cannot.
abbrev pub check_meaning : Check → Meaning
check_meaning asked = record {
  early = logs_fault (most_harts Two) (base_number asked.program) (length asked.logs.items);
  Prints = λ content. Checks content asked;
  CanWrite = λ content. CanCheck content asked;
  Begins = λ content old new. Keeps old new ⊎ BeginsLines content asked old new;
  WritesInParts = ⊤;
  Cuts = λ content. ChecksFirst content asked;
}
