-- What is found of the logs at paths, from what was made of them as they were read.
use Rattle.std.proofs.Common.{◌≡◌, ◌∙◌, ◌≤◌, ◌⊎◌, inl, inr, refl, ℕ, zero, suc, arith, sym, ap, subst, List, []}
use Rattle.std.proofs.Common.{◌∷◌, ◌++◌, Some, Ok, Err, length, slice_get, take}
use Rattle.std.specs.List.{AllZip}
use Rattle.legalpath.specs.ProgramLog.{ProgramLog, program_log}
use Rattle.retire.specs.declared.event.Event.{Event}
use Rattle.retire.specs.declared.fault.LogFault.{LogFault}
use Rattle.retire.specs.declared.fault.LogFault.TheVariants as log
use Rattle.rvclass.specs.Image.{Image}
use Rattle.log_streams.specs.Known.{Content}
use Rattle.log_streams.specs.Made.{AreMade, IsMadeOf, IsStopped}
use Rattle.log_streams.specs.Read.{IsReadIn, IsUnread}
use Rattle.log_streams.specs.declared.illegal_row.IllegalRow.{IllegalRow}
use Rattle.log_streams.specs.declared.logs_fault.LogsFault.{LogsFault}
use Rattle.log_streams.specs.declared.stop.Stop.{Stop}
use Rattle.log_streams.specs.declared.stop.Stop.TheVariants as stop
use Rattle.command_inputs.specs.Faults.{Path, log_fault, stop_fault}
use Rattle.command_inputs.specs.FoundLogs.{IsFirstRefusedUpTo, IsLegalLogUpTo, IsLogUpTo}
use Rattle.command_inputs.specs.declared.fault.Fault.{Fault}
use Rattle.command_inputs.specs.declared.fault.Fault.TheVariants as fault
use Rattle.command_inputs.proofs.FromFiles.{legal_unread, log_read, log_refused}

-- The log in the file at a path is the log at that path.
pub log_read_in : {W : Type 0} (rows : ℕ) (content : Content) (path : Path) (events : List Event)
    → IsReadIn (content path.now) rows (Ok events) → IsLogUpTo {W = W} rows content path (Ok events)
log_read_in rows content path events there = log_read rows content path there.bytes events there.held there.read

-- A log that is not read to its end has no events.
pub log_unread_in : {W : Type 0} (rows : ℕ) (content : Content) (path : Path) (why : LogFault)
    → (why ≡ log.Memory) ⊎ IsUnread (content path.now) rows why
    → (log_fault {W = W} path why ≡ fault.Memory) ⊎ IsLogUpTo {W = W} rows content path (Err (log_fault path why))
log_unread_in {W} rows content path why (inl denied) = inl (ap (log_fault {W = W} path) denied)
log_unread_in {W} rows content path why (inr (inl (is, lacks))) =
    inr (subst (λ why. IsLogUpTo {W = W} rows content path (Err (log_fault path why))) (sym is)
    (record { bytes = Err (fault.Unreadable path); read = (refl, lacks); made = refl }))
log_unread_in rows content path why (inr (inr there)) =
    log_refused rows content path there.bytes why there.held (inr there.read)

-- A log of which nothing is made is not legal.
pub legal_stopped : {W : Type 0} (rows : ℕ) (content : Content) (program : Image) (path : Path) (why : Stop)
    → IsStopped (content path.now) program rows why
    → (stop_fault {W = W} path why ≡ fault.Memory)
    ⊎ IsLegalLogUpTo {W = W} rows content program path (Err (stop_fault path why))
legal_stopped rows content program path (stop.Unread why) there =
    legal_unread rows content program path (log_fault path why) (log_unread_in rows content path why there)
legal_stopped rows content program path (stop.Illegal illegal) (events, read, first) = inr (record {
  events = Ok events;
  read = log_read_in rows content path events read;
  judged = (illegal, refl, first);
})

-- What holds at each place holds of the first of some things and all of others.
pub front_by_place : {A B : Type 0} (R : A → B → Type 0) (xs : List A) (ys : List B) → length ys ≤ length xs
    → ((i : ℕ) (x : A) (y : B) → slice_get xs i ≡ Some x → slice_get ys i ≡ Some y → R x y)
    → AllZip R (take (length ys) xs) ys
front_by_place R xs [] few each = tt
front_by_place R [] (y ∷ ys) few each = absurd (omega (arith, few))
front_by_place R (x ∷ xs) (y ∷ ys) few each =
    (each 0 x y refl refl, front_by_place R xs ys (omega (arith, few)) (λ i. each (suc i)))

-- What holds at each place holds of all of two lists.
pub all_by_place : {A B : Type 0} (R : A → B → Type 0) (xs : List A) (ys : List B) → length ys ≡ length xs
    → ((i : ℕ) (x : A) (y : B) → slice_get xs i ≡ Some x → slice_get ys i ≡ Some y → R x y) → AllZip R xs ys
all_by_place R [] [] same each = tt
all_by_place R [] (y ∷ ys) same each = absurd (omega (arith, same))
all_by_place R (x ∷ xs) [] same each = absurd (omega (arith, same))
all_by_place R (x ∷ xs) (y ∷ ys) same each =
    (each 0 x y refl refl, all_by_place R xs ys (omega (arith, same)) (λ i. each (suc i)))

-- A list is parted at a place within it.
pub parted_at : {A : Type 0} (xs : List A) (i : ℕ) (x : A) → slice_get xs i ≡ Some x
    → (rest : List A) × (xs ≡ take i xs ++ x ∷ rest)
parted_at [] i x at = cc at
parted_at (y ∷ xs) zero x at = (xs, ap (λ y. y ∷ xs) (cc at))
parted_at (y ∷ xs) (suc i) x at =
    let more = parted_at xs i x at in (more.0, ap (λ xs. y ∷ xs) more.1)

-- Of the logs at the first paths something was made, and of the one at the next nothing, with this fault.
pub record StopsAt {W X : Type 0} (R : Path → X → Type 0) (Stops : Path → Fault W → Type 0) (paths : List Path)
    (made : List X) (why : Fault W) : Type 0 where
  pub front : List Path
  pub next : Path
  pub rest : List Path
  pub whole : paths ≡ front ++ next ∷ rest
  pub came : AllZip R front made
  pub stopped : Stops next why

module _ {X : Type 0} (rows : ℕ) (Makes : ℕ → List Event → X → Type 0)
    (OfIllegal : List Event → IllegalRow → X → Type 0)
    (content : Content) (program : Image) (paths : List Path) (made : List X) (R : Path → X → Type 0)
    (leads : (hart : ℕ) (path : Path) (one : X)
    → IsMadeOf Makes OfIllegal (content path.now) program rows hart (Ok one) → R path one) where
  -- Something is made of the log at each path.
  pub made_whole : (u : Unit {0}) → AreMade Makes OfIllegal content program rows paths made (Ok u)
      → AllZip R paths made
  made_whole u are =
      all_by_place R paths made (are.all refl)
      (λ hart path one here there. leads hart path one (are.each hart path one here there))

  -- Nothing is made of the log at a path, and something of those before.
  pub made_stops : {W : Type 0} (Stops : Path → Fault W → Type 0)
      → ((path : Path) (why : Stop) → IsStopped (content path.now) program rows why
      → Stops path (stop_fault path why))
      → (end : LogsFault) → AreMade Makes OfIllegal content program rows paths made (Err end)
      → StopsAt R Stops paths made (stop_fault end.path end.why)
  made_stops Stops stops end are =
      let parted = parted_at paths (length made) end.path are.fault.0 in record {
        front = take (length made) paths;
        next = end.path;
        rest = parted.0;
        whole = parted.1;
        came = front_by_place R paths made are.few
            (λ hart path one here there. leads hart path one (are.each hart path one here there));
        stopped = stops end.path end.why are.fault.1;
      }

-- The paths of which each has a legal log have legal logs.
logs_of : {X : Type 0} (W : Type 0) (rows : ℕ) (content : Content) (program : Image) (paths : List Path) (ones : List X)
    → AllZip (λ path one. (log : ProgramLog) × IsLegalLogUpTo {W = W} rows content program path (Ok log)) paths ones
    → (logs : List ProgramLog)
    × AllZip (λ path log. IsLegalLogUpTo {W = W} rows content program path (Ok log)) paths logs
logs_of W rows content program [] [] all = ([], tt)
logs_of W rows content program [] (one ∷ ones) all = elim all [ ]
logs_of W rows content program (path ∷ paths) [] all = elim all [ ]
logs_of W rows content program (path ∷ paths) (one ∷ ones) (first, all) =
    let more = logs_of W rows content program paths ones all in (first.0 ∷ more.0, (first.1, more.1))

-- The log at which it stops is the first that is not legal, unless allocation failed.
stop_refused : {W : Type 0} (rows : ℕ) (content : Content) (program : Image) (paths front : List Path) (path : Path)
    (rest : List Path) (logs : List ProgramLog) (why : Fault W) → paths ≡ front ++ path ∷ rest
    → AllZip (λ path log. IsLegalLogUpTo {W = W} rows content program path (Ok log)) front logs
    → (why ≡ fault.Memory) ⊎ IsLegalLogUpTo rows content program path (Err why)
    → (why ≡ fault.Memory) ⊎ IsFirstRefusedUpTo rows content program paths why
stop_refused rows content program paths front path rest logs why whole legal (inl denied) = inl denied
stop_refused rows content program paths front path rest logs why whole legal (inr refused) = inr (record {
  front = front;
  path = path;
  rest = rest;
  logs = logs;
  whole = whole;
  legal = legal;
  refused = refused;
})

module _ {X : Type 0} (rows : ℕ) (Makes : ℕ → List Event → X → Type 0)
    (OfIllegal : List Event → IllegalRow → X → Type 0)
    (never : (events : List Event) (row : IllegalRow) (one : X) → OfIllegal events row one → ⊥)
    (content : Content) (program : Image) where
  -- What is made of the log at a path is made of a legal log.
  pub legal_made : {W : Type 0} (hart : ℕ) (path : Path) (one : X)
      → IsMadeOf Makes OfIllegal (content path.now) program rows hart (Ok one)
      → (log : ProgramLog) × IsLegalLogUpTo {W = W} rows content program path (Ok log)
  legal_made hart path one (inl made) = (
    program_log program made.events,
    record {
      events = Ok made.events;
      read = log_read_in rows content path made.events made.read;
      judged = (refl, made.legal.legal);
    },
  )
  legal_made hart path one (inr made) = absurd (never made.events made.row one made.makes)

  -- Where nothing is made of an illegal log, the log at which it stops is the first that is not legal, unless
  -- allocation failed.
  pub first_refused : {W : Type 0} (paths : List Path) (made : List X) (end : LogsFault)
      → AreMade Makes OfIllegal content program rows paths made (Err end)
      → (stop_fault {W = W} end.path end.why ≡ fault.Memory)
      ⊎ IsFirstRefusedUpTo {W = W} rows content program paths (stop_fault end.path end.why)
  first_refused {W} paths made end are =
      let why : Fault W = stop_fault end.path end.why in
      let stop = made_stops rows Makes OfIllegal content program paths made
      (λ path one. (log : ProgramLog) × IsLegalLogUpTo {W = W} rows content program path (Ok log))
      (legal_made {W = W})
      (λ path (why : Fault W). (why ≡ fault.Memory) ⊎ IsLegalLogUpTo rows content program path (Err why))
      (legal_stopped rows content program) end are in
      let logs = logs_of W rows content program stop.front made stop.came in
      stop_refused rows content program paths stop.front stop.next stop.rest logs.0 why stop.whole logs.1 stop.stopped

-- The events of a log are kept, with the program.
abbrev pub IsKept : Image → ℕ → List Event → ProgramLog → Type 0
IsKept program hart events log = (log.program ≡ program) × (log.events ≡ events)

module _ (rows : ℕ) (content : Content) (program : Image) where
  -- A log that is kept is the legal log at its path.
  legal_kept : {W : Type 0} (hart : ℕ) (path : Path) (log : ProgramLog)
      → IsMadeOf (IsKept program) (λ events row log. ⊥) (content path.now) program rows hart (Ok log)
      → IsLegalLogUpTo {W = W} rows content program path (Ok log)
  legal_kept hart path log (inl made) = record {
    events = Ok made.events;
    read = log_read_in rows content path made.events made.read;
    judged = (
      ap (λ program. program_log program log.events) made.makes.0 ∙ ap (program_log program) made.makes.1,
      made.legal.legal,
    );
  }
  legal_kept hart path log (inr made) = absurd made.makes

  -- All logs are legal.
  pub logs_kept : (W : Type 0) (u : Unit {0}) (paths : List Path) (logs : List ProgramLog)
      → AreMade (IsKept program) (λ events row log. ⊥) content program rows paths logs (Ok u)
      → AllZip (λ path log. IsLegalLogUpTo {W = W} rows content program path (Ok log)) paths logs
  logs_kept W u paths logs are =
      made_whole rows (IsKept program) (λ events row log. ⊥) content program paths logs
      (λ path log. IsLegalLogUpTo {W = W} rows content program path (Ok log)) (legal_kept {W = W}) u are
