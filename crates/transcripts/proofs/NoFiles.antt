-- Where there is no file, nothing that words ask for but `generate` is done: an image or a capture is read before anything
-- is.
use Rattle.std.proofs.Common.{◌≡◌, ◌≢◌, ◌∙◌, ◌⊎◌, ℕ, Bool, true, false, List, [], None, Option, Result, Ok, Err, ap, arith}
use Rattle.std.proofs.Common.{inl, inr, map, subst, sym}
use Rattle.cli.specs.Asking.{AskGenerate}
use Rattle.command_inputs.specs.Kind.{IsGenerate, is_streamed}
use Rattle.command_inputs.specs.declared.words.Asked.{Asked}
use Rattle.command_inputs.specs.declared.words.Asked.TheVariants.{Audit, Bench, Check, Decode, Dump, Encode, Listing}
use Rattle.command_inputs.specs.declared.words.Asked.TheVariants as asked_for
use Rattle.command_inputs.specs.declared.words.Audit.{Audit as AskedAudit}
use Rattle.command_inputs.specs.declared.words.Check.{Check as AskedCheck}
use Rattle.command_inputs.specs.declared.words.Encode.{Encode as AskedEncode}
use Rattle.command_inputs.specs.declared.words.Format.{Format}
use Rattle.command_inputs.specs.declared.words.Format.TheVariants.{Text}
use Rattle.command_inputs.specs.declared.words.ProgramArgs.{ProgramArgs}
use Rattle.command_inputs.specs.declared.words.Asked.TheVariants.{Measure, Replay, Salvage}
use Rattle.log_commands.specs.Benching.{BenchesLogs}
use Rattle.commands.specs.CarriedOut.{IsCarriedOut}
use Rattle.log_commands.specs.Checking.{IsCheckInput, IsCheckInputWith, WritesLines}
use Rattle.capture_commands.specs.CaptureInput.{IsCaptureInput, IsInputAt, IsInputWith}
use Rattle.capture_commands.specs.Decoded.{DecodesInput, IsDecodeInput}
use Rattle.capture_commands.specs.Dumping.{DumpsHarts, DumpsNamed, WritesDumpOf}
use Rattle.capture_commands.specs.Listed.{IsListInput, ListsInput}
use Rattle.capture_commands.specs.Salvaging.{IsSalvageInput, SalvagesInput}
use Rattle.capture_commands.specs.declared.reason.CaptureReason.TheVariants as capture
use Rattle.log_commands.specs.declared.reason.LogReason.TheVariants as log
use Rattle.path_commands.specs.declared.reason.PathReason.TheVariants as audit
use Rattle.capture_commands.specs.Comparing.{ComparesInput, IsCompareInput}
use Rattle.path_commands.specs.Capturing as capturing
use Rattle.path_commands.specs.Capturing.{AreSettings, WritesCapture, WritesStream}
use Rattle.path_commands.specs.LineFaults as lines
use Rattle.path_commands.specs.declared.line_reason.LineReason.TheVariants as line
use Rattle.captures.specs.declared.line_settings.Settings.{Settings}
use Rattle.command_inputs.specs.declared.words.Capture.{Capture as AskedCapture}
use Rattle.commands.specs.Faults.{Fault, Printed, command_reason_status, final_status, status_of}
use Rattle.commands.specs.Joined.{joined_end, joined_printed}
use Rattle.commands.specs.declared.reason.CommandReason.{CommandReason}
use Rattle.commands.specs.declared.reason.CommandReason.TheVariants.{Capture, Line, Log, Path, Words}
use Rattle.log_commands.specs.Encoding.{AreLogsOf, ArePartLogs, IsMostLogs, IsPart, WritesMessages}
use Rattle.command_inputs.specs.Faults.{Path as FilePath}
use Rattle.command_inputs.specs.Finding.{After, IsFoundFrom}
use Rattle.command_inputs.specs.OnlyHarts.{IsOnly}
use Rattle.command_inputs.specs.Symbols.{AreSymbols}
use Rattle.command_inputs.specs.Found.{AreFew, IsAskedBase, IsAskedProgram, IsBase, IsFormat, IsImageAt, IsProgramAt}
use Rattle.command_inputs.specs.Found.{IsRead, IsWithPieces, program_at}
use Rattle.command_inputs.specs.FoundLogs.{AreAskedLogsUpTo, AreLegalLogsUpTo}
use Rattle.log_streams.specs.Known.{Content, content_in}
use Rattle.command_inputs.specs.Printed.{First, GoesOn, Printed as AnyPrinted}
use Rattle.log_commands.specs.Measuring.{WritesTable}
use Rattle.log_commands.specs.Most.{most_of}
use Rattle.retire.specs.Log.{most_rows}
use Rattle.log_commands.specs.Replaying.{ReplaysLogs}
use Rattle.path_commands.specs.Audited.{AuditsAs, AuditsAsked, AuditsSent, IsSentOf, Writes}
use Rattle.path_commands.specs.Faults as audits
use Rattle.path_commands.specs.Followed.{IsLive}
use Rattle.message.specs.declared.range.HartRange.{HartRange}
use Rattle.path_commands.specs.Sides.{IsFoundSent}
use Rattle.command_inputs.specs.Status.{code_of}
use Rattle.command_inputs.specs.declared.fault.Fault.{Fault as AnyFault}
use Rattle.command_inputs.specs.declared.fault.Fault.TheVariants as fault
use Rattle.command_inputs.specs.declared.status.Status.{Status}
use Rattle.commands.specs.Words.{AreCarriedOut}

-- What is known where there is no file.
abbrev none : Content
none = λ path. content_in [] path

-- No value is found.
abbrev NeverFound : {W A : Type 0} → (Result A (AnyFault W) → Type 0) → Type 0
NeverFound {W} {A} Finds = (value : A) → Finds (Ok value) → ⊥

-- No bytes are found, whatever the reasons are.
no_bytes : (path : FilePath) → NeverFound (IsRead {W = ⊥} none path)
no_bytes path bytes read = read

-- No program is made of bytes of no file.
no_image : {W : Type 0} (base : ℕ) (path : FilePath) (bytes : Result (List ℕ) (AnyFault W)) → IsRead none path bytes
    → NeverFound (λ found. found ≡ program_at base bytes)
no_image base path (Ok bytes) read program made = read
no_image base path (Err why) read program made = cc

-- Nothing is found from what was, where that never leads to a value.
not_from : {W A B : Type 0} (Finds : Result A (AnyFault W) → Type 0) (Next : A → Result B (AnyFault W) → Type 0)
    (first : Result A (AnyFault W))
    → ((a : A) → Finds (Ok a) → NeverFound (Next a)) → Finds first → NeverFound (IsFoundFrom first Next)
not_from Finds Next (Err why) never finds value found = cc
not_from Finds Next (Ok a) never finds value found = never a finds value found

-- Nothing is found after what never leads to a value.
not_after : {W A B : Type 0} (Finds : Result A (AnyFault W) → Type 0) (Next : A → Result B (AnyFault W) → Type 0)
    → ((a : A) → Finds (Ok a) → NeverFound (Next a)) → NeverFound (After Finds Next)
not_after Finds Next never value found = not_from Finds Next found.0 never found.1 value found.2

-- No program is found of the one piece at a path.
no_piece : {W : Type 0} (base : ℕ) (path : FilePath) → NeverFound (IsImageAt {W = W} none base path)
no_piece base path program found = no_image base path found.bytes found.read program found.made

-- No program is found.
no_program : {W : Type 0} (base : ℕ) (asked : ProgramArgs) → NeverFound (IsProgramAt {W = W} none base asked)
no_program base asked =
    not_after (IsImageAt none base asked.image) (λ image. IsWithPieces none image asked.also.items)
    (λ image is program added. no_piece base asked.image image is)

-- No input of a subcommand that reads a capture is found.
no_input : (format : Format) (program : ProgramArgs) (only symbols : Option FilePath) (capture : FilePath)
    → NeverFound (IsCaptureInput none format program only symbols capture)
no_input format program only symbols capture =
    not_after (IsAskedBase format program)
    (λ base. After (IsOnly only) (IsInputAt none program symbols capture base)) (λ base based.
    not_after (IsOnly only) (IsInputAt none program symbols capture base) (λ harts chosen.
    not_after (IsProgramAt none base program) (IsInputWith none symbols capture harts)
    (λ image is input found. no_program base program image is)))

-- No capture is found that was sent.
no_sent : (asked : AskedAudit) → NeverFound (IsSentOf none asked)
no_sent asked =
    not_after (IsRead none asked.sent) (IsFoundSent asked.sent) (λ bytes read sent found. no_bytes asked.sent bytes read)

-- No program is found that is asked for with logs.
no_asked : {W : Type 0} (most : ℕ) (asked : ProgramArgs) (paths : List FilePath)
    → NeverFound (IsAskedProgram {W = W} none most asked paths)
no_asked most asked paths =
    not_after (IsBase asked) (λ base. After (AreFew most paths) (λ _. IsProgramAt none base asked)) (λ base is.
    not_after (AreFew most paths) (λ _. IsProgramAt none base asked) (λ few counted. no_program base asked))

-- No input of `check` is found.
no_checked : (asked : AskedCheck) → NeverFound (IsCheckInput none asked)
no_checked asked =
    not_after (IsAskedProgram none _ asked.program asked.logs.items) (IsCheckInputWith none asked.symbols)
    (λ program is input found. no_asked _ asked.program asked.logs.items program is)

-- No logs are found.
no_logs : {W : Type 0} (rows most : ℕ) (asked : ProgramArgs) (paths : List FilePath)
    → NeverFound (AreAskedLogsUpTo {W = W} rows none most asked paths)
no_logs rows most asked paths =
    not_after (IsAskedProgram none most asked paths) (λ program. AreLegalLogsUpTo rows none program paths)
    (λ program is logs legal. no_asked most asked paths program is)

-- No logs of a part are found.
no_part : (asked : AskedEncode) → NeverFound (ArePartLogs none asked)
no_part asked =
    let after_base = λ (base : ℕ). After (IsMostLogs asked) (AreLogsOf none asked) in
    not_after (IsPart asked) (λ part. After (IsBase asked.program) after_base) (λ part is.
    not_after (IsBase asked.program) after_base (λ base based.
    not_after (IsMostLogs asked) (AreLogsOf none asked) (λ most found.
    no_logs (most_of asked.long) most asked.program asked.logs.items)))

-- No run ends well whose input, once found, leads to no such end.
not_going : {W A : Type 0} (Finds : Result A (AnyFault W) → Type 0) (next : A → AnyPrinted W → Type 0)
    (printed : AnyPrinted W) (status : Status) (found : Result A (AnyFault W)) → printed.ended ≡ Ok status
    → ((a : A) → Finds (Ok a) → next a printed → ⊥) → Finds found → GoesOn found next printed → ⊥
not_going {W} Finds next printed status (Err why) ended never finds goes =
    let stopped : printed.ended ≡ Err why = ap (λ (p : AnyPrinted W). p.ended) goes in cc
not_going Finds next printed status (Ok a) ended never finds goes = never a finds goes

-- It is so of what is found first.
not_first : {W A : Type 0} (Finds : Result A (AnyFault W) → Type 0) (next : A → AnyPrinted W → Type 0)
    (printed : AnyPrinted W) (status : Status) → printed.ended ≡ Ok status
    → ((a : A) → Finds (Ok a) → next a printed → ⊥) → First Finds next printed → ⊥
not_first Finds next printed status ended never prints =
    not_going Finds next printed status prints.0 ended never prints.1 prints.2

-- What ends with a status among the ends of all subcommands ends so.
same_status : {W : Type 0} (to : W → CommandReason) (status : Status) (ended : Result Status (AnyFault W))
    → Ok status ≡ joined_end to ended → ended ≡ Ok status
same_status to status (Ok own) is = cc
same_status to status (Err why) is = cc

-- What is printed with a status was printed so by its subcommand.
ends_so : {W : Type 0} (to : W → CommandReason) (text : List ℕ) (status : Status) (own : AnyPrinted W)
    → ◌≡◌ {A = Printed} (record { text = text; ended = Ok status }) (joined_printed to own)
    → own.ended ≡ Ok status
ends_so to text status own is =
    same_status to status own.ended (ap (λ (p : Printed). p.ended) is)

-- No lines that are written as they come end well.
not_streamed : (asked : AskedCapture) (settings : Settings) (printed : lines.Printed) (status : Status)
    → printed.ended ≡ Ok status → (read : Result (List ℕ) lines.Fault) → IsRead none asked.lines read
    → WritesStream (none asked.lines.now) asked.lines settings asked.skip read printed → ⊥
not_streamed asked settings printed status ended (Ok text) is writes = no_bytes asked.lines text is
not_streamed asked settings printed status ended (Err why) is (inl quiet) =
    let stopped : printed.ended ≡ Err why = ap (λ (p : lines.Printed). p.ended) quiet in cc
not_streamed asked settings printed status ended (Err why) is (inr cut) =
    let stopped : printed.ended ≡ Err why = ap (λ (p : lines.Printed). p.ended) cut.is in cc

-- No lines do.
not_lines : (streamed : Bool) (asked : AskedCapture) (settings : Settings) (printed : lines.Printed) (status : Status)
    → printed.ended ≡ Ok status → capturing.WritesLines streamed none asked settings printed → ⊥
not_lines true asked settings printed status ended prints =
    not_streamed asked settings printed status ended prints.0 prints.1 prints.2
not_lines false asked settings printed status ended prints =
    not_first (IsRead none asked.lines) (WritesCapture asked.lines settings) printed status ended
    (λ text read written. no_bytes asked.lines text read) prints

-- No messages are compared.
not_audited : (live : Bool) (asked : AskedAudit) (harts : HartRange) (printed : audits.Printed) (status : Status)
    → printed.ended ≡ Ok status → AuditsAs live none asked harts printed → ⊥
not_audited true asked harts printed status ended quiet =
    let stopped : printed.ended ≡ Err (fault.Unreadable asked.sent) =
    ap (λ (p : audits.Printed). p.ended) quiet in cc
not_audited false asked harts printed status ended prints =
    not_first (IsSentOf none asked)
    (AuditsSent (Writes asked.format asked.unnumbered asked harts) none asked harts) printed status ended
    (λ sent is written. no_sent asked sent is) prints

-- Nothing is carried out to its end but `generate`.
not_ended : (asked : Asked) (status : Status) (old new : Option (List ℕ)) → IsCarriedOut none asked (Ok status) old new
    → IsGenerate asked
not_ended (Check asked) status old new done =
    let own = done.prints.own in
    let ends = ends_so Log done.text status own done.prints.is in
    not_first (IsCheckInput none asked)
    (λ input. WritesLines (most_of asked.long) none asked.explain input asked.logs.items)
    own status ends (λ input is lines. no_checked asked input is) done.prints.prints
not_ended (Encode asked) status old new done =
    let own = done.prints.own in
    let ends = ends_so Log done.text status own done.prints.is in
    not_first (ArePartLogs none asked) (WritesMessages asked) own status ends
    (λ logs are messages. no_part asked logs are) done.prints.prints
not_ended (Dump asked) status old new done =
    let own = done.prints.own in
    let ends = ends_so Capture done.text status own done.prints.is in
    not_first (IsOnly asked.only) (DumpsHarts none asked) own status ends
    (λ harts is prints. not_first (AreSymbols none asked.symbols) (DumpsNamed none asked harts) own status ends
    (λ symbols found prints. not_first (IsRead none asked.capture) (WritesDumpOf asked.search symbols harts) own status ends
    (λ bytes read dump. no_bytes asked.capture bytes read) prints) prints) done.prints.prints
not_ended (Decode asked) status old new done =
    let own = done.prints.own in
    let ends = ends_so Capture done.text status own done.prints.is in
    not_first (IsDecodeInput none asked) (DecodesInput asked) own status ends
    (λ input is written. no_input Text asked.program asked.only None asked.capture input is) done.prints.prints
not_ended (Replay asked) status old new done =
    let own = done.prints.own in
    let ends = ends_so Log done.text status own done.prints.is in
    not_first (AreAskedLogsUpTo most_rows none _ asked.program asked.logs.items)
    (ReplaysLogs none asked)
    own status ends
    (λ logs are report. no_logs most_rows _ asked.program asked.logs.items logs are)
    done.prints.prints
not_ended (Bench asked) status old new done =
    let own = done.prints.own in
    let ends = ends_so Log done.text status own done.prints.is in
    not_first (AreAskedLogsUpTo most_rows none _ asked.program asked.logs.items)
    (BenchesLogs asked)
    own status ends
    (λ logs are report. no_logs most_rows _ asked.program asked.logs.items logs are)
    done.prints.prints
not_ended (Audit asked) status old new done =
    let own = done.prints.own in
    let ends = ends_so Path done.text status own done.prints.is in
    not_first (IsFormat asked.format) (λ _. First (IsOnly asked.only) (AuditsAsked none asked)) own status ends
    (λ _ is prints. not_first (IsOnly asked.only) (AuditsAsked none asked) own status ends
    (λ harts only prints. not_first (IsLive asked) (λ _. AuditsAs asked.live none asked harts) own status ends
    (λ _ goes prints. not_audited asked.live asked harts own status ends prints) prints) prints) done.prints.prints
not_ended (Measure asked) status old new done =
    let own = done.prints.own in
    let ends = ends_so Log done.text status own done.prints.is in
    not_first (AreAskedLogsUpTo (most_of asked.long) none _ asked.program asked.logs.items)
    (WritesTable asked) own status ends
    (λ logs are table. no_logs (most_of asked.long) _ asked.program asked.logs.items logs are)
    done.prints.prints
not_ended (Listing asked) status old new done =
    let own = done.prints.own in
    let ends = ends_so Capture done.text status own done.prints.is in
    not_first (IsListInput none asked) (ListsInput asked) own status ends
    (λ input is listed. no_input asked.format asked.program asked.only asked.symbols asked.capture input is)
    done.prints.prints
not_ended (Salvage asked) status old new done =
    let own = done.prints.own in
    let ends = ends_so Capture done.text status own done.prints.is in
    not_first (IsSalvageInput none asked) (SalvagesInput asked) own status ends
    (λ input is salvaged. no_input asked.format asked.program asked.only asked.symbols asked.capture input is)
    done.prints.prints
not_ended (asked_for.Capture asked) status old new done =
    let own = done.prints.own in
    let ends = ends_so Line done.text status own done.prints.is in
    not_first (AreSettings asked) (capturing.WritesLines (is_streamed asked) none asked) own status ends
    (λ settings are prints. not_lines (is_streamed asked) asked settings own status ends prints) done.prints.prints
not_ended (asked_for.Compare asked) status old new done =
    let own = done.prints.own in
    let ends = ends_so Capture done.text status own done.prints.is in
    not_first (IsCompareInput none asked) (ComparesInput none asked) own status ends
    (λ input is compared. no_input Text asked.program asked.only asked.symbols asked.capture input is)
    done.prints.prints
not_ended (asked_for.Generate asked) status old new done = tt

-- No reason ends with status 0.
reason_faulty : (why : CommandReason) → code_of (command_reason_status why) ≢ 0
reason_faulty Words = λ is. omega arith
reason_faulty (Log (log.Schedule why)) = λ is. omega arith
reason_faulty (Log log.LargeSchedule) = λ is. omega arith
reason_faulty (Log (log.Unsent why)) = λ is. omega arith
reason_faulty (Log log.FirstAlone) = λ is. omega arith
reason_faulty (Log (log.ManyHarts most)) = λ is. omega arith
reason_faulty (Log (log.FirstHart harts)) = λ is. omega arith
reason_faulty (Log log.Product) = λ is. omega arith
reason_faulty (Log log.Mix) = λ is. omega arith
reason_faulty (Log (log.Stray option)) = λ is. omega arith
reason_faulty (Capture capture.Header) = λ is. omega arith
reason_faulty (Capture (capture.Message number why)) = λ is. omega arith
reason_faulty (Capture (capture.Unclosed hart)) = λ is. omega arith
reason_faulty (Capture (capture.Logs logs harts)) = λ is. omega arith
reason_faulty (Capture (capture.NoHart harts)) = λ is. omega arith
reason_faulty (Path (audit.Damaged path)) = λ is. omega arith
reason_faulty (Path (audit.Sent sent why)) = λ is. omega arith
reason_faulty (Path (audit.NoHart sent harts)) = λ is. omega arith
reason_faulty (Path audit.LiveUnnumbered) = λ is. omega arith
reason_faulty (Path audit.LiveTable) = λ is. omega arith
reason_faulty (Path audit.WindowAlone) = λ is. omega arith
reason_faulty (Line (line.ManyHarts most)) = λ is. omega arith
reason_faulty (Line line.SkipAlone) = λ is. omega arith
reason_faulty (Line (line.Line path number why)) = λ is. omega arith
reason_faulty (Line (line.Skipped path count)) = λ is. omega arith

-- No fault ends with status 0.
faulty : (why : Fault) → code_of (status_of why) ≢ 0
faulty (fault.Own why) = reason_faulty why
faulty fault.Format = λ is. omega arith
faulty fault.Base = λ is. omega arith
faulty fault.Only = λ is. omega arith
faulty fault.NoLogs = λ is. omega arith
faulty (fault.ManyLogs most) = λ is. omega arith
faulty (fault.Unreadable path) = λ is. omega arith
faulty (fault.Image why) = λ is. omega arith
faulty (fault.Piece path why) = λ is. omega arith
faulty (fault.Log path why) = λ is. omega arith
faulty (fault.Illegal path why) = λ is. omega arith
faulty (fault.Symbols path why) = λ is. omega arith
faulty fault.Output = λ is. omega arith
faulty fault.Memory = λ is. omega arith

-- What was carried out of no files ended with status 0 only where it was `generate`.
ended_faulty : (asked : Asked) (ended : Result Status Fault) (old new : Option (List ℕ))
    → IsCarriedOut none asked ended old new → code_of (final_status ended) ≡ 0 → IsGenerate asked
ended_faulty asked (Ok status) old new done is = not_ended asked status old new done
ended_faulty asked (Err why) old new done is = absurd (faulty why is)

-- What the words ask for ended with status 0 only where it was `generate`.
not_done : {E : Type 0} (words : List (List ℕ)) (code : ℕ) (old new : Option (List ℕ))
    (contents : E → Option (List ℕ)) (err_old err_new : E)
    → AreCarriedOut none words code old new contents err_old err_new → code ≡ 0 → AskGenerate words
not_done words code old new contents err_old err_new carried is = (
  carried.asked,
  carried.asks,
  ended_faulty carried.asked carried.done.ended old new carried.done.carried
      (ap code_of (sym carried.done.ends) ∙ (sym carried.coded ∙ is)),
)

-- Words that are refused do not end with status 0.
not_refused : {M : Type 0} (code : ℕ) → (code ≡ 2) ⊎ ((code ≡ 3) × M) → code ≢ 0
not_refused code (inl two) = λ is. omega arith
not_refused code (inr three) = let machine : code ≡ 3 = three.0 in λ is. omega arith

-- Nothing but `generate` ends with status 0 where no file is left on the shelf.
pub not_whole : {F E R K M N L : Type 0} (f : F → List ℕ × List ℕ) (files : List F) (words : List (List ℕ)) (code : ℕ)
    (old new : Option (List ℕ)) (contents : E → Option (List ℕ)) (err_old err_new : E) → files ≡ []
    → (R → K × ((code ≡ 2) ⊎ ((code ≡ 3) × M)))
    → R ⊎ (((code ≡ 3) × N × L)
    ⊎ AreCarriedOut (λ path. content_in (map f files) path) words code old new contents err_old err_new)
    → code ≡ 0 → AskGenerate words
not_whole f files words code old new contents err_old err_new gone refusal (inl refused) is =
    absurd (not_refused code (refusal refused).1 is)
not_whole f files words code old new contents err_old err_new gone refusal (inr (inl memory)) is =
    let machine : code ≡ 3 = memory.0 in let never : ⊥ = omega arith in absurd never
not_whole f files words code old new contents err_old err_new gone refusal (inr (inr carried)) is =
    not_done words code old new contents err_old err_new (subst (λ left. AreCarriedOut
    (λ path. content_in (map f left) path) words code old new contents err_old err_new) gone carried) is
