-- The lines of logs that were checked, by the verdicts on them.
use Rattle.std.proofs.Common.{◌≡◌, inl, inr, refl, ℕ, ◌+◌, ◌<◌, ◌≤◌, ◌||◌, Bool, true, false, sym, ap, ◌∙◌, subst, List}
use Rattle.std.proofs.Common.{[], ◌∷◌, ◌++◌, Option, Some, None, Result, Ok, Err, length, get_or, take, drop, slice_get}
use Rattle.std.proofs.Common.{arith}
use Rattle.std.specs.Prelude.{◌⊎◌, IfErr, OnOk, if◌then◌else◌, is_err, ⊤}
use Rattle.std.specs.Io.KnownBytes.{Appends, Keeps}
use Rattle.std.specs.List.{AllZip, flat_map, list_any, zip}
use Rattle.std.proofs.KnownBytes.{Appends-trans}
use Rattle.std.proofs.Math.Bool.{or-false}
use Rattle.std.proofs.lemmas.List.{append-nil, drop_more, take-append-drop, take_all, take_more}
use Rattle.std.proofs.lemmas.List.Concat.{flat_map-append}
use Rattle.std.proofs.lemmas.List.Folds.{list_any-append}
use Rattle.std.proofs.lemmas.Slice.Zip.{get_or-zip}
use Rattle.explaining.proofs.RowLemmas.{explanation-of_row}
use Rattle.log_streams.specs.Made.{AreMade, IsMadeOf, IsMadeOfIllegal, IsMadeOfLegal, IsStopped}
use Rattle.log_streams.specs.Refusing.{MayStop}
use Rattle.log_streams.specs.declared.logs_fault.LogsFault.{LogsFault}
use Rattle.log_streams.specs.declared.stop.Stop.{Stop}
use Rattle.log_streams.specs.declared.stop.Stop.TheVariants as stop
use Rattle.log_streams.specs.Known.{Content}
use Rattle.output.specs.Begun.{AppendsBeginning}
use Rattle.output.proofs.Beginnings.{begun_between}
use Rattle.command_inputs.proofs.Runs.{appends-keeps}
use Rattle.command_inputs.proofs.StreamLemmas.{front_by_place, log_read_in, log_unread_in, parted_at}
use Rattle.command_inputs.specs.Begun.{BeginsPrinted}
use Rattle.command_inputs.specs.Faults.{Path, stop_fault}
use Rattle.command_inputs.specs.FoundLogs.{IsLogUpTo}
use Rattle.command_inputs.specs.Judged.{IsJudgedUpTo, Judged}
use Rattle.command_inputs.specs.Printed.{PrintsUnlessDenied}
use Rattle.command_inputs.specs.declared.fault.Fault.TheVariants as fault
use Rattle.command_inputs.specs.declared.status.Status.{Status}
use Rattle.command_inputs.specs.declared.status.Status.TheVariants.{Refused}
use Rattle.log_commands.specs.declared.reason.LogReason.{LogReason}
use Rattle.log_commands.specs.Checking.{AppendsFirstLines, CheckInput, ChecksAll, WritesFirstLines, WritesLines, check_lines}
use Rattle.log_commands.specs.Checking.{is_illegal, status_with, verdict_line}
use Rattle.log_commands.specs.steps.Checked.{IsVerdictOnLegal, Verdict, all_lines, is_refused, lines_of, verdict_lines}

-- The status with one log more.
status_more : (before now : Bool) → status_with (before || now) ≡ (if now then Refused else status_with before)
status_more true true = refl
status_more true false = refl
status_more false true = refl
status_more false false = refl

-- A verdict on an illegal log is an error.
refused_is_err : (verdict : Verdict) → is_err verdict ≡ is_refused verdict
refused_is_err (Ok count) = refl
refused_is_err (Err row) = refl

-- How a run ends with one log more.
ended_more : (verdicts : List Verdict) (i : ℕ) (d : Verdict) → i < length verdicts
    → status_with (list_any is_refused (take (i + 1) verdicts))
    ≡ (if is_refused (get_or verdicts i d) then Refused else status_with (list_any is_refused (take i verdicts)))
ended_more verdicts i d within =
    let before = take i verdicts in
    let one = get_or verdicts i d in
    ap (λ verdicts. status_with (list_any is_refused verdicts)) (take_more verdicts i d within)
    ∙ ap status_with (list_any-append is_refused before (one ∷ [])
    ∙ ap (λ b. list_any is_refused before || b) (or-false (is_refused one)))
    ∙ status_more (list_any is_refused before) (is_refused one)

-- How it ends, where the loop looks at the verdict.
pub status_next : (verdicts : List Verdict) (i : ℕ) (d : Verdict) (before now : Status) (err : Bool)
    → i < length verdicts → before ≡ status_with (list_any is_refused (take i verdicts))
    → err ≡ is_err (get_or verdicts i d) → now ≡ (if err then Refused else before)
    → now ≡ status_with (list_any is_refused (take (i + 1) verdicts))
status_next verdicts i d before now err within ended is next =
    next ∙ ap (λ b. if b then Refused else before) (is ∙ refused_is_err (get_or verdicts i d))
    ∙ ap (λ before. if is_refused (get_or verdicts i d) then Refused else before) ended
    ∙ sym (ended_more verdicts i d within)

-- There are as many pairs as there are verdicts.
pairs_long : {A B : Type 0} (xs : List A) (ys : List B) → length ys ≤ length xs → length (zip xs ys) ≡ length ys
pairs_long [] [] few = refl
pairs_long [] (y ∷ ys) few = absurd (omega (arith, few))
pairs_long (x ∷ xs) [] few = refl
pairs_long (x ∷ xs) (y ∷ ys) few = omega (arith, pairs_long xs ys (omega (arith, few)))

module _ (explain : Bool) (input : CheckInput) where
  -- The text of logs with the verdicts on them.
  abbrev text_of : List (Path × Verdict) → List ℕ
  text_of logs = flat_map (lines_of explain input) logs

  -- The lines of all logs are written.
  pub all_written : (paths : List Path) (verdicts : List Verdict) (i : ℕ) (old new : Option (List ℕ))
      → length verdicts ≤ length paths → length verdicts ≤ i
      → Appends old new (flat_map (lines_of explain input) (take i (zip paths verdicts)))
      → Appends old new (all_lines explain input paths verdicts)
  all_written paths verdicts i old new few past written =
      let long = pairs_long paths verdicts few in
      subst (λ logs. Appends old new (text_of logs)) (take_all i (zip paths verdicts) (omega (arith, long, past)))
      written

  module _ (paths : List Path) (verdicts : List Verdict) (i : ℕ) (path : Path) (verdict : Verdict)
      (few : length verdicts ≤ length paths) (within : i < length verdicts) where
    abbrev logs : List (Path × Verdict)
    logs = zip paths verdicts

    inside : i < length logs
    inside = omega (arith, within, pairs_long paths verdicts few)

    here : lines_of explain input (get_or logs i (path, verdict))
        ≡ verdict_lines explain input (get_or paths i path).now (get_or verdicts i verdict)
    here = ap (lines_of explain input)
        (get_or-zip paths verdicts i (path, verdict) (omega (arith, within, few)) within)

    text_more : text_of (take (i + 1) logs)
        ≡ text_of (take i logs) ++ verdict_lines explain input (get_or paths i path).now (get_or verdicts i verdict)
    text_more =
        ap text_of (take_more logs i (path, verdict) inside)
        ∙ flat_map-append (lines_of explain input) (take i logs) (get_or logs i (path, verdict) ∷ [])
        ∙ ap (λ one. text_of (take i logs) ++ one)
        (append-nil (lines_of explain input (get_or logs i (path, verdict))) ∙ here)

    text_parts : text_of logs ≡ text_of (take i logs)
        ++ (verdict_lines explain input (get_or paths i path).now (get_or verdicts i verdict)
        ++ text_of (drop (i + 1) logs))
    text_parts =
        ap text_of (sym (take-append-drop i logs)
        ∙ ap (λ rest. take i logs ++ rest) (drop_more logs i (path, verdict) inside))
        ∙ flat_map-append (lines_of explain input) (take i logs)
        (get_or logs i (path, verdict) ∷ drop (i + 1) logs)
        ∙ ap (λ one. text_of (take i logs) ++ (one ++ text_of (drop (i + 1) logs))) here

    -- The lines of one log more are written.
    pub log_more : (old mid new : Option (List ℕ))
        → Appends old mid (flat_map (lines_of explain input) (take i (zip paths verdicts)))
        → Appends mid new
        (verdict_lines explain input (get_or paths i path).now (get_or verdicts i verdict))
        → Appends old new (flat_map (lines_of explain input) (take (i + 1) (zip paths verdicts)))
    log_more old mid new before one =
        subst (Appends old new) (sym text_more)
        (Appends-trans old mid new (text_of (take i logs))
        (verdict_lines explain input (get_or paths i path).now (get_or verdicts i verdict)) before one)

    -- A prefix of the lines of one log more is written.
    pub log_begun : (old mid new : Option (List ℕ))
        → Appends old mid (flat_map (lines_of explain input) (take i (zip paths verdicts)))
        → AppendsBeginning (verdict_lines explain input (get_or paths i path).now (get_or verdicts i verdict)) mid new
        → AppendsBeginning (all_lines explain input paths verdicts) old new
    log_begun old mid new before begun =
        subst (λ text. AppendsBeginning text old new) (sym text_parts)
        (begun_between (text_of (take i logs))
        (verdict_lines explain input (get_or paths i path).now (get_or verdicts i verdict))
        (text_of (drop (i + 1) logs)) old mid new before begun)

-- Only the first things have others beside them.
zip_front : {A B : Type 0} (xs : List A) (ys : List B) → zip xs ys ≡ zip (take (length ys) xs) ys
zip_front [] [] = refl
zip_front [] (y ∷ ys) = refl
zip_front (x ∷ xs) [] = refl
zip_front (x ∷ xs) (y ∷ ys) = ap (λ pairs. (x, y) ∷ pairs) (zip_front xs ys)

module _ (most : ℕ) (content : Content) (explain : Bool) (input : CheckInput) where
  -- The log at a path was read and checked by the program, and this is the verdict on it.
  pub record IsVerdictAt (path : Path) (verdict : Verdict) : Type 0 where
    pub log : Judged
    pub judged : IsJudgedUpTo most content input.program path log
    pub lines : verdict_lines explain input path.now verdict ≡ check_lines explain input log
    pub illegal : is_refused verdict ≡ is_illegal log

  legal_verdict : (path : Path) (hart : ℕ) (verdict : Verdict)
      → IsMadeOfLegal (λ hart. IsVerdictOnLegal) (content path.now) input.program most hart verdict
      → IsVerdictAt path verdict
  legal_verdict path hart verdict is =
      let counted : verdict ≡ Ok (length is.events) = is.makes in record {
        log = record { path = path.now; events = is.events; illegal = None };
        judged = record {
          named = refl;
          read = log_read_in most content path is.events is.read;
          verdict = is.legal.legal;
        };
        lines = ap (verdict_lines explain input path.now) counted
            ∙ sym (append-nil (verdict_line path.now (length is.events) None));
        illegal = ap is_refused counted;
      }

  illegal_verdict : (path : Path) (verdict : Verdict)
      → IsMadeOfIllegal (λ events row verdict. verdict ≡ Err row) (content path.now) input.program most verdict
      → IsVerdictAt path verdict
  illegal_verdict path verdict is =
      let row = is.row in
      let at = is.illegal in record {
        log = record { path = path.now; events = is.events; illegal = Some row.fault };
        judged = record {
          named = refl;
          read = log_read_in most content path is.events is.read;
          verdict = record {
            front = at.front;
            event = row.event;
            rest = at.rest;
            whole = at.whole;
            legal = at.legal;
            counted = at.counted;
            reason = at.reason;
          };
        };
        lines = ap (verdict_lines explain input path.now) is.makes
            ∙ ap (λ line. verdict_line path.now 0 (Some row.fault) ++ (if explain then line else []))
            (explanation-of_row input.symbols input.program is.events row.before row.event row.fault (record {
              front = at.front;
              rest = at.rest;
              whole = at.whole;
              counted = at.counted;
              last = at.before;
            }));
        illegal = ap is_refused is.makes;
      }

  verdict_at : (path : Path) (hart : ℕ) (verdict : Verdict)
      → IsMadeOf (λ hart. IsVerdictOnLegal) (λ events row verdict. verdict ≡ Err row) (content path.now) input.program
      most hart (Ok verdict)
      → IsVerdictAt path verdict
  verdict_at path hart verdict (inl is) = legal_verdict path hart verdict is
  verdict_at path hart verdict (inr is) = illegal_verdict path verdict is

  -- The logs on which these are the verdicts.
  record AllChecked (paths : List Path) (verdicts : List Verdict) : Type 0 where
    pub logs : List Judged
    pub judged : AllZip (IsJudgedUpTo most content input.program) paths logs
    pub lines : all_lines explain input paths verdicts ≡ flat_map (check_lines explain input) logs
    pub illegal : list_any is_refused verdicts ≡ list_any is_illegal logs

  all_checked : (paths : List Path) (verdicts : List Verdict) → AllZip IsVerdictAt paths verdicts
      → AllChecked paths verdicts
  all_checked [] [] all = record { logs = []; judged = tt; lines = refl; illegal = refl }
  all_checked [] (verdict ∷ verdicts) all = elim all [ ]
  all_checked (path ∷ paths) [] all = elim all [ ]
  all_checked (path ∷ paths) (verdict ∷ verdicts) all =
      let first = all.0 in
      let rest = all_checked paths verdicts all.1 in record {
        logs = first.log ∷ rest.logs;
        judged = (first.judged, rest.judged);
        lines = ap (λ text. text ++ all_lines explain input paths verdicts) first.lines
            ∙ ap (λ text. check_lines explain input first.log ++ text) rest.lines;
        illegal = ap (λ b. b || list_any is_refused verdicts) first.illegal
            ∙ ap (λ b. is_illegal first.log || b) rest.illegal;
      }

  -- There is no log at the path of one that is not read, unless an allocation failed. An illegal log is read.
  unread : (path : Path) (why : Stop) → MayStop ⊥ why → IsStopped (content path.now) input.program most why
      → (stop_fault {W = LogReason} path why ≡ fault.Memory)
      ⊎ IsLogUpTo {W = LogReason} most content path (Err (stop_fault path why))
  unread path (stop.Unread why) may is = log_unread_in most content path why is
  unread path (stop.Illegal why) may is = absurd may

  module _ (paths : List Path) (verdicts : List Verdict) (end : Result (Unit {0}) LogsFault)
      (are : AreMade (λ hart. IsVerdictOnLegal) (λ events row verdict. verdict ≡ Err row) content input.program most
      paths verdicts end) (old new : Option (List ℕ)) where
    -- The paths of the logs that were read.
    abbrev front : List Path
    front = take (length verdicts) paths

    checked : AllChecked front verdicts
    checked = all_checked front verdicts
        (front_by_place IsVerdictAt paths verdicts are.few
        (λ hart path verdict here there. verdict_at path hart verdict (are.each hart path verdict here there)))

    lines : all_lines explain input paths verdicts ≡ flat_map (check_lines explain input) checked.logs
    lines = ap (flat_map (lines_of explain input)) (zip_front paths verdicts) ∙ checked.lines

    -- The lines of the logs that were read are what a run of these logs prints.
    first_lines : ChecksAll most content explain input front (all_lines explain input paths verdicts)
        (status_with (list_any is_refused verdicts))
    first_lines = record {
      logs = checked.logs;
      judged = checked.judged;
      lines = lines;
      ended = ap status_with checked.illegal;
    }

    -- All logs were read, and their lines are written.
    pub lines_whole : (status : Status) → end ≡ Ok tt → status ≡ status_with (list_any is_refused verdicts)
        → Appends old new (all_lines explain input paths verdicts)
        → PrintsUnlessDenied (WritesLines most content explain input paths) ⊤ (Ok status) old new
    lines_whole status is same written =
        let text = all_lines explain input paths verdicts in
        let long : length verdicts ≡ length paths = are.all is in
        let all : front ≡ paths = take_all (length verdicts) paths (omega (arith, long)) in record {
          text = text;
          prints = subst (λ all. ChecksAll most content explain input all text status) all
              (subst (ChecksAll most content explain input front text) (sym same) first_lines);
          appended = written;
        }

    unread_at : (last : LogsFault) → slice_get paths (length verdicts) ≡ Some last.path
        → Appends old new (all_lines explain input paths verdicts)
        → (stop_fault {W = LogReason} last.path last.why ≡ fault.Memory)
        ⊎ IsLogUpTo {W = LogReason} most content last.path (Err (stop_fault last.path last.why))
        → PrintsUnlessDenied (WritesLines most content explain input paths) ⊤
        (Err (stop_fault last.path last.why)) old new
    unread_at last there written (inl denied) = inl (inl denied)
    unread_at last there written (inr none) =
        let parted = parted_at paths (length verdicts) last.path there in inr (record {
          text = all_lines explain input paths verdicts;
          prints = record {
            front = front;
            path = last.path;
            rest = parted.0;
            logs = checked.logs;
            whole = parted.1;
            judged = checked.judged;
            lines = lines;
            unread = none;
          };
          appended = written;
        })

    -- A log was not read. The lines of those before it are written.
    pub lines_unread : (last : LogsFault) → end ≡ Err last → MayStop ⊥ last.why
        → Appends old new (all_lines explain input paths verdicts)
        → PrintsUnlessDenied (WritesLines most content explain input paths) ⊤
        (Err (stop_fault last.path last.why)) old new
    lines_unread last is may written =
        let stop = subst (λ end. IfErr end (λ last. (slice_get paths (length verdicts) ≡ Some last.path)
        × IsMadeOf (λ hart. IsVerdictOnLegal) (λ events row (verdict : Verdict). verdict ≡ Err row)
        (content last.path.now) input.program most (length verdicts) (Err last.why))) is are.fault in
        unread_at last stop.0 written (unread last.path last.why may stop.1)

    -- The lines of the logs that were read are written.
    pub lines_first : Appends old new (all_lines explain input paths verdicts)
        → AppendsFirstLines most content explain input paths old new
    lines_first written = record {
      front = front;
      rest = drop (length verdicts) paths;
      status = status_with (list_any is_refused verdicts);
      whole = sym (take-append-drop (length verdicts) paths);
      lines = record {
        text = all_lines explain input paths verdicts;
        prints = first_lines;
        appended = written;
      };
    }

    -- A prefix of the lines of the logs that were read is written.
    pub lines_cut : AppendsBeginning (all_lines explain input paths verdicts) old new
        → BeginsPrinted (WritesFirstLines most content explain input paths) old new
    lines_cut begun = record {
      printed = record {
        text = all_lines explain input paths verdicts;
        ended = Ok (status_with (list_any is_refused verdicts));
      };
      prints = record {
        front = front;
        rest = drop (length verdicts) paths;
        whole = sym (take-append-drop (length verdicts) paths);
        lines = first_lines;
      };
      begun = begun;
    }

-- A line is written, and then what explains it.
pub both_written : {A E : Type 0} (line more : List ℕ) (old mid new : Option (List ℕ)) (ended : Result A E)
    → Appends old mid line → OnOk ended (Appends mid new more) → OnOk ended (Appends old new (line ++ more))
both_written line more old mid new (Ok done) first next = Appends-trans old mid new line more first next
both_written line more old mid new (Err why) first next = tt

-- First lines were appended, and then nothing more.
pub lines_kept : (most : ℕ) (content : Content) (explain : Bool) (input : CheckInput) (paths : List Path)
    (old mid new : Option (List ℕ))
    → AppendsFirstLines most content explain input paths old mid → Keeps mid new
    → AppendsFirstLines most content explain input paths old new
lines_kept most content explain input paths old mid new begun kept = record {
  front = begun.front;
  rest = begun.rest;
  status = begun.status;
  whole = begun.whole;
  lines = record {
    text = begun.lines.text;
    prints = begun.lines.prints;
    appended = appends-keeps old mid new begun.lines.text begun.lines.appended kept;
  };
}
