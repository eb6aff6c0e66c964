-- What `compare` prints, from what was found.
use Rattle.std.proofs.Common.{◌≡◌, ◌∙◌, ◌⊎◌, ap, inr, refl, subst, sym, Bool, ℕ, List, Option, Result, Ok, Err, length}
use Rattle.std.proofs.lemmas.Bool.{eqb-true}
use Rattle.std.specs.Prelude.{⊤, ◌≢◌, ◌==◌, if◌then◌else◌, is_none, true, false}
use Rattle.command_inputs.specs.Faults.{Path}
use Rattle.capture_commands.specs.declared.reason.CaptureReason.TheVariants.{Logs}
use Rattle.output.specs.Begun.{AppendsBeginning}
use Rattle.bench.specs.Got.{Got}
use Rattle.captures.specs.declared.outcome.CaptureFault.{CaptureFault}
use Rattle.comparing.proofs.LineTexts.{harts_many, harts_numbered, sourced_whole}
use Rattle.comparing.proofs.NoneEarly.{none_early}
use Rattle.comparing.specs.Compared.{AreGotOf, is_compared_whole}
use Rattle.comparing.specs.Explained.{are_whole_sourced, explained_harts, explained_text}
use Rattle.comparing.specs.Sourced.{AreNumbered, AreSourced, StopsEarly}
use Rattle.comparing.specs.declared.explained.ExplainedHart.{ExplainedHart}
use Rattle.comparing.specs.declared.sourcing.SourcedHart.{SourcedHart}
use Rattle.message.specs.declared.range.HartRange.{HartRange}
use Rattle.rvclass.specs.Fetch.{words_of}
use Rattle.rvclass.specs.Image.{Image}
use Rattle.command_inputs.specs.declared.words.Compare.{Compare}
use Rattle.command_inputs.proofs.Beginnings.{cut_leads, printed_begun}
use Rattle.command_inputs.proofs.Runs.{ends_silently, leads_on}
use Rattle.command_inputs.specs.Begun.{IsCutOf}
use Rattle.command_inputs.specs.FoundLogs.{AreLegalLogsUpTo}
use Rattle.command_inputs.specs.Printed.{PrintsUnlessDenied}
use Rattle.command_inputs.specs.declared.fault.Fault.TheVariants as fault
use Rattle.command_inputs.specs.declared.status.Status.{Status}
use Rattle.log_streams.specs.Known.{Content}
use Rattle.capture_commands.specs.CountedHarts.{HasHartBelow}
use Rattle.capture_commands.specs.Faults.{Fault, Printed}
use Rattle.capture_commands.specs.Comparing.{CanCompareCapture, CanCompareHarts, ComparesCapture, ComparesHarts}
use Rattle.capture_commands.specs.Comparison.{AreAsMany, comparison_end, end_of_stop, rows_of}
use Rattle.capture_commands.specs.steps.Lines.{AreLinesOfLogs, WritesLines}

-- There are as many logs as harts.
pub as_many : (harts : ℕ) (paths : List Path) (u : Unit {0}) → AreAsMany harts paths (Ok u) → length paths ≡ harts
as_many harts paths u are = go (length paths == harts) refl are
  where
    go : (same : Bool) → (length paths == harts) ≡ same
        → Ok u ≡ (if same then Ok tt else Err (fault.Own (Logs (length paths) harts))) → length paths ≡ harts
    go true is found = eqb-true (length paths) harts is
    go false is found = cc

-- What is said of harts whose logs are legal has their numbers in order.
pub lines_numbered : (rows : ℕ) (content : Content) (program : Image) (paths : List Path) (hart : ℕ) (gots : List Got)
    (lines : List ExplainedHart) → AreLinesOfLogs rows content program paths hart gots lines → AreNumbered hart lines
lines_numbered rows content program paths hart gots lines are =
    subst (AreNumbered hart) (sym are.each) (harts_numbered hart gots are.logs)

-- And decoding none of them stops before the message at which decoding the capture stops.
pub lines_never_early : (rows : ℕ) (content : Content) (program : Image) (paths : List Path) (range : HartRange)
    (harts : ℕ) (bytes : List ℕ) (gots : List Got) (stop : Option (ℕ × CaptureFault)) (lines : List ExplainedHart)
    → AreLinesOfLogs rows content program paths range.first gots lines
    → AreGotOf range (words_of program) harts bytes gots stop → ¬ StopsEarly (words_of program) bytes stop lines
lines_never_early rows content program paths range harts bytes gots stop lines are got =
    none_early range (words_of program) harts bytes gots stop lines got
    (lines_numbered rows content program paths range.first gots lines are)
    (ap length are.each ∙ harts_many range.first gots are.logs are.many)

module _ (content : Content) (asked : Compare) (range : HartRange) (program : Image) (symbols : Option (List ℕ))
    (bytes : List ℕ) where
  -- The capture has none of the harts.
  pub no_hart_ends : (why : Fault) (ended : Result Status Fault) (old : Option (List ℕ)) → ended ≡ Err why
      → HasHartBelow asked.harts range bytes (Err why)
      → PrintsUnlessDenied (ComparesHarts content asked range program symbols bytes)
      (CanCompareHarts content asked range program bytes) ended old old
  no_hart_ends why ended old is none =
      ends_silently (ComparesHarts content asked range program symbols bytes)
      (CanCompareHarts content asked range program bytes) (HasHartBelow asked.harts range bytes (Err why)) why ended old is
      (inr none) (λ none. (Err why, none, refl))

  module _ (u : Unit {0}) (has : HasHartBelow asked.harts range bytes (Ok u)) where
    leads_through : (printed : Printed) → ComparesCapture content asked range program symbols bytes printed
        → ComparesHarts content asked range program symbols bytes printed
    leads_through printed writes = (Ok u, has, writes)

    -- It has one of them: what is printed of the capture is what is printed of the harts.
    pub capture_printed : (ended : Result Status Fault) (old new : Option (List ℕ))
        → PrintsUnlessDenied (ComparesCapture content asked range program symbols bytes)
        (CanCompareCapture content asked range program bytes) ended old new
        → PrintsUnlessDenied (ComparesHarts content asked range program symbols bytes)
        (CanCompareHarts content asked range program bytes) ended old new
    capture_printed ended old new =
        leads_on (ComparesCapture content asked range program symbols bytes) (ComparesHarts content asked range program symbols bytes)
        (CanCompareCapture content asked range program bytes) (CanCompareHarts content asked range program bytes) ended
        old new leads_through (λ can. (u, has, can))

    -- And a cut of it is one of that.
    pub capture_cut : (old new : Option (List ℕ)) → IsCutOf (ComparesCapture content asked range program symbols bytes) old new
        → IsCutOf (ComparesHarts content asked range program symbols bytes) old new
    capture_cut old new =
        cut_leads (ComparesCapture content asked range program symbols bytes) (ComparesHarts content asked range program symbols bytes)
        old new leads_through

module _ (content : Content) (asked : Compare) (range : HartRange) (program : Image) (symbols : Option (List ℕ))
    (bytes : List ℕ) (gots : List Got) (stop : Option (ℕ × CaptureFault))
    (got : AreGotOf range (words_of program) asked.harts bytes gots stop)
    (no_memory : end_of_stop stop ≢ Err fault.Memory) where
  abbrev Prints : Printed → Type 0
  Prints = ComparesCapture content asked range program symbols bytes

  abbrev Can : Type 0
  Can = CanCompareCapture content asked range program bytes

  -- The count of logs is another than that of the harts.
  pub count_ends : (why : Fault) (ended : Result Status Fault) (old : Option (List ℕ)) → ended ≡ Err why
      → AreAsMany (length gots) asked.logs.items (Err why) → PrintsUnlessDenied Prints Can ended old old
  count_ends why ended old is other =
      ends_silently Prints Can (AreAsMany (length gots) asked.logs.items (Err why)) why ended old is (inr other)
      (λ other. record {
        gots = gots;
        stop = stop;
        got = got;
        no_memory = no_memory;
        prints = (Err why, (Err why, other, refl), refl);
      })

  module _ (u : Unit {0}) (many : AreAsMany (length gots) asked.logs.items (Ok u)) where
    -- A log is not legal.
    pub logs_end : (why : Fault) (ended : Result Status Fault) (old : Option (List ℕ)) → ended ≡ Err why
        → (why ≡ fault.Memory) ⊎ AreLegalLogsUpTo (rows_of asked.long) content program asked.logs.items (Err why)
        → PrintsUnlessDenied Prints Can ended old old
    logs_end why ended old is refused =
        ends_silently Prints Can (AreLegalLogsUpTo (rows_of asked.long) content program asked.logs.items (Err why)) why
        ended old is refused
        (λ refused. record {
          gots = gots;
          stop = stop;
          got = got;
          no_memory = no_memory;
          prints = (Err why, (Ok u, many, refused), refl);
        })

    module _ (lines : List ExplainedHart) (harts : List SourcedHart)
        (are : AreLinesOfLogs (rows_of asked.long) content program asked.logs.items range.first gots lines)
        (sourced : AreSourced (words_of program) bytes stop lines harts) where
      of_logs : AreSourced (words_of program) bytes stop (explained_harts range.first gots are.logs) harts
      of_logs = subst (λ lines. AreSourced (words_of program) bytes stop lines harts) are.each sourced

      whole_is : are_whole_sourced (is_none stop) harts ≡ is_compared_whole stop gots are.logs
      whole_is = sourced_whole (words_of program) bytes range.first stop gots are.logs harts are.many of_logs

      leads : (printed : Printed) → WritesLines asked.explain symbols stop harts printed → Prints printed
      leads printed writes = record {
        gots = gots;
        stop = stop;
        got = got;
        no_memory = no_memory;
        prints = (
          Ok are.logs,
          (Ok u, many, are.legal),
          record {
            harts = harts;
            sourced = of_logs;
            is = writes
                ∙ ap (λ whole. record {
                  text = explained_text asked.explain symbols stop harts;
                  ended = comparison_end (end_of_stop stop) whole;
                }) whole_is;
          },
        );
      }

      -- The report is what is printed.
      pub report_printed : (ended : Result Status Fault) (old new : Option (List ℕ))
          → PrintsUnlessDenied (WritesLines asked.explain symbols stop harts) ⊤ ended old new
          → PrintsUnlessDenied Prints Can ended old new
      report_printed ended old new =
          leads_on (WritesLines asked.explain symbols stop harts) Prints ⊤ Can ended old new leads
          (λ there. record {
            gots = gots;
            stop = stop;
            got = got;
            no_memory = no_memory;
            logs = (are.logs, (Ok u, many, are.legal), tt);
          })

      -- Or a prefix of it.
      pub report_cut : (old new : Option (List ℕ))
          → AppendsBeginning (explained_text asked.explain symbols stop harts) old new → IsCutOf Prints old new
      report_cut old new begun =
          inr (printed_begun Prints (explained_text asked.explain symbols stop harts)
          (comparison_end (end_of_stop stop) (are_whole_sourced (is_none stop) harts)) old new (leads _ refl) begun)
