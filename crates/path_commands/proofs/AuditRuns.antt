-- What `audit` prints, from what it wrote.
use Rattle.std.proofs.Common.{inl, inr, List, Option, Result, refl, sym, subst}
use Rattle.std.proofs.KnownBytes.{Appends-trans}
use Rattle.std.specs.Io.KnownBytes.{Appends}
use Rattle.std.specs.Prelude.{⊤, ℕ}
use Rattle.payload.specs.declared.by.By.{By}
use Rattle.message.specs.declared.range.HartRange.{HartRange}
use Rattle.output.specs.Begun.{AppendsBeginning}
use Rattle.output.proofs.Beginnings.{begun_behind, begun_in_front}
use Rattle.command_inputs.proofs.Runs.{prints}
use Rattle.command_inputs.specs.Begun.{IsCutOf}
use Rattle.command_inputs.specs.Printed.{PrintsUnlessDenied}
use Rattle.command_inputs.specs.declared.words.Audit.{Audit}
use Rattle.path_commands.specs.Faults.{Fault, Printed}
use Rattle.command_inputs.specs.declared.status.Status.{Status}
use Rattle.path_commands.specs.Audited.{WritesNumbered}
use Rattle.path_commands.specs.ReceivedCapture.{ReceivedCapture, IsReceivedCapture, is_whole_result}
use Rattle.path_commands.specs.Rows.{audit_rows, front_rows, rows_behind}
use Rattle.path_commands.specs.Sides.{Sent, by_packets, end_of_audit}
use Rattle.path_commands.specs.declared.report.Report.{Report}
use Rattle.path_commands.specs.steps.Ending.{EndsRest}

module _ (asked : Audit) (harts : HartRange) (sent : Sent) (bytes : List ℕ) (came : ReceivedCapture)
    (is : IsReceivedCapture (by_packets asked.packets) sent.messages bytes came) where
  abbrev how : By
  how = by_packets asked.packets

  abbrev report : Report
  report = record { format = asked.format; harts = harts; summary = asked.summary }

  abbrev front : List ℕ
  front = front_rows how report sent.messages came.spans

  abbrev behind : List ℕ
  behind = rows_behind how report sent came

  -- The text, and how the run ends.
  abbrev shown : Printed
  shown = record {
    text = audit_rows how report sent came;
    ended = end_of_audit asked.received came.fault (is_whole_result how harts sent came);
  }

  writes : WritesNumbered asked.format asked harts sent bytes shown
  writes = record { came = came; is_came = is; text = refl; ended = refl }

  -- Both parts of the text were written, or the output failed.
  pub audit_printed : (ended : Result Status Fault) (old mid new : Option (List ℕ)) → Appends old mid front
      → EndsRest how report asked.received sent came ended mid new
      → PrintsUnlessDenied (WritesNumbered asked.format asked harts sent bytes) ⊤ ended old new
  audit_printed ended old mid new first (inl output) =
      subst (λ e. PrintsUnlessDenied (WritesNumbered asked.format asked harts sent bytes) ⊤ e old new) (sym output)
      (inl (inr
      (refl, tt)))
  audit_printed ended old mid new first (inr rest) =
      prints (WritesNumbered asked.format asked harts sent bytes) ⊤ ended old new (record {
        text = audit_rows how report sent came;
        prints = record { came = came; is_came = is; text = refl; ended = rest.1 };
        appended = Appends-trans old mid new front behind first rest.0;
      })

  -- A beginning of the text was written.
  cut_of : (old new : Option (List ℕ)) → AppendsBeginning (audit_rows how report sent came) old new
      → IsCutOf (WritesNumbered asked.format asked harts sent bytes) old new
  cut_of old new begun = inr (record { printed = shown; prints = writes; begun = begun })

  pub cut_in_front : (old new : Option (List ℕ)) → AppendsBeginning front old new
      → IsCutOf (WritesNumbered asked.format asked harts sent bytes) old new
  cut_in_front old new begun = cut_of old new (begun_in_front front behind old new begun)

  pub cut_in_rest : (old mid new : Option (List ℕ)) → Appends old mid front → AppendsBeginning behind mid new
      → IsCutOf (WritesNumbered asked.format asked harts sent bytes) old new
  cut_in_rest old mid new first begun = cut_of old new (begun_behind front behind old mid new first begun)
