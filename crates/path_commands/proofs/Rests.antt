-- What is behind the rows of the messages, part by part.
use Rattle.std.proofs.Common.{◌≡◌, ℕ, ◌++◌, Bool, List, Option, ap, length, refl, subst, ◌∙◌}
use Rattle.std.specs.Prelude.{◌&&◌, ◌==◌, is_none, not}
use Rattle.std.proofs.KnownBytes.{Appends-trans}
use Rattle.std.specs.Io.KnownBytes.{Appends}
use Rattle.output.specs.Begun.{AppendsBeginning}
use Rattle.output.proofs.Beginnings.{begun_behind, begun_between, begun_in_front}
use Rattle.message.specs.declared.message.Message.{Message}
use Rattle.frames.specs.Counted.{messages_in}
use Rattle.auditing.specs.Known.{known_all}
use Rattle.auditing.specs.Ledger.{Ledger}
use Rattle.path_commands.specs.AuditText.{total_of, unless_summary}
use Rattle.path_commands.specs.ReceivedCapture.{ReceivedCapture, is_undamaged, is_whole_result}
use Rattle.path_commands.specs.OnlyHarts.{harts_among}
use Rattle.path_commands.specs.Rows.{all_run_rows, ending_of, ending_row, hart_rows, rows_behind}
use Rattle.path_commands.specs.Sides.{Sent, heads_differ}
use Rattle.path_commands.specs.declared.ending.Ending.{Ending}
use Rattle.path_commands.specs.declared.received.ReceivedSummary.{ReceivedSummary}
use Rattle.path_commands.specs.declared.report.Report.{Report}
use Rattle.path_commands.specs.declared.total.Total.{Total}
use Rattle.path_commands.specs.steps.Ending.{HasReceived}

-- What is counted, by how RECEIVED was read.
abbrev pub counted : ReceivedSummary → ℕ → Total → Bool → Bool → Ending
counted arrived harts total unlike whole = record {
  harts = harts;
  total = total;
  messages = arrived.read.messages;
  strangers = arrived.noted.strangers;
  bytes = arrived.read.bytes;
  runs = arrived.read.runs;
  unlike = unlike;
  first = arrived.noted.first;
  whole = whole;
}

module _ (path : Ledger) (report : Report) (sent : List Message) (arrived : ReceivedSummary) (came : ReceivedCapture)
    (has : HasReceived report.harts sent path arrived came) where
  abbrev both : Sent
  both = record { header = path.header; messages = sent }

  abbrev known : List Message
  known = known_all path.by sent

  abbrev received : List Message
  received = known_all path.by (messages_in came.spans)

  abbrev its : Ending
  its = ending_of path.by report.harts both came

  -- The parts, by the count of the harts.
  abbrev lost_of : ℕ → List ℕ
  lost_of count =
      unless_summary report.summary (all_run_rows report.format known received (harts_among report.harts count))

  abbrev rows_of : ℕ → List ℕ
  rows_of count = hart_rows report.format known received (harts_among report.harts count)

  abbrev lost : List ℕ
  lost = lost_of (length path.harts)

  abbrev rows : List ℕ
  rows = rows_of (length path.harts)

  -- They are those of the definition.
  parts_are : (last : Ending) → last ≡ its
      → lost ++ (rows ++ ending_row report.format last) ≡ rows_behind path.by report both came
  parts_are last is = λ i.
      lost_of (has.audits.count i) ++ (rows_of (has.audits.count i) ++ ending_row report.format (is i))

  -- A beginning of the first part.
  pub begun_lost : (old new : Option (List ℕ)) → AppendsBeginning lost old new
      → AppendsBeginning (rows_behind path.by report both came) old new
  begun_lost old new begun =
      subst (λ text. AppendsBeginning text old new) (parts_are its refl)
      (begun_in_front lost (rows ++ ending_row report.format its) old new begun)

  -- Of the second.
  pub begun_rows : (old mid new : Option (List ℕ)) → Appends old mid lost → AppendsBeginning rows mid new
      → AppendsBeginning (rows_behind path.by report both came) old new
  begun_rows old mid new first begun =
      subst (λ text. AppendsBeginning text old new) (parts_are its refl)
      (begun_between lost rows (ending_row report.format its) old mid new first begun)

  module _ (last : Ending) (is : last ≡ its) (old first second new : Option (List ℕ)) (one : Appends old first lost)
      (two : Appends first second rows) where
    -- Of the last.
    pub begun_ending : AppendsBeginning (ending_row report.format last) second new
        → AppendsBeginning (rows_behind path.by report both came) old new
    begun_ending begun =
        subst (λ text. AppendsBeginning text old new) (parts_are last is)
        (begun_behind lost (rows ++ ending_row report.format last) old first new one
        (begun_behind rows (ending_row report.format last) first second new two begun))

    -- All of it.
    pub all_written : Appends second new (ending_row report.format last)
        → Appends old new (rows_behind path.by report both came)
    all_written three =
        subst (Appends old new) (parts_are last is)
        (Appends-trans old first new lost (rows ++ ending_row report.format last) one
        (Appends-trans first second new rows (ending_row report.format last) two three))

  module _ (harts : ℕ) (total : Total) (unlike undamaged whole : Bool)
      (harts_is : harts ≡ length (harts_among report.harts (length path.harts)))
      (total_is : total ≡ total_of known received (harts_among report.harts (length path.harts)))
      (unlike_is : unlike ≡ heads_differ path.header arrived.header arrived.fault)
      (undamaged_is : undamaged ≡ (is_none arrived.fault && (arrived.read.bytes == 0)))
      (is : whole ≡ (total.whole && (arrived.noted.strangers == 0) && not unlike && undamaged)) where
    all_is : total ≡ its.total
    all_is = total_is ∙ ap (λ count. total_of known received (harts_among report.harts count)) has.audits.count

    unlike_came : unlike ≡ its.unlike
    unlike_came = unlike_is ∙ (λ i. heads_differ path.header (has.header i) (has.fault i))

    undamaged_came : undamaged ≡ is_undamaged came
    undamaged_came = undamaged_is ∙ (λ i. is_none (has.fault i) && (has.bytes i == 0))

    -- The result is whole, by what is counted.
    pub whole_is : whole ≡ is_whole_result path.by report.harts both came
    whole_is =
        is ∙ (λ i. (all_is i).whole && ((has.noted i).strangers == 0) && not (unlike_came i) && undamaged_came i)

    -- What is counted is what is found.
    pub ending_is : counted arrived harts total unlike whole ≡ its
    ending_is = λ i. record {
      harts = (harts_is ∙ ap (λ count. length (harts_among report.harts count)) has.audits.count) i;
      total = all_is i;
      messages = has.messages i;
      strangers = (has.noted i).strangers;
      bytes = has.bytes i;
      runs = has.runs i;
      unlike = unlike_came i;
      first = (has.noted i).first;
      whole = whole_is i;
    }
