-- The rows of an audit's table are read back.
use Rattle.std.proofs.Common.{ℕ, ◌-◌, List, [], Bool, true, false, Option, codes, refl}
use Rattle.std.specs.Fmt.{decimal}
use Rattle.auditing.specs.declared.finding.Finding.{Finding}
use Rattle.auditing.specs.declared.finding.Finding.TheVariants as finding
use Rattle.auditing.specs.declared.arrival_line.Line.{Line}
use Rattle.auditing.specs.declared.arrival_line.Line.TheVariants as line
use Rattle.output.proofs.PlainFields.{IsPlain, bytes_plain, decimal_plain, number_plain, plain_read}
use Rattle.output.specs.ReadBack.{IsReadBack}
use Rattle.path_commands.specs.AlignedRows.{aligned_all_fields, aligned_fields, arrival_fields}
use Rattle.path_commands.specs.AuditRows.{all_fields, by_field, bytes_fields, came_field, columns, exchanged_fields}
use Rattle.path_commands.specs.AuditRows.{fate_field}
use Rattle.path_commands.specs.AuditRows.{hart_fields, headers_field, message_fields, result_fields, run_fields, sent_field}
use Rattle.path_commands.specs.AuditText.{sent_bytes, verdict_text}
use Rattle.path_commands.specs.ReadBack.{AreReadBack}

pub verdict_plain : (whole : Bool) → IsPlain (verdict_text whole)
verdict_plain true = refl
verdict_plain false = refl

pub headers_plain : (unlike : Bool) → IsPlain (headers_field unlike)
headers_plain true = refl
headers_plain false = refl

pub fate_plain : (its : Finding) → IsPlain (fate_field its)
fate_plain finding.Stranger = refl
fate_plain finding.Changed = refl
fate_plain finding.Repeat = refl
fate_plain (finding.Late by) = refl
fate_plain (finding.InOrder skips) = refl

pub by_plain : (its : Finding) → IsPlain (by_field its)
by_plain finding.Stranger = refl
by_plain finding.Changed = refl
by_plain finding.Repeat = refl
by_plain (finding.Late by) = decimal_plain by
by_plain (finding.InOrder skips) = decimal_plain skips

pub sent_plain : (sent : Option (List ℕ)) (its : Finding) → IsPlain (sent_field sent its)
sent_plain sent finding.Stranger = refl
sent_plain sent finding.Changed = bytes_plain (sent_bytes sent)
sent_plain sent finding.Repeat = refl
sent_plain sent (finding.Late by) = refl
sent_plain sent (finding.InOrder skips) = refl

pub came_plain : (came : List ℕ) (its : Finding) → IsPlain (came_field came its)
came_plain came finding.Stranger = refl
came_plain came finding.Changed = bytes_plain came
came_plain came finding.Repeat = refl
came_plain came (finding.Late by) = refl
came_plain came (finding.InOrder skips) = refl

-- A message's row.
message_read : (place hart : ℕ) (number fate by sent came : List ℕ) → IsPlain number → IsPlain fate → IsPlain by
    → IsPlain sent → IsPlain came → IsReadBack (message_fields place hart number fate by sent came)
message_read place hart number fate by sent came numbered fated far sent_is came_is =
    plain_read (message_fields place hart number fate by sent came) tt
    (rw (decimal_plain place, decimal_plain hart, numbered, fated, far, sent_is, came_is) refl)

arrival_read : (one : Line) → IsReadBack (arrival_fields one)
arrival_read (line.Stranger place hart) =
    message_read place hart [] (codes "stranger") [] [] [] refl refl refl refl refl
arrival_read (line.Extra place hart) = message_read place hart [] (codes "extra") [] [] [] refl refl refl refl refl
arrival_read (line.Skips place hart number skips) =
    message_read place hart (decimal number) (codes "skips") (decimal skips) [] [] (decimal_plain number) refl
    (decimal_plain skips) refl refl

pub are_read_back : AreReadBack
are_read_back = record {
  columns = plain_read columns tt refl;
  message = λ place hart number its sent came.
      message_read place hart (decimal number) (fate_field its) (by_field its) (sent_field sent its) (came_field came its)
      (decimal_plain number) (fate_plain its) (by_plain its) (sent_plain sent its) (came_plain came its);
  bytes = λ offset count.
      plain_read (bytes_fields offset count) tt (rw (decimal_plain offset, decimal_plain count) refl);
  run = λ hart run.
      plain_read (run_fields hart run) tt
      (rw (decimal_plain hart, decimal_plain run.first, decimal_plain run.last) refl);
  hart = λ hart its.
      plain_read (hart_fields hart its) tt
      (rw (
        decimal_plain hart,
        decimal_plain its.tally.sent,
        decimal_plain its.tally.came,
        decimal_plain its.tally.lost,
        decimal_plain its.tally.repeated,
        decimal_plain its.tally.late,
        decimal_plain its.tally.changed,
        decimal_plain its.strange,
        decimal_plain its.runs,
        decimal_plain its.longest,
        decimal_plain its.latest,
        verdict_plain its.tally.whole,
        decimal_plain (its.tally.lost - its.tally.changed),
      ) refl);
  exchanged = λ hart its.
      plain_read (exchanged_fields hart its) tt
      (rw (decimal_plain hart, decimal_plain its.hart, decimal_plain its.count) refl);
  all = λ total.
      plain_read (all_fields total) tt
      (rw (
        decimal_plain total.sent,
        decimal_plain total.came,
        decimal_plain total.lost,
        decimal_plain total.repeated,
        decimal_plain total.late,
        decimal_plain total.changed,
        decimal_plain total.strange,
        verdict_plain total.whole,
        decimal_plain (total.lost - total.changed),
      ) refl);
  result = λ messages first unlike bytes strangers runs whole.
      plain_read (result_fields messages first unlike bytes strangers runs whole) tt
      (rw (
        decimal_plain messages,
        number_plain first,
        headers_plain unlike,
        decimal_plain bytes,
        decimal_plain strangers,
        decimal_plain runs,
        verdict_plain whole,
      ) refl);
  arrival = arrival_read;
  aligned = λ hart counts runs longest.
      plain_read (aligned_fields hart counts runs longest) tt
      (rw (
        decimal_plain hart,
        decimal_plain counts.sent,
        decimal_plain counts.came,
        decimal_plain counts.lost,
        decimal_plain counts.extra,
        decimal_plain runs,
        decimal_plain longest,
        verdict_plain counts.whole,
      ) refl);
  aligned_all = λ total.
      plain_read (aligned_all_fields total) tt
      (rw (
        decimal_plain total.sent,
        decimal_plain total.came,
        decimal_plain total.lost,
        decimal_plain total.extra,
        verdict_plain total.whole,
      ) refl);
}
