-- The rows of the table are read back: but for names of symbols and reasons no field calls for quotes.
use Rattle.std.proofs.Common.{◌≡◌, [], ◌∷◌, Result, refl}
use Rattle.std.specs.Prelude.{Bool, ℕ, Option, Some, None, map}
use Rattle.payload.specs.Reading.{reading}
use Rattle.payload.specs.declared.fault.PackFault.{PackFault}
use Rattle.payload.specs.declared.packet.Packet.{Packet}
use Rattle.listing.specs.PacketEnding.{read_closes, read_waits}
use Rattle.listing.proofs.PlainRows.{flag_plain, message_read, offset_plain, place_plain}
use Rattle.listing.specs.Rows.{flag_field, naming_at, place_field}
use Rattle.listing.specs.SettledRows.{first_row, last_row, row_field}
use Rattle.salvaging.specs.TreatedParts.{taken_by}
use Rattle.salvaging.specs.declared.treatment.Treatment.{Treatment}
use Rattle.salvaging.specs.declared.treatment.Treatment.TheVariants as treatment
use Rattle.output.proofs.PlainFields.{IsPlain, decimal_plain, plain_read}
use Rattle.output.proofs.QuotedFields.{plain_field}
use Rattle.output.specs.Quoted.{quoted_field}
use Rattle.salvage_reports.specs.Fields.{count_field, done_fields, first_place, last_place, taken_flag, treatment_field}
use Rattle.salvage_reports.specs.Fields.{why_field}
use Rattle.salvage_reports.specs.TreatedReadBack.{AreRowsReadBack}
use Rattle.salvage_reports.specs.TreatedRows.{columns, run_fields}
use Rattle.salvage_reports.specs.declared.hart_rows.TreatedInRows.{TreatedInRows}

word_plain : (one : Treatment) → IsPlain (treatment_field one)
word_plain treatment.Stranger = refl
word_plain treatment.Copy = refl
word_plain treatment.Doubtful = refl
word_plain (treatment.Bad why) = refl
word_plain treatment.Alone = refl
word_plain treatment.Passed = refl
word_plain (treatment.Taken added) = refl

taken_plain : (flag : Bool) (one : Treatment) → IsPlain (taken_flag flag one)
taken_plain flag treatment.Stranger = refl
taken_plain flag treatment.Copy = refl
taken_plain flag treatment.Doubtful = refl
taken_plain flag (treatment.Bad why) = refl
taken_plain flag treatment.Alone = refl
taken_plain flag treatment.Passed = refl
taken_plain flag (treatment.Taken added) = flag_plain flag

count_plain : (one : Treatment) → IsPlain (count_field one)
count_plain treatment.Stranger = refl
count_plain treatment.Copy = refl
count_plain treatment.Doubtful = refl
count_plain (treatment.Bad why) = refl
count_plain treatment.Alone = refl
count_plain treatment.Passed = refl
count_plain (treatment.Taken added) = decimal_plain added.count

-- The reason is written as `csv` writes it.
why_is : (one : Treatment) → quoted_field (why_field (λ field. field) one) ≡ why_field quoted_field one
why_is treatment.Stranger = refl
why_is treatment.Copy = refl
why_is treatment.Doubtful = refl
why_is (treatment.Bad why) = refl
why_is treatment.Alone = refl
why_is treatment.Passed = refl
why_is (treatment.Taken added) = refl

-- So are the fields of what is done with a message.
row_plain : (row : Option ℕ) → IsPlain (row_field row)
row_plain None = refl
row_plain (Some row) = decimal_plain row

done_written : (read : Result Packet PackFault) (all : TreatedInRows)
    → map quoted_field (done_fields (λ field. field) read all) ≡ done_fields quoted_field read all
done_written read all =
    let treated = all.treated in
    let one = treated.treatment in
    let first_settled = first_row all.rows (taken_by one) in
    let last_settled = last_row all.rows (taken_by one) in
    let waits = taken_flag (read_waits read) one in
    let closes = taken_flag (read_closes read) one in
    let first = place_field (first_place one) in
    let last = place_field (last_place one) in
    λ i. plain_field waits (taken_plain (read_waits read) one) i
    ∷ plain_field closes (taken_plain (read_closes read) one) i
    ∷ plain_field (treatment_field one) (word_plain one) i ∷ why_is one i
    ∷ plain_field (flag_field treated.far) (flag_plain treated.far) i
    ∷ plain_field (flag_field treated.late) (flag_plain treated.late) i ∷ []
    ∷ plain_field (count_field one) (count_plain one) i
    ∷ plain_field (row_field first_settled) (row_plain first_settled) i
    ∷ plain_field (row_field last_settled) (row_plain last_settled) i
    ∷ plain_field first (place_plain (first_place one)) i ∷ plain_field last (place_plain (last_place one)) i ∷ []

pub are_rows_read_back : AreRowsReadBack
are_rows_read_back = record {
  names = plain_read columns tt refl;
  message = λ symbols mode at offset message one.
      message_read mode at offset message (done_fields (λ field. field) (reading message.payload) one)
      (done_fields quoted_field (reading message.payload) one) (done_written (reading message.payload) one)
      (naming_at symbols (first_place one.treated.treatment)) (naming_at symbols (last_place one.treated.treatment));
  bytes = λ offset count.
      plain_read (run_fields offset count) tt (rw (offset_plain offset, decimal_plain count) refl);
}
