-- The rows of the table are read back: all fields but one reason call for no quotes.
use Rattle.std.proofs.Common.{◌≡◌, ℕ, zero, suc, ◌-◌, ◌==◌, ◌++◌, List, [], ◌∷◌, Bool, true, false, codes, inl, inr}
use Rattle.std.proofs.Common.{length, refl, replicate, subst}
use Rattle.std.proofs.lemmas.Bool.{cases_Bool, eqb-true}
use Rattle.std.specs.Fmt.{decimal}
use Rattle.std.specs.Prelude.{◌||◌}
use Rattle.std.specs.List.{list_any}
use Rattle.csv.specs.Quoting.{needs_byte}
use Rattle.csv.specs.Writing.{default_writer, escaped, quote_mark}
use Rattle.captures.specs.Offsets.{offset_text}
use Rattle.decoder.specs.declared.fault.DecodeFault.{DecodeFault}
use Rattle.decoder.specs.declared.fault.DecodeFault.TheVariants as decode
use Rattle.payload.specs.declared.fault.PackFault.{PackFault}
use Rattle.payload.specs.declared.fault.PackFault.TheVariants as pack
use Rattle.payload.specs.declared.mode.Mode.{Mode}
use Rattle.payload.specs.declared.mode.Mode.TheVariants.{Differential, Full}
use Rattle.retire.specs.LogText.{hex}
use Rattle.salvaging.specs.ReasonText.{reason_text}
use Rattle.salvaging.specs.declared.reason.Reason.{Reason}
use Rattle.salvaging.specs.declared.reason.Reason.TheVariants as reason
use Rattle.output.proofs.PlainFields.{IsPlain, both_plain, decimal_plain, digits_plain, plain_read}
use Rattle.output.proofs.QuotedFields.{are_read_back as quoted_read, plain_field}
use Rattle.output.specs.Fields.{fields_line}
use Rattle.output.specs.Quoted.{quoted_field, quoted_line}
use Rattle.output.specs.ReadBack.{IsReadAs}
use Rattle.salvage_reports.specs.SalvagedReadBack.{AreReadBack}
use Rattle.salvage_reports.specs.SalvagedItems as row
use Rattle.salvage_reports.specs.declared.salvaged_items.Counted.TheVariants as counted
use Rattle.salvage_reports.specs.declared.salvaged_items.Item.{Item}
use Rattle.salvage_reports.specs.declared.salvaged_items.Item.TheVariants as item
use Rattle.salvage_reports.specs.declared.salvaged_items.Total.{Total}
use Rattle.salvage_reports.specs.declared.salvaged_items.Total.TheVariants as total

zeros_plain : (count : ℕ) → IsPlain (replicate count 48)
zeros_plain zero = refl
zeros_plain (suc count) = zeros_plain count

offset_plain : (offset : ℕ) → IsPlain (offset_text offset)
offset_plain offset =
    both_plain (replicate (8 - length (hex offset)) 48) (hex offset) (zeros_plain (8 - length (hex offset)))
    (digits_plain 16 offset)

mode_plain : (mode : Mode) → IsPlain (row.mode_text mode)
mode_plain Differential = refl
mode_plain Full = refl

closed_plain : (closed : Bool) → IsPlain (row.closed_text closed)
closed_plain true = refl
closed_plain false = refl

total_plain : (what : Total) → IsPlain (row.total_text what)
total_plain total.Rows = refl
total_plain total.Decoded = refl
total_plain total.Passed = refl
total_plain total.Far = refl
total_plain total.Bad = refl
total_plain total.Alone = refl
total_plain total.Doubtful = refl
total_plain total.Copies = refl
total_plain total.Strangers = refl
total_plain total.Late = refl
total_plain total.Bytes = refl

-- A byte that calls for no quotes is no quote.
no_quote : (byte : ℕ) (b : Bool) → (byte == quote_mark) ≡ b → needs_byte default_writer byte ≡ false → b ≡ false
no_quote byte false test none = refl
no_quote byte true test none =
    let never : needs_byte default_writer quote_mark ≡ false =
    subst (λ one. needs_byte default_writer one ≡ false) (eqb-true byte quote_mark test) none in
    cc

or_left : (a b : Bool) → (a || b) ≡ false → a ≡ false
or_left false b none = refl
or_left true b none = cc

or_right : (a b : Bool) → (a || b) ≡ false → b ≡ false
or_right false b none = none
or_right true b none = cc

-- So a field of such bytes is not changed between quotes.
escaped_plain : (field : List ℕ) → IsPlain field → escaped default_writer field ≡ field
unfolding escaped
escaped_plain [] plain = refl
escaped_plain (byte ∷ more) plain =
    let marked = list_any (needs_byte default_writer) more in
    rw (
      no_quote byte (byte == quote_mark) refl (or_left (needs_byte default_writer byte) marked plain),
      escaped_plain more (or_right (needs_byte default_writer byte) marked plain),
    ) refl

escaped_both : (front back : List ℕ)
    → escaped default_writer (front ++ back) ≡ escaped default_writer front ++ escaped default_writer back
unfolding escaped
escaped_both [] back = refl
escaped_both (byte ∷ more) back = elim (cases_Bool (byte == quote_mark)) [
  | inl quote ↦ rw (quote, escaped_both more back) refl
  | inr other ↦ rw (other, escaped_both more back) refl
]

-- The reason that has a comma has just that mark.
closing_is : (next : ℕ) → quoted_field (reason_text (reason.Closing next)) ≡ row.reason_field (reason.Closing next)
unfolding escaped
closing_is next =
    rw (escaped_both (decimal next) (codes " came"), escaped_plain (decimal next) (decimal_plain next)) refl

packet_is : (why : PackFault) → quoted_field (reason_text (reason.Packet why)) ≡ row.reason_field (reason.Packet why)
packet_is pack.Empty = refl
packet_is pack.TooLong = refl
packet_is pack.BadPad = refl
packet_is pack.Unsupported = refl
packet_is pack.BadPrivilege = refl
packet_is pack.BadReport = refl

decode_is : (why : DecodeFault) → quoted_field (reason_text (reason.Decode why)) ≡ row.reason_field (reason.Decode why)
decode_is decode.NotOpened = refl
decode_is decode.OffProgram = refl
decode_is decode.MissedNotify = refl
decode_is decode.Branches = refl
decode_is decode.WrongPlace = refl
decode_is decode.WrongPrivilege = refl
decode_is decode.AfterClose = refl
decode_is decode.Memory = refl

-- The field of a reason is the one that `csv` writes.
pub reason_is : (why : Reason) → quoted_field (reason_text why) ≡ row.reason_field why
reason_is (reason.Packet why) = packet_is why
reason_is (reason.Decode why) = decode_is why
reason_is (reason.Closing next) = closing_is next

-- So the row of a bad number is written as `csv` writes it.
bad_is : (hart number offset : ℕ) (why : Reason)
    → quoted_line (row.item_fields reason_text (item.Bad hart number offset why))
    ≡ fields_line (row.item_fields row.reason_field (item.Bad hart number offset why))
bad_is hart number offset why = λ i.
    fields_line (
    codes "bad" ∷ plain_field (decimal hart) (decimal_plain hart) i
    ∷ plain_field (decimal number) (decimal_plain number) i ∷ [] ∷ []
    ∷ plain_field (offset_text offset) (offset_plain offset) i ∷ [] ∷ [] ∷ [] ∷ reason_is why i ∷ []
    )

bad_read : (hart number offset : ℕ) (why : Reason)
    → IsReadAs (fields_line (row.item_fields row.reason_field (item.Bad hart number offset why)))
    (row.item_fields reason_text (item.Bad hart number offset why))
bad_read hart number offset why =
    subst (λ line. IsReadAs line (row.item_fields reason_text (item.Bad hart number offset why)))
    (bad_is hart number offset why)
    (quoted_read (codes "bad") (decimal hart)
    (decimal number ∷ [] ∷ [] ∷ offset_text offset ∷ [] ∷ [] ∷ [] ∷ reason_text why ∷ []))

-- Each row is read back.
item_read : (one : Item) → IsReadAs (fields_line (row.item_fields row.reason_field one)) (row.item_fields reason_text one)
item_read (item.Hart hart mode closed) =
    plain_read (row.item_fields reason_text (item.Hart hart mode closed)) tt
    (rw (decimal_plain hart, mode_plain mode, closed_plain closed) refl)
item_read (item.Said hart said) =
    plain_read (row.item_fields reason_text (item.Said hart said)) tt (rw (decimal_plain hart, mode_plain said) refl)
item_read (item.Stretch hart first last count) =
    plain_read (row.item_fields reason_text (item.Stretch hart first last count)) tt
    (rw (decimal_plain hart, decimal_plain first, decimal_plain last, decimal_plain count) refl)
item_read (item.Messages hart counted.Gap count) =
    plain_read (row.item_fields reason_text (item.Messages hart counted.Gap count)) tt
    (rw (decimal_plain hart, decimal_plain count) refl)
item_read (item.Messages hart counted.Copies count) =
    plain_read (row.item_fields reason_text (item.Messages hart counted.Copies count)) tt
    (rw (decimal_plain hart, decimal_plain count) refl)
item_read (item.Messages hart counted.Late count) =
    plain_read (row.item_fields reason_text (item.Messages hart counted.Late count)) tt
    (rw (decimal_plain hart, decimal_plain count) refl)
item_read (item.Bad hart number offset why) = bad_read hart number offset why
item_read (item.Doubtful hart number first second) =
    plain_read (row.item_fields reason_text (item.Doubtful hart number first second)) tt
    (rw (decimal_plain hart, decimal_plain number, offset_plain first, offset_plain second) refl)
item_read (item.Alone hart number offset) =
    plain_read (row.item_fields reason_text (item.Alone hart number offset)) tt
    (rw (decimal_plain hart, decimal_plain number, offset_plain offset) refl)
item_read (item.Far hart number offset) =
    plain_read (row.item_fields reason_text (item.Far hart number offset)) tt
    (rw (decimal_plain hart, decimal_plain number, offset_plain offset) refl)
item_read (item.Run offset count) =
    plain_read (row.item_fields reason_text (item.Run offset count)) tt
    (rw (decimal_plain count, offset_plain offset) refl)
item_read (item.Strangers count) =
    plain_read (row.item_fields reason_text (item.Strangers count)) tt (rw (decimal_plain count) refl)
item_read (item.All what count harts messages) =
    plain_read (row.item_fields reason_text (item.All what count harts messages)) tt
    (rw (decimal_plain count, total_plain what) refl)

pub are_read_back : AreReadBack
are_read_back = record { columns = plain_read row.columns tt refl; items = item_read }
