-- Bits that read as an address field and its report are the fields, and the fields read so.
use Rattle.std.proofs.Common.{◌≡◌, ℕ, zero, suc, ◌+◌, ◌-◌, ◌*◌, ◌/◌, ◌%◌, ◌^◌, ◌<◌, inl, inr, ◌==◌, Bool, List, Option}
use Rattle.std.proofs.Common.{Some, None, Ok, refl, sym, ap, ◌∙◌, subst, arith, eqb-true}
use Rattle.std.proofs.lemmas.Nat.{shr-shr}
use Rattle.isa.specs.Address.{IsAddress}
use Rattle.payload.specs.Extension.{magnitude}
use Rattle.payload.specs.Faults.{part}
use Rattle.payload.specs.PacketFields.{address_fields, report_fields}
use Rattle.payload.specs.steps.ReadingByKind.{report_in, reported, address_reading}
use Rattle.payload.specs.declared.packet.Packet.{Packet}
use Rattle.payload.specs.declared.packet.Packet.TheVariants as packet
use Rattle.payload.specs.declared.packet.Report.{Report}
use Rattle.payload.specs.declared.packet.Report.TheVariants as report
use Rattle.payload.proofs.Choices.{chosen_of_3}
use Rattle.payload.proofs.MapWidths.{part-lt}
use Rattle.payload.proofs.PaddedBits.{padded_is, padded_read}
use Rattle.payload.proofs.Parts.{Holds}

-- Notify, updiscon and irreport as one number.
abbrev report_number : ℕ → Report → ℕ
report_number top report.Plain = 7 * top
report_number top report.Updiscon = 6 - 5 * top
report_number top report.Notify = 7 - 7 * top

report_found : (top tail : ℕ) (r : Report) → report_in top tail ≡ Some r → tail ≡ report_number top r
unfolding report_in
report_found top tail r e =
    elim (chosen_of_3 (tail == 7 * top) (tail == 6 - 5 * top) (tail == 7 - 7 * top) (Some report.Plain)
    (Some report.Updiscon) (Some report.Notify) None (Some r) e) [
      | inl (so, same) ↦ let is : report.Plain ≡ r = cc in subst (λ q. tail ≡ report_number top q) is (eqb-true _ _ so)
      | inr (inl (so, same)) ↦ let is : report.Updiscon ≡ r = cc in
          subst (λ q. tail ≡ report_number top q) is (eqb-true _ _ so)
      | inr (inr (inl (so, same))) ↦ let is : report.Notify ≡ r = cc in
          subst (λ q. tail ≡ report_number top q) is (eqb-true _ _ so)
      | inr (inr (inr same)) ↦ absurd (cc)
    ]

report_read : (top : ℕ) (r : Report) → top < 2 → report_in top (report_number top r) ≡ Some r
unfolding report_in
report_read zero report.Plain h = refl
report_read zero report.Updiscon h = refl
report_read zero report.Notify h = refl
report_read (suc zero) report.Plain h = refl
report_read (suc zero) report.Updiscon h = refl
report_read (suc zero) report.Notify h = refl
report_read (suc (suc top)) r h = absurd (omega arith)

-- A part that begins behind another place.
pub part_behind : (n from k width : ℕ) → part n (from + k) width ≡ part (n / 2 ^ from) k width
part_behind n from k width = ap (λ x. x % 2 ^ width) (sym (shr-shr n from k))

lowest_three : (m : ℕ) → m % 2 ^ 3 ≡ m % 2 ^ 1 + 2 * (m / 2 ^ 1 % 2 ^ 1) + 4 * (m / 2 ^ 1 / 2 ^ 1 % 2 ^ 1)
lowest_three m = omega arith

-- Three bits are one part.
pub three_bits : (n from : ℕ) → part n from 3 ≡ part n from 1 + 2 * part n (from + 1) 1 + 4 * part n (from + 1 + 1) 1
three_bits n from =
    let second : part n (from + 1) 1 ≡ part (n / 2 ^ from) 1 1 = part_behind n from 1 1 in
    let third : part n (from + 1 + 1) 1 ≡ part (n / 2 ^ from / 2 ^ 1) 1 1 =
    part_behind n (from + 1) 1 1 ∙ ap (λ x. part x 1 1) (sym (shr-shr n from 1)) in
    rw (second, third) (lowest_three (n / 2 ^ from))

report_holds : (n from top : ℕ) (r : Report) → top < 2 → part n from 3 ≡ report_number top r
    → Holds n from (report_fields top r)
report_holds n from top report.Plain h e =
    let three = three_bits n from in
    let a = part-lt n from 1 in
    let b = part-lt n (from + 1) 1 in
    let c = part-lt n (from + 1 + 1) 1 in (omega arith, (omega arith, (omega arith, tt)))
report_holds n from top report.Updiscon h e =
    let three = three_bits n from in
    let a = part-lt n from 1 in
    let b = part-lt n (from + 1) 1 in
    let c = part-lt n (from + 1 + 1) 1 in (omega arith, (omega arith, (omega arith, tt)))
report_holds n from top report.Notify h e =
    let three = three_bits n from in
    let a = part-lt n from 1 in
    let b = part-lt n (from + 1) 1 in
    let c = part-lt n (from + 1 + 1) 1 in (omega arith, (omega arith, (omega arith, tt)))

report_from_holds : (n from top : ℕ) (r : Report) → top < 2 → Holds n from (report_fields top r)
    → part n from 3 ≡ report_number top r
report_from_holds n from top report.Plain h e = let three = three_bits n from in omega (arith, e.0, e.1.0, e.1.1.0)
report_from_holds n from top report.Updiscon h e = let three = three_bits n from in omega (arith, e.0, e.1.0, e.1.1.0)
report_from_holds n from top report.Notify h e = let three = three_bits n from in omega (arith, e.0, e.1.0, e.1.1.0)

top_of_63 : (m : ℕ) → 2 * (m % 2 ^ 63) / 2 ^ 63 ≡ m / 2 ^ 62 % 2 ^ 1
top_of_63 m = omega arith

top_of : (n from : ℕ) → 2 * part n from 63 / 2 ^ 63 ≡ part n (from + 62) 1
top_of n from = top_of_63 (n / 2 ^ from) ∙ sym (part_behind n from 62 1)

-- What is read where an address field begins.
pub record HasAddress (n from : ℕ) (taken : List Bool) (p : Packet) : Type 0 where
  pub delta : ℕ
  pub report : Report
  pub is : packet.Address taken delta report ≡ p
  pub even : IsAddress delta
  pub holds : Holds n from (address_fields delta report)
  pub width : magnitude 144 n < 2 ^ (from + 66 - 1)

reported_found : (n : ℕ) (taken : List Bool) (from : ℕ) (p : Packet) (found : Option Report)
    → report_in (part n (from + 62) 1) (part n (from + 63) 3) ≡ found
    → reported n taken from found ≡ Ok p → HasAddress n from taken p
reported_found n taken from p None is e = absurd (cc)
reported_found n taken from p (Some r) is e =
    let delta = 2 * part n from 63 in
    let small = part-lt n from 63 in
    let found = padded_is (from + 66) n (packet.Address taken delta r) p e in
    record {
      delta = delta;
      report = r;
      is = found.0;
      even = (omega arith, omega arith);
      holds = (
        omega arith,
        subst (λ top. Holds n (from + 63) (report_fields top r)) (sym (top_of n from))
            (report_holds n (from + 63) (part n (from + 62) 1) r (part-lt n (from + 62) 1)
            (report_found (part n (from + 62) 1) (part n (from + 63) 3) r is)),
      );
      width = found.1;
    }

pub address_found : (n : ℕ) (taken : List Bool) (from : ℕ) (p : Packet) → address_reading n taken from ≡ Ok p
    → HasAddress n from taken p
unfolding address_reading
address_found n taken from p e =
    reported_found n taken from p (report_in (part n (from + 62) 1) (part n (from + 63) 3)) refl e

pub address_read : (n : ℕ) (taken : List Bool) (from delta : ℕ) (r : Report) → IsAddress delta
    → Holds n from (address_fields delta r)
    → magnitude 144 n < 2 ^ (from + 66 - 1) → address_reading n taken from ≡ Ok (packet.Address taken delta r)
unfolding address_reading
address_read n taken from delta r h holds width =
    let even = h.1 in
    let place = holds.0 in
    let whole : 2 * part n from 63 ≡ delta = omega arith in
    let top : delta / 2 ^ 63 ≡ part n (from + 62) 1 = ap (λ x. x / 2 ^ 63) (sym whole) ∙ top_of n from in
    let small = part-lt n (from + 62) 1 in
    let tail : part n (from + 63) 3 ≡ report_number (part n (from + 62) 1) r =
    report_from_holds n (from + 63) (part n (from + 62) 1) r small
    (subst (λ x. Holds n (from + 63) (report_fields x r)) top holds.1) in
    let report : report_in (part n (from + 62) 1) (part n (from + 63) 3) ≡ Some r =
    ap (report_in (part n (from + 62) 1)) tail ∙ report_read (part n (from + 62) 1) r small in
    ap (reported n taken from) report ∙ padded_read (from + 66) n (packet.Address taken (2 * part n from 63) r) width
    ∙ ap (λ d. Ok (packet.Address taken d r)) whole
