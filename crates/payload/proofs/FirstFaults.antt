-- Reading one kind after the other names the first fault, or else the packet.
use Rattle.std.proofs.Common.{◌≡◌, ℕ, zero, suc, ◌+◌, ◌-◌, ◌*◌, ◌%◌, ◌^◌, ◌<◌, ◌≤◌, inl, inr, Bool, true, false, cond}
use Rattle.std.proofs.Common.{ltb, ◌==◌, ◌&&◌, ◌||◌, not, List, [], length, Some, None, Ok, Err, refl, sym, ap, ◌∙◌}
use Rattle.std.proofs.Common.{arith}
use Rattle.std.proofs.Common.{eq-eqb, ne_eqb, eqb-true, lt-ltb, le-ltb, ltb-false}
use Rattle.std.proofs.lemmas.Bool.{cases_lt, eqb-false, and_parts}
use Rattle.std.proofs.lemmas.Nat.{mod_below, pow_pos}
use Rattle.payload.specs.Bytes.{number, IsBytes}
use Rattle.payload.specs.Extension.{extended, magnitude}
use Rattle.payload.specs.Faults.{bits_of, part, is_sync, is_trap, is_interrupt, is_support, is_address_alone}
use Rattle.payload.specs.Faults.{trap_width, is_bad_tail, is_bad_report_at, address_behind_map}
use Rattle.payload.specs.Faults.{first_fault_of_bits}
use Rattle.payload.specs.Reading.{report_from, trap_from, address_packet_from, outcomes_from, packet_in}
use Rattle.payload.specs.Reading.{fault_or, reading}
use Rattle.payload.specs.steps.ReadingByKind.{sync_reading, trap_reading, support_reading, report_in, reported}
use Rattle.payload.specs.steps.ReadingByKind.{address_reading, map_reading, branches_reading, reading_of_bits}
use Rattle.payload.specs.steps.ReadingByKind.{reading_by_kind, address_place, reading_at_place, reading_by_place}
use Rattle.payload.specs.declared.mode.Mode.TheVariants as mode
use Rattle.payload.specs.declared.packet.Packet.{Packet}
use Rattle.payload.specs.declared.packet.Packet.TheVariants as packet
use Rattle.payload.specs.declared.packet.Support.TheVariants as support
use Rattle.payload.specs.declared.fault.PackFault.TheVariants.{Empty, TooLong, BadPad, Unsupported, BadPrivilege}
use Rattle.payload.specs.declared.fault.PackFault.TheVariants.{BadReport}
use Rattle.payload.proofs.AddressBits.{three_bits}
use Rattle.payload.proofs.ByteLists.{number-lt}
use Rattle.payload.proofs.Extending.{extended-lt, magnitude-lt, magnitude_extended, cut}
use Rattle.payload.proofs.MapWidths.{map_sizes, part-lt}

-- Further bits are copies of the last where the number is small at this width.
pad_test : (w n : ℕ) → 1 ≤ w → w ≤ 144 → n < 2 ^ 144 → (extended w (n % 2 ^ w) == n)
    ≡ ltb (magnitude 144 n) (2 ^ (w - 1))
pad_test w n some few bound =
    elim (cases_lt (magnitude 144 n) (2 ^ (w - 1))) [
      | inl less ↦ eq-eqb (extended w (n % 2 ^ w)) n (cut w n some few bound less) ∙ sym (lt-ltb _ _ less)
      | inr more ↦
          let low : n % 2 ^ w < 2 ^ w = mod_below n (2 ^ w) (pow_pos w) in
          let small = magnitude-lt w (n % 2 ^ w) some few low in
          let same = magnitude_extended w (n % 2 ^ w) some few low in
          ne_eqb (extended w (n % 2 ^ w)) n (λ e. absurd (let at : magnitude 144 (extended w (n % 2 ^ w))
          ≡ magnitude 144 n = ap (magnitude 144) e in omega arith)) ∙ sym (le-ltb _ _ more)
    ]

pad_order : (b c : Bool) (p : Packet) → c ≡ b → cond b (Ok p) (Err BadPad)
    ≡ fault_or (cond (not c) (Some BadPad) None) p
pad_order true c p e = rw e refl
pad_order false c p e = rw e refl

level_order : (a b c : Bool) (p : Packet) → c ≡ b
    → cond a (Err BadPrivilege) (cond b (Ok p) (Err BadPad))
    ≡ fault_or (cond a (Some BadPrivilege) (cond (not c) (Some BadPad) None)) p
level_order true b c p e = refl
level_order false b c p e = pad_order b c p e

trap_size : (interrupt : Bool) → (1 ≤ cond interrupt 78 142) × (cond interrupt 78 142 ≤ 144)
trap_size true = (omega arith, omega arith)
trap_size false = (omega arith, omega arith)

sync_first : (n : ℕ) → n < 2 ^ 144 → part n 0 2 ≡ 3 → part n 2 2 ≡ 0
    → sync_reading n ≡ fault_or (first_fault_of_bits n) (packet_in n)
unfolding sync_reading
sync_first n bound format subformat =
    rw (format, subformat) (level_order (part n 5 2 == 2) (ltb (magnitude 144 n) (2 ^ 69))
    (extended 70 (n % 2 ^ 70) == n) _ (pad_test 70 n (omega arith) (omega arith) bound))

trap_first : (n : ℕ) → n < 2 ^ 144 → part n 0 2 ≡ 3 → part n 2 2 ≡ 1
    → trap_reading n ≡ fault_or (first_fault_of_bits n) (packet_in n)
unfolding trap_reading
trap_first n bound format subformat =
    let size = trap_size (is_interrupt n) in
    rw (format, subformat)
    (level_order (part n 5 2 == 2) (ltb (magnitude 144 n) (2 ^ (trap_width n - 1)))
    (extended (trap_width n) (n % 2 ^ trap_width n) == n) (trap_from n)
    (pad_test (trap_width n) n size.0 size.1 bound))

support_order : (ienable encoder_mode status : ℕ) (differential full b c : Bool) → ienable < 2 → encoder_mode < 2
    → status < 4 → (differential ≡ true → full ≡ false) → c ≡ b
    → cond ((ienable + 2 * encoder_mode == 1) && ((status == 0) && differential))
    (cond b (Ok (packet.Support (support.Open mode.Differential))) (Err BadPad))
    (cond ((ienable + 2 * encoder_mode == 1) && ((status == 0) && full))
    (cond b (Ok (packet.Support (support.Open mode.Full))) (Err BadPad))
    (cond ((ienable + 2 * encoder_mode == 0) && ((status == 1) && differential))
    (cond b (Ok (packet.Support support.EndedRep)) (Err BadPad))
    (cond ((ienable + 2 * encoder_mode == 0) && ((status == 3) && differential))
    (cond b (Ok (packet.Support support.EndedNtr)) (Err BadPad))
    (Err Unsupported))))
    ≡ fault_or (cond (not ((encoder_mode == 0) && (((ienable == 1) && ((status == 0) && (differential || full)))
    || ((ienable == 0) && (((status == 1) || (status == 3)) && differential))))) (Some Unsupported)
    (cond (not c) (Some BadPad) None))
    (packet.Support (cond (ienable == 1) (support.Open (cond full mode.Full mode.Differential))
    (cond (status == 1) support.EndedRep support.EndedNtr)))
support_order (suc (suc i)) m s d f b c hi hm hs one e = absurd (omega arith)
support_order i (suc (suc m)) s d f b c hi hm hs one e = absurd (omega arith)
support_order i m (suc (suc (suc (suc s)))) d f b c hi hm hs one e = absurd (omega arith)
support_order zero (suc zero) s d f b c hi hm hs one e = refl
support_order (suc zero) (suc zero) s d f b c hi hm hs one e = refl
support_order zero zero zero d f b c hi hm hs one e = refl
support_order zero zero (suc zero) true f b c hi hm hs one e = pad_order b c (packet.Support support.EndedRep) e
support_order zero zero (suc zero) false f b c hi hm hs one e = refl
support_order zero zero (suc (suc zero)) d f b c hi hm hs one e = refl
support_order zero zero (suc (suc (suc zero))) true f b c hi hm hs one e =
    pad_order b c (packet.Support support.EndedNtr) e
support_order zero zero (suc (suc (suc zero))) false f b c hi hm hs one e = refl
support_order (suc zero) zero zero true true b c hi hm hs one e = let no = one refl in absurd (cc)
support_order (suc zero) zero zero true false b c hi hm hs one e =
    pad_order b c (packet.Support (support.Open mode.Differential)) e
support_order (suc zero) zero zero false true b c hi hm hs one e =
    pad_order b c (packet.Support (support.Open mode.Full)) e
support_order (suc zero) zero zero false false b c hi hm hs one e = refl
support_order (suc zero) zero (suc s) d f b c hi hm hs one e = refl

-- A number is not two at once.
not_both : (n : ℕ) → (n == 0) ≡ true → (n == 1) ≡ false
not_both n e = ne_eqb n 1 (λ same. let zero_is = eqb-true n 0 e in absurd (omega arith))

support_first : (n : ℕ) → n < 2 ^ 144 → part n 0 2 ≡ 3 → part n 2 2 ≡ 3
    → support_reading n ≡ fault_or (first_fault_of_bits n) (packet_in n)
unfolding support_reading
support_first n bound format subformat =
    let enable : part n 4 2 ≡ part n 4 1 + 2 * part n 5 1 = omega arith in
    rw (format, subformat, enable) (support_order (part n 4 1) (part n 5 1) (part n 6 2) (part n 8 5 == 0)
    (part n 8 5 == 1) (ltb (magnitude 144 n) (2 ^ 12)) (extended 13 (n % 2 ^ 13) == n)
    (omega arith) (omega arith) (omega arith) (not_both (part n 8 5)) (pad_test 13 n (omega arith) (omega arith) bound))

report_order : (n : ℕ) (taken : List Bool) (from top notify updiscon irreport : ℕ) (c : Bool) → top < 2 → notify < 2
    → updiscon < 2 → irreport < 2
    → c ≡ ltb (magnitude 144 n) (2 ^ (from + 66 - 1))
    → reported n taken from (report_in top (notify + 2 * updiscon + 4 * irreport))
    ≡ fault_or (cond (is_bad_tail top notify updiscon irreport) (Some BadReport) (cond (not c) (Some BadPad) None))
    (packet.Address taken (2 * part n from 63) (report_from top notify updiscon))
unfolding report_in
report_order n taken from (suc (suc t)) a u i c ht ha hu hi e = absurd (omega arith)
report_order n taken from t (suc (suc a)) u i c ht ha hu hi e = absurd (omega arith)
report_order n taken from t a (suc (suc u)) i c ht ha hu hi e = absurd (omega arith)
report_order n taken from t a u (suc (suc i)) c ht ha hu hi e = absurd (omega arith)
report_order n taken from zero zero zero zero c ht ha hu hi e = pad_order _ c _ e
report_order n taken from zero zero zero (suc zero) c ht ha hu hi e = refl
report_order n taken from zero zero (suc zero) zero c ht ha hu hi e = refl
report_order n taken from zero zero (suc zero) (suc zero) c ht ha hu hi e = pad_order _ c _ e
report_order n taken from zero (suc zero) zero zero c ht ha hu hi e = refl
report_order n taken from zero (suc zero) zero (suc zero) c ht ha hu hi e = refl
report_order n taken from zero (suc zero) (suc zero) zero c ht ha hu hi e = refl
report_order n taken from zero (suc zero) (suc zero) (suc zero) c ht ha hu hi e = pad_order _ c _ e
report_order n taken from (suc zero) zero zero zero c ht ha hu hi e = pad_order _ c _ e
report_order n taken from (suc zero) zero zero (suc zero) c ht ha hu hi e = refl
report_order n taken from (suc zero) zero (suc zero) zero c ht ha hu hi e = refl
report_order n taken from (suc zero) zero (suc zero) (suc zero) c ht ha hu hi e = refl
report_order n taken from (suc zero) (suc zero) zero zero c ht ha hu hi e = pad_order _ c _ e
report_order n taken from (suc zero) (suc zero) zero (suc zero) c ht ha hu hi e = refl
report_order n taken from (suc zero) (suc zero) (suc zero) zero c ht ha hu hi e = refl
report_order n taken from (suc zero) (suc zero) (suc zero) (suc zero) c ht ha hu hi e = pad_order _ c _ e

-- Reading at an address field tests its report and then its pad.
address_order : (n : ℕ) (taken : List Bool) (from : ℕ) → from ≤ 38 → n < 2 ^ 144
    → address_reading n taken from
    ≡ fault_or (cond (is_bad_report_at n from) (Some BadReport)
    (cond (not (extended (from + 66) (n % 2 ^ (from + 66)) == n)) (Some BadPad) None))
    (address_packet_from n taken from)
unfolding address_reading
address_order n taken from inside bound =
    let second : part n (from + 63 + 1) 1 ≡ part n (from + 64) 1 =
    (let e : from + 63 + 1 ≡ from + 64 = omega arith in ap (λ k. part n k 1) e) in
    let third : part n (from + 63 + 1 + 1) 1 ≡ part n (from + 65) 1 =
    (let e : from + 63 + 1 + 1 ≡ from + 65 = omega arith in ap (λ k. part n k 1) e) in
    let tail : part n (from + 63) 3 ≡ part n (from + 63) 1 + 2 * part n (from + 64) 1 + 4 * part n (from + 65) 1 =
    three_bits n (from + 63) ∙ rw (second, third) refl in
    rw tail (report_order n taken from (part n (from + 62) 1) (part n (from + 63) 1) (part n (from + 64) 1)
    (part n (from + 65) 1) (extended (from + 66) (n % 2 ^ (from + 66)) == n)
    (part-lt n (from + 62) 1) (part-lt n (from + 63) 1) (part-lt n (from + 64) 1) (part-lt n (from + 65) 1)
    (pad_test (from + 66) n (omega arith) (omega arith) bound))

plain_first : (n : ℕ) → n < 2 ^ 144 → part n 0 2 ≡ 2 → address_reading n [] 2
    ≡ fault_or (first_fault_of_bits n) (packet_in n)
plain_first n bound format = rw format (address_order n [] 2 (omega arith) bound)

map_first : (n : ℕ) → n < 2 ^ 144 → part n 0 2 ≡ 1 → part n 2 5 ≡ 0
    → map_reading n ≡ fault_or (first_fault_of_bits n) (packet_in n)
unfolding map_reading
map_first n bound format branches =
    rw (format, branches) (pad_order (ltb (magnitude 144 n) (2 ^ 37)) (extended 38 (n % 2 ^ 38) == n)
    (packet.Map (outcomes_from n 31)) (pad_test 38 n (omega arith) (omega arith) bound))

some_first : (n : ℕ) → n < 2 ^ 144 → part n 0 2 ≡ 1 → (part n 2 5 == 0) ≡ false
    → address_reading n (outcomes_from n (part n 2 5)) (address_behind_map n)
    ≡ fault_or (first_fault_of_bits n) (packet_in n)
some_first n bound format some =
    let few : part n 2 5 ≤ 31 = (let small = part-lt n 2 5 in omega arith) in
    let narrow = (map_sizes (part n 2 5) few).1 in
    rw (format, some) (address_order n (outcomes_from n (part n 2 5)) (address_behind_map n) (omega arith) bound)

branches_first : (n : ℕ) (none : Bool) → n < 2 ^ 144 → part n 0 2 ≡ 1 → (part n 2 5 == 0) ≡ none
    → cond none (map_reading n) (address_reading n (outcomes_from n (part n 2 5)) (address_behind_map n))
    ≡ fault_or (first_fault_of_bits n) (packet_in n)
branches_first n true bound format is = map_first n bound format (eqb-true _ _ is)
branches_first n false bound format is = some_first n bound format is

kind_first : (n : ℕ) (sync trap support address branches : Bool) → n < 2 ^ 144 → is_sync n ≡ sync → is_trap n ≡ trap
    → is_support n ≡ support → is_address_alone n ≡ address → (part n 0 2 == 1) ≡ branches
    → cond sync (sync_reading n) (cond trap (trap_reading n)
    (cond support (support_reading n) (cond address (address_reading n [] 2)
    (cond branches (branches_reading n) (Err Unsupported)))))
    ≡ fault_or (first_fault_of_bits n) (packet_in n)
kind_first n true t u a b bound is_s is_t is_u is_a is_b =
    let both = and_parts (part n 0 2 == 3) (part n 2 2 == 0) is_s in
    sync_first n bound (eqb-true _ _ both.0) (eqb-true _ _ both.1)
kind_first n false true u a b bound is_s is_t is_u is_a is_b =
    let both = and_parts (part n 0 2 == 3) (part n 2 2 == 1) is_t in
    trap_first n bound (eqb-true _ _ both.0) (eqb-true _ _ both.1)
kind_first n false false true a b bound is_s is_t is_u is_a is_b =
    let both = and_parts (part n 0 2 == 3) (part n 2 2 == 3) is_u in
    support_first n bound (eqb-true _ _ both.0) (eqb-true _ _ both.1)
kind_first n false false false true b bound is_s is_t is_u is_a is_b = plain_first n bound (eqb-true _ _ is_a)
kind_first n false false false false true bound is_s is_t is_u is_a is_b =
    branches_first n (part n 2 5 == 0) bound (eqb-true _ _ is_b) refl
kind_first n false false false false false bound is_s is_t is_u is_a is_b = rw (is_s, is_t, is_u, is_a, is_b) refl

size_first : (bytes : List ℕ) (none many : Bool) → IsBytes bytes → (length bytes == 0) ≡ none
    → ltb 18 (length bytes) ≡ many
    → cond none (Err Empty) (cond many (Err TooLong) (reading_of_bits (bits_of bytes)))
    ≡ fault_or (cond none (Some Empty) (cond many (Some TooLong) (first_fault_of_bits (bits_of bytes))))
    (packet_in (bits_of bytes))
size_first bytes true many each is_none is_many = refl
size_first bytes false true each is_none is_many = refl
size_first bytes false false each is_none is_many =
    let some : 1 ≤ length bytes = (let nonempty = eqb-false _ _ is_none in omega arith) in
    let few : length bytes ≤ 18 = ltb-false _ _ is_many in
    let bound : bits_of bytes < 2 ^ 144 =
    extended-lt (8 * length bytes) (number bytes) (omega arith) (omega arith) (number-lt bytes each) in
    kind_first (bits_of bytes) (is_sync (bits_of bytes)) (is_trap (bits_of bytes)) (is_support (bits_of bytes))
    (is_address_alone (bits_of bytes)) (part (bits_of bytes) 0 2 == 1) bound refl refl refl refl refl

pub reading_by_kind-is : (bytes : List ℕ) → IsBytes bytes → reading_by_kind bytes ≡ reading bytes
unfolding reading_by_kind
reading_by_kind-is bytes each = size_first bytes (length bytes == 0) (ltb 18 (length bytes)) each refl refl

place_by_numbers : (n format subformat : ℕ) (none : Bool) → part n 0 2 ≡ format → part n 2 2 ≡ subformat
    → (part n 2 5 == 0) ≡ none → format < 4 → subformat < 4
    → reading_at_place n (address_place n) ≡ reading_of_bits n
place_by_numbers n zero s none f_is s_is none_is f_less s_less = rw f_is (rw f_is refl)
place_by_numbers n (suc zero) s true f_is s_is none_is f_less s_less = rw (f_is, none_is) (rw f_is refl)
place_by_numbers n (suc zero) s false f_is s_is none_is f_less s_less = rw (f_is, none_is) refl
place_by_numbers n (suc (suc zero)) s none f_is s_is none_is f_less s_less = rw f_is refl
place_by_numbers n (suc (suc (suc zero))) zero none f_is s_is none_is f_less s_less = rw (f_is, s_is) (rw f_is refl)
place_by_numbers n (suc (suc (suc zero))) (suc zero) none f_is s_is none_is f_less s_less =
    rw (f_is, s_is) (rw f_is refl)
place_by_numbers n (suc (suc (suc zero))) (suc (suc zero)) none f_is s_is none_is f_less s_less =
    rw (f_is, s_is) (rw f_is refl)
place_by_numbers n (suc (suc (suc zero))) (suc (suc (suc zero))) none f_is s_is none_is f_less s_less =
    rw (f_is, s_is) (rw f_is refl)
place_by_numbers n (suc (suc (suc zero))) (suc (suc (suc (suc s)))) none f_is s_is none_is f_less s_less =
    absurd (omega arith)
place_by_numbers n (suc (suc (suc (suc f)))) s none f_is s_is none_is f_less s_less = absurd (omega arith)

place-is : (n : ℕ) → reading_at_place n (address_place n) ≡ reading_of_bits n
place-is n =
    place_by_numbers n (part n 0 2) (part n 2 2) (part n 2 5 == 0) refl refl refl (part-lt n 0 2) (part-lt n 2 2)

by_place : (bytes : List ℕ) → reading_by_place bytes ≡ reading_by_kind bytes
unfolding reading_by_place reading_by_kind
by_place bytes =
    ap (λ r. cond (length bytes == 0) (Err Empty) (cond (ltb 18 (length bytes)) (Err TooLong) r))
    (place-is (bits_of bytes))

pub reading_by_place-is : (bytes : List ℕ) → IsBytes bytes → reading_by_place bytes ≡ reading bytes
reading_by_place-is bytes each = by_place bytes ∙ reading_by_kind-is bytes each
