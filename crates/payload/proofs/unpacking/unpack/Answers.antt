-- The clauses are laws of `reading`, which the search does not look for.
use Rattle.std.proofs.Common.{◌≡◌, ℕ, List, Result, Ok, Err, sym, ap, ◌∙◌, arith}
use Rattle.std.specs.Prelude.{IfOk}
use Rattle.std.specs.Result.{result_err}
use Rattle.payload.specs.Bytes.{IsBytes}
use Rattle.payload.specs.Profile.{InProfile}
use Rattle.payload.specs.Spelling.{Spelt}
use Rattle.payload.specs.Faults.{bits_of, first_fault}
use Rattle.payload.specs.Reading.{packet_in, reading}
use Rattle.payload.specs.declared.packet.Packet.{Packet}
use Rattle.payload.specs.declared.fault.PackFault.{PackFault}
use Rattle.payload.proofs.NumbersOfBytes.{bytes_from_each}
use Rattle.payload.proofs.FirstFaults.{reading_by_place-is}
use Rattle.payload.proofs.ReadingLaws.{reading-found, reading-only, result_err-fault_or}
use Rattle.payload.proofs.unpacking.unpack.Goals as goal

found_by : (bytes : List ℕ) (r : Result Packet PackFault) → IsBytes bytes → r ≡ reading bytes
    → IfOk r (λ p. InProfile p × Spelt bytes p)
found_by bytes (Ok p) each e = reading-found bytes p each (sym e)
found_by bytes (Err f) each e = tt

pub returns-clause-found : goal.returns-clause-found
returns-clause-found c =
    let each = bytes_from_each c.args.bytes.now (λ i. omega (arith, c.type_inv.bytes i)) in
    found_by c.args.bytes.now c.unpacked.result each (c.unpacked.ensures ∙ reading_by_place-is c.args.bytes.now each)

pub returns-clause-only : goal.returns-clause-only
returns-clause-only c = λ p h spelt.
    let each = bytes_from_each c.args.bytes.now (λ i. omega (arith, c.type_inv.bytes i)) in
    c.unpacked.ensures ∙ reading_by_place-is c.args.bytes.now each ∙ reading-only c.args.bytes.now p h spelt

pub returns-clause-fault : goal.returns-clause-fault
returns-clause-fault c =
    let each = bytes_from_each c.args.bytes.now (λ i. omega (arith, c.type_inv.bytes i)) in
    ap result_err (c.unpacked.ensures ∙ reading_by_place-is c.args.bytes.now each)
    ∙ result_err-fault_or (first_fault c.args.bytes.now) (packet_in (bits_of c.args.bytes.now))

pub returns-clause-value : goal.returns-clause-value
returns-clause-value c =
    let each = bytes_from_each c.args.bytes.now (λ i. omega (arith, c.type_inv.bytes i)) in
    c.unpacked.ensures ∙ reading_by_place-is c.args.bytes.now each
