-- The prover does not part the line at the write that failed: its three parts are put together by hand.
use Rattle.std.proofs.Common.{◌≡◌, ◌∙◌, ◌++◌, ℕ, List, append_assoc, ap, codes, subst, sym}
use Rattle.std.proofs.KnownBytes.{Appends-trans}
use Rattle.std.specs.Fmt.{decimal}
use Rattle.std.specs.Io.KnownBytes.{Appends}
use Rattle.hex.specs.Hex.{encode_lower}
use Rattle.output.specs.Begun.{AppendsBeginning}
use Rattle.output.proofs.Beginnings.{begun_behind, begun_in_front, whole_begun}
use Rattle.message.specs.declared.message.Message.{Message}
use Rattle.captures.specs.HexLines.{hex_line}
use Rattle.captures.proofs.lines.write_line.Goals as goal

-- The message that the line is of.
abbrev message : ℕ → ℕ → List ℕ → Message
message hart number payload = record { hart = hart; number = number; payload = payload }

-- What stands before the digits.
abbrev numbers : Message → List ℕ
numbers m = decimal m.hart ++ (codes " " ++ (decimal m.number ++ codes " "))

parted : (m : Message) → hex_line m ≡ numbers m ++ (encode_lower m.payload ++ codes "\n")
parted m =
    let digits = encode_lower m.payload ++ codes "\n" in
    ap (λ l. decimal m.hart ++ (codes " " ++ l)) (sym (append_assoc (decimal m.number) (codes " ") digits))
    ∙ sym (append_assoc (decimal m.hart) (codes " " ++ (decimal m.number ++ codes " ")) digits)

pub returns-in_err-write_text-clause-begun : goal.returns-in_err-write_text-clause-begun
returns-in_err-write_text-clause-begun g c =
    let m = message c.args.hart c.args.number c.args.payload.now in
    let old = g.W.Write.contents c.args.sink.now in
    let new = g.W.Write.contents c.write_text.new.out in
    subst (λ l. AppendsBeginning l old new) (sym (parted m))
    (begun_in_front (numbers m) (encode_lower m.payload ++ codes "\n") old new c.write_text.ensures.begun)

pub returns-in_err-write_bytes-clause-begun : goal.returns-in_err-write_bytes-clause-begun
returns-in_err-write_bytes-clause-begun g c =
    let m = message c.args.hart c.args.number c.args.payload.now in
    let old = g.W.Write.contents c.args.sink.now in
    let mid = g.W.Write.contents c.write_text.new.out in
    let new = g.W.Write.contents c.write_bytes.new.out in
    let digits = c.in-Ok.ensures.written ∙ ap encode_lower c.bytes-bytes.ensures.same in
    subst (λ l. AppendsBeginning l old new) (sym (parted m))
    (begun_behind (numbers m) (encode_lower m.payload ++ codes "\n") old mid new c.in_ok-write_text.ensures.whole
    (begun_in_front (encode_lower m.payload) (codes "\n") mid new
    (subst (λ l. AppendsBeginning l mid new) digits c.write_bytes.ensures.begun)))

pub returns-clause-text : goal.returns-clause-text
returns-clause-text g c =
    let m = message c.args.hart c.args.number c.args.payload.now in
    let old = g.W.Write.contents c.args.sink.now in
    let mid = g.W.Write.contents c.write_text.new.out in
    let late = g.W.Write.contents c.write_bytes.new.out in
    let new = g.W.Write.contents c.write_bytes-2.new.out in
    let digits = c.in-Ok.ensures.written ∙ ap encode_lower c.bytes-bytes.ensures.same in
    subst (Appends old new) (sym (parted m))
    (Appends-trans old mid new (numbers m) (encode_lower m.payload ++ codes "\n") c.in_ok-write_text.ensures.whole
    (Appends-trans mid late new (encode_lower m.payload) (codes "\n")
    (subst (Appends mid late) digits c.in_ok-write_bytes.ensures.whole) c.in_ok-write_bytes-2.ensures.whole))

pub returns-clause-begun : goal.returns-clause-begun
returns-clause-begun g c =
    whole_begun (hex_line (message c.args.hart c.args.number c.args.payload.now)) (g.W.Write.contents c.args.sink.now)
    (g.W.Write.contents c.write_bytes-2.new.out) (returns-clause-text g c)

pub returns-in_err-write_bytes-2-clause-begun : goal.returns-in_err-write_bytes-2-clause-begun
returns-in_err-write_bytes-2-clause-begun g c =
    let m = message c.args.hart c.args.number c.args.payload.now in
    let old = g.W.Write.contents c.args.sink.now in
    let mid = g.W.Write.contents c.write_text.new.out in
    let late = g.W.Write.contents c.write_bytes.new.out in
    let new = g.W.Write.contents c.write_bytes-2.new.out in
    let digits = c.in-Ok.ensures.written ∙ ap encode_lower c.bytes-bytes.ensures.same in
    subst (λ l. AppendsBeginning l old new) (sym (parted m))
    (begun_behind (numbers m) (encode_lower m.payload ++ codes "\n") old mid new c.in_ok-write_text.ensures.whole
    (begun_behind (encode_lower m.payload) (codes "\n") mid late new
    (subst (Appends mid late) digits c.in_ok-write_bytes.ensures.whole) c.write_bytes-2.ensures.begun))
