-- What unpacks to one packet: by what unpacking says of the bytes.
use Rattle.std.proofs.Common.{◌∙◌, sym, arith}
use Rattle.payload.proofs.NumbersOfBytes.{bytes_from_each}
use Rattle.payload.proofs.SameLemmas.{alike_by}
use Rattle.payload.proofs.comparing.same_otherwise.Goals as goal

pub returns-in-Bytes-clause-sent_bytes : goal.returns-in-Bytes-clause-sent_bytes
returns-in-Bytes-clause-sent_bytes c = bytes_from_each c.args.sent.now (λ i. omega (arith, c.type_inv.sent i))

pub returns-in-Bytes-clause-came_bytes : goal.returns-in-Bytes-clause-came_bytes
returns-in-Bytes-clause-came_bytes c = bytes_from_each c.args.came.now (λ i. omega (arith, c.type_inv.came i))

pub returns-in-Ok-Ok-clause-sent_bytes : goal.returns-in-Ok-Ok-clause-sent_bytes
returns-in-Ok-Ok-clause-sent_bytes c = bytes_from_each c.args.sent.now (λ i. omega (arith, c.type_inv.sent i))

pub returns-in-Ok-Ok-clause-came_bytes : goal.returns-in-Ok-Ok-clause-came_bytes
returns-in-Ok-Ok-clause-came_bytes c = bytes_from_each c.args.came.now (λ i. omega (arith, c.type_inv.came i))

pub returns-in_default-clause-sent_bytes : goal.returns-in_default-clause-sent_bytes
returns-in_default-clause-sent_bytes c = bytes_from_each c.args.sent.now (λ i. omega (arith, c.type_inv.sent i))

pub returns-in_default-clause-came_bytes : goal.returns-in_default-clause-came_bytes
returns-in_default-clause-came_bytes c = bytes_from_each c.args.came.now (λ i. omega (arith, c.type_inv.came i))

pub returns-in_default-2-clause-sent_bytes : goal.returns-in_default-2-clause-sent_bytes
returns-in_default-2-clause-sent_bytes c = bytes_from_each c.args.sent.now (λ i. omega (arith, c.type_inv.sent i))

pub returns-in_default-2-clause-came_bytes : goal.returns-in_default-2-clause-came_bytes
returns-in_default-2-clause-came_bytes c = bytes_from_each c.args.came.now (λ i. omega (arith, c.type_inv.came i))

pub returns-in-Ok-Ok-clause-alike : goal.returns-in-Ok-Ok-clause-alike
returns-in-Ok-Ok-clause-alike c =
    let sent = c.in-Ok-Ok.sent in
    let came = c.in-Ok-Ok.came in
    alike_by c.args.by c.args.sent.now c.args.came.now sent came c.same_packet.result c.in-Packets.is
    (sym c.unpack.ensures.value ∙ c.in-Ok-Ok.is-0) (sym c.unpack-in-Packets.ensures.value ∙ c.in-Ok-Ok.is-1)
    c.same_packet.ensures.0 c.same_packet.ensures.1
