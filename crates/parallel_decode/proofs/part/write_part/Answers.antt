-- One packet more at a time: by lemmas on packets and rows, which no tactic finds.
use Rattle.std.proofs.Common.{◌≡◌, ◌+◌, ◌∙◌, Err, [], arith, le_trans, refl, subst, sym, OnOk}
use Rattle.std.proofs.lemmas.Grind.{common_steps}
use Rattle.rvclass.specs.Fetch.{words_of}
use Rattle.parallel_decode.proofs.PutLemmas.{put_held, put_of}
use Rattle.parallel_decode.proofs.RowLemmas.{Reached, can_follow, is_found, never_none, next_begun, reached_all}
use Rattle.parallel_decode.proofs.RowLemmas.{reached_more, reached_none}
use Rattle.parallel_decode.proofs.SplitLemmas.{rows}
use Rattle.parallel_decode.specs.Put.{IsPut}
use Rattle.parallel_decode.proofs.part.write_part.Goals as goal

pub loop-place-init : goal.loop-place-init
loop-place-init g c = record {
  reached = λ log is.
      let words = words_of c.args.program.now in
      let out = g.O.Write.contents c.args.out.now in
      subst (λ room. Reached words c.args.bytes.now c.args.places.now c.args.decoder log is 0 c.args.decoder [] room out out)
      (sym c.clear.ensures.items)
      (reached_none words c.args.bytes.now c.args.places.now c.args.decoder log is [] out);
  piece = refl;
  room = omega (arith, c.clear.ensures.capacity);
}

pub unreachable-requires : goal.unreachable-requires
unreachable-requires g c =
    let log = c.requires.part.0 in
    let is = c.requires.part.1 in
    never_none (words_of c.args.program.now) c.args.bytes.now c.args.places.now c.args.decoder log is []
    (g.O.Write.contents c.args.out.now) c.loop-place.place-index c.loop-place.decoder c.loop-place.rows.room.items
    (g.O.Write.contents c.loop-place.out) (c.loop-place.invariant.reached log is) 0
    c.loop-place-test.true c.packet_at.result c.packet_at.ensures.read c.in-None.is

pub write_packet-requires-clause-next : goal.write_packet-requires-clause-next
write_packet-requires-clause-next g c =
    let log = c.requires.part.0 in
    let is = c.requires.part.1 in
    let words = words_of c.args.program.now in
    let r = c.loop-place.invariant.reached log is in
    can_follow words c.args.bytes.now c.args.places.now c.args.decoder log is [] (g.O.Write.contents c.args.out.now)
    c.loop-place.place-index c.loop-place.decoder c.loop-place.rows.room.items (g.O.Write.contents c.loop-place.out) r
    0 c.loop-place-test.true c.in-Some.packet
    (is_found words c.args.bytes.now c.args.places.now c.args.decoder log is [] (g.O.Write.contents c.args.out.now)
    c.loop-place.place-index c.loop-place.decoder c.loop-place.rows.room.items (g.O.Write.contents c.loop-place.out) r
    0 c.loop-place-test.true c.packet_at.result c.in-Some.packet c.packet_at.ensures.read
    c.in-Some.is)

pub loop-place-preserved : goal.loop-place-preserved
loop-place-preserved g c = record {
  reached = λ log is.
      let words = words_of c.args.program.now in
      let r = c.loop-place.invariant.reached log is in
      let old = g.O.Write.contents c.args.out.now in
      let mid = g.O.Write.contents c.loop-place.out in
      let new = g.O.Write.contents c.write_packet.new.out in
      let same = is_found words c.args.bytes.now c.args.places.now c.args.decoder log is [] old c.loop-place.place-index
      c.loop-place.decoder c.loop-place.rows.room.items mid r 0 c.loop-place-test.true
      c.packet_at.result c.in-Some.packet c.packet_at.ensures.read c.in-Some.is in
      subst (λ ended. OnOk ended (Reached words c.args.bytes.now c.args.places.now c.args.decoder log is
      (c.loop-place.place-index + 1) c.write_packet.new.decoder []
      c.write_packet.new.room.items old new)) c.in_ok-write_packet-in-Some.was
      (reached_more words c.args.bytes.now c.args.places.now c.args.decoder log is [] old c.loop-place.place-index
      c.loop-place.decoder c.loop-place.rows.room.items mid r 0 c.loop-place-test.true
      c.in-Some.packet same c.write_packet.new.decoder c.write_packet.result c.write_packet.new.room.items new
      (c.write_packet.ensures.rows _ _ r.stands));
  piece = c.write_packet.ensures.piece ∙ c.loop-place.invariant.piece;
  room = le_trans c.loop-place.invariant.room c.write_packet.ensures.room;
}

pub returns-in_err-write_packet-in-Some : goal.returns-in_err-write_packet-in-Some
returns-in_err-write_packet-in-Some g c = λ log is.
    let words = words_of c.args.program.now in
    let r = c.loop-place.invariant.reached log is in
    let old = g.O.Write.contents c.args.out.now in
    let mid = g.O.Write.contents c.loop-place.out in
    let new = g.O.Write.contents c.write_packet.new.out in
    let same = is_found words c.args.bytes.now c.args.places.now c.args.decoder log is [] old c.loop-place.place-index
    c.loop-place.decoder c.loop-place.rows.room.items mid r 0 c.loop-place-test.true
    c.packet_at.result c.in-Some.packet c.packet_at.ensures.read c.in-Some.is in
    let why = c.in_err-write_packet-in-Some.field-0.0 in
    let failed : c.from_residual.result ≡ Err why = grind (arith, common_steps) in
    subst (λ ended. IsPut ended old new (rows log)) (sym failed) (
      next_begun words c.args.bytes.now c.args.places.now c.args.decoder log is [] old c.loop-place.place-index
          c.loop-place.decoder c.loop-place.rows.room.items mid r 0 c.loop-place-test.true
          c.in-Some.packet same c.write_packet.new.decoder c.write_packet.result c.write_packet.new.room.items new
          (c.write_packet.ensures.rows _ _ r.stands),
      c.in_err-write_packet-in-Some.ensures.fault,
    )

pub returns : goal.returns
returns g c = λ log is.
    let old = g.O.Write.contents c.args.out.now in
    let mid = g.O.Write.contents c.loop-place.out in
    let new = g.O.Write.contents c.end_log_in.new.sink in
    let held = c.loop-place.rows.room.items in
    put_held c.end_log_in.result old mid new held (rows log)
    (reached_all (words_of c.args.program.now) c.args.bytes.now c.args.places.now c.args.decoder log is [] old
    c.loop-place.place-index c.loop-place.decoder held mid (c.loop-place.invariant.reached log is)
    (omega (arith, c.loop-place-test.false)))
    (put_of c.end_log_in.result mid new held c.end_log_in.ensures.written c.end_log_in.ensures.begun
    c.end_log_in.ensures.fault)
