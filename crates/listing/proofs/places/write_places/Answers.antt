-- The prover does not part the text at the write that failed: its parts are put together by hand.
use Rattle.std.proofs.Common.{arith, codes, option_map}
use Rattle.std.proofs.lemmas.Result.{on_ok_weaker}
use Rattle.output.proofs.Beginnings.{begun_behind, begun_in_front}
use Rattle.listing.proofs.PlacesParts.{between_begun, count_begun, first_begun, last_begun, places_written}
use Rattle.listing.proofs.places.write_places.Goals as goal

pub returns-in_err-write_bytes-2-clause-begun : goal.returns-in_err-write_bytes-2-clause-begun
returns-in_err-write_bytes-2-clause-begun g c =
    rw c.if-count-eq1.true (begun_in_front (codes "1 event, ") _ (g.W.Write.contents c.args.sink.now)
    (g.W.Write.contents c.write_bytes-then-count-eq1.new.out) c.write_bytes-then-count-eq1.ensures.begun)

pub returns-then-count-eq1-clause-begun : goal.returns-then-count-eq1-clause-begun
returns-then-count-eq1-clause-begun g c =
    rw c.if-count-eq1.true (begun_behind (codes "1 event, ") _ (g.W.Write.contents c.args.sink.now)
    (g.W.Write.contents c.write_bytes-then-count-eq1.new.out) (g.W.Write.contents c.write_place.new.sink)
    c.in_ok-write_bytes-2.ensures.whole c.write_place.ensures.begun)

pub returns-in_err-write_text-clause-begun : goal.returns-in_err-write_text-clause-begun
returns-in_err-write_text-clause-begun g c =
    count_begun (option_map (λ file. file.now) c.args.symbols) c.args.count c.args.first c.args.last
    (omega (arith, c.if-count-eq0.false, c.if-count-eq1.false))
    (g.W.Write.contents c.args.sink.now) (g.W.Write.contents c.write_text.new.out) c.write_text.ensures.begun

pub returns-in_err-write_place-clause-begun : goal.returns-in_err-write_place-clause-begun
returns-in_err-write_place-clause-begun g c =
    first_begun (option_map (λ file. file.now) c.args.symbols) c.args.count c.args.first c.args.last
    (omega (arith, c.if-count-eq0.false, c.if-count-eq1.false))
    (g.W.Write.contents c.args.sink.now) (g.W.Write.contents c.write_text.new.out) c.in_ok-write_text.ensures.whole
    (g.W.Write.contents c.write_place-2.new.sink) c.write_place-2.ensures.begun

pub returns-in_err-write_bytes-3-clause-begun : goal.returns-in_err-write_bytes-3-clause-begun
returns-in_err-write_bytes-3-clause-begun g c =
    between_begun (option_map (λ file. file.now) c.args.symbols) c.args.count c.args.first c.args.last
    (omega (arith, c.if-count-eq0.false, c.if-count-eq1.false))
    (g.W.Write.contents c.args.sink.now) (g.W.Write.contents c.write_text.new.out) c.in_ok-write_text.ensures.whole
    (g.W.Write.contents c.write_place-2.new.sink) c.in_ok-write_place.ensures.text
    (g.W.Write.contents c.write_bytes-2.new.out) c.write_bytes-2.ensures.begun

pub returns-clause-text : goal.returns-clause-text
returns-clause-text g c =
    on_ok_weaker c.write_place-3.result
    (places_written (option_map (λ file. file.now) c.args.symbols) c.args.count c.args.first c.args.last
    (omega (arith, c.if-count-eq0.false, c.if-count-eq1.false))
    (g.W.Write.contents c.args.sink.now) (g.W.Write.contents c.write_text.new.out) c.in_ok-write_text.ensures.whole
    (g.W.Write.contents c.write_place-2.new.sink) c.in_ok-write_place.ensures.text
    (g.W.Write.contents c.write_bytes-2.new.out) c.in_ok-write_bytes-3.ensures.whole
    (g.W.Write.contents c.write_place-3.new.sink))
    c.write_place-3.ensures.text

pub returns-clause-begun : goal.returns-clause-begun
returns-clause-begun g c =
    last_begun (option_map (λ file. file.now) c.args.symbols) c.args.count c.args.first c.args.last
    (omega (arith, c.if-count-eq0.false, c.if-count-eq1.false))
    (g.W.Write.contents c.args.sink.now) (g.W.Write.contents c.write_text.new.out) c.in_ok-write_text.ensures.whole
    (g.W.Write.contents c.write_place-2.new.sink) c.in_ok-write_place.ensures.text
    (g.W.Write.contents c.write_bytes-2.new.out) c.in_ok-write_bytes-3.ensures.whole
    (g.W.Write.contents c.write_place-3.new.sink) c.write_place-3.ensures.begun
