-- The prover does not part the text at the write that failed: its three parts are put together by hand.
use Rattle.std.proofs.Common.{◌++◌, codes}
use Rattle.std.proofs.KnownBytes.{Appends-trans}
use Rattle.output.proofs.Beginnings.{begun_behind, begun_in_front, whole_begun}
use Rattle.symbols.specs.SymbolText.{distance_text}
use Rattle.symbols.proofs.writing.write_named.Goals as goal

pub returns-in_err-write_bytes-clause-begun : goal.returns-in_err-write_bytes-clause-begun
returns-in_err-write_bytes-clause-begun g c =
    let named = c.args.named.now in
    begun_in_front (codes " <") (named.name.now ++ distance_text named.distance) (g.W.Write.contents c.args.sink.now)
    (g.W.Write.contents c.write_bytes.new.out) c.write_bytes.ensures.begun

pub returns-in_err-write_bytes-2-clause-begun : goal.returns-in_err-write_bytes-2-clause-begun
returns-in_err-write_bytes-2-clause-begun g c =
    let named = c.args.named.now in
    let mid = g.W.Write.contents c.write_bytes.new.out in
    let new = g.W.Write.contents c.write_bytes-2.new.out in
    begun_behind (codes " <") (named.name.now ++ distance_text named.distance) (g.W.Write.contents c.args.sink.now) mid
    new c.in_ok-write_bytes.ensures.whole
    (begun_in_front named.name.now (distance_text named.distance) mid new c.write_bytes-2.ensures.begun)

pub returns-clause-begun : goal.returns-clause-begun
returns-clause-begun g c =
    let named = c.args.named.now in
    let old = g.W.Write.contents c.args.sink.now in
    let mid = g.W.Write.contents c.write_bytes.new.out in
    let late = g.W.Write.contents c.write_bytes-2.new.out in
    let new = g.W.Write.contents c.write_text.new.out in
    whole_begun (codes " <" ++ (named.name.now ++ distance_text named.distance)) old new
    (Appends-trans old mid new (codes " <") (named.name.now ++ distance_text named.distance)
    c.in_ok-write_bytes.ensures.whole
    (Appends-trans mid late new named.name.now (distance_text named.distance) c.in_ok-write_bytes-2.ensures.whole
    c.in_ok-write_text.ensures.whole))

pub returns-in_err-write_text-clause-begun : goal.returns-in_err-write_text-clause-begun
returns-in_err-write_text-clause-begun g c =
    let named = c.args.named.now in
    let old = g.W.Write.contents c.args.sink.now in
    let mid = g.W.Write.contents c.write_bytes.new.out in
    let late = g.W.Write.contents c.write_bytes-2.new.out in
    let new = g.W.Write.contents c.write_text.new.out in
    begun_behind (codes " <") (named.name.now ++ distance_text named.distance) old mid new
    c.in_ok-write_bytes.ensures.whole
    (begun_behind named.name.now (distance_text named.distance) mid late new c.in_ok-write_bytes-2.ensures.whole
    c.write_text.ensures.begun)
