-- The prover does not part the text at the write that failed: its parts are put together by hand.
use Rattle.std.proofs.Common.{◌++◌, List, ℕ, codes}
use Rattle.std.proofs.KnownBytes.{Appends-trans}
use Rattle.output.proofs.Beginnings.{begun_behind, begun_between, begun_in_front, whole_begun}
use Rattle.comparing.specs.Explained.{names_in, row_name, row_start}
use Rattle.comparing.proofs.explanation.write_row.Goals.{After-write_text}
use Rattle.comparing.proofs.explanation.write_row.Goals as goal

module _ (g : _) (c : After-write_text g) where
  abbrev start : List ℕ
  start = row_start c.args.hart c.args.row c.args.kind c.args.event

  abbrev name : List ℕ
  name = row_name (names_in c.args.how.now) c.args.event

pub returns-in_err-write_text-clause-begun : goal.returns-in_err-write_text-clause-begun
returns-in_err-write_text-clause-begun g c =
    let at = (goal.at.returns-in_err-write_text-clause-begun g c).After-write_text in
    begun_in_front (start g at) (name g at ++ codes "\n") (g.W.Write.contents c.args.sink.now)
    (g.W.Write.contents c.write_text.new.out) c.write_text.ensures.begun

pub returns-in_err-write_name-clause-begun : goal.returns-in_err-write_name-clause-begun
returns-in_err-write_name-clause-begun g c =
    let at = (goal.at.returns-in_err-write_name-clause-begun g c).After-write_text in
    begun_between (start g at) (name g at) (codes "\n") (g.W.Write.contents c.args.sink.now)
    (g.W.Write.contents c.write_text.new.out) (g.W.Write.contents c.write_name.new.sink) c.in_ok-write_text.ensures.whole
    c.write_name.ensures.begun

pub returns-in_err-write_bytes-clause-begun : goal.returns-in_err-write_bytes-clause-begun
returns-in_err-write_bytes-clause-begun g c =
    let at = (goal.at.returns-in_err-write_bytes-clause-begun g c).After-write_text in
    let mid = g.W.Write.contents c.write_text.new.out in
    let late = g.W.Write.contents c.write_name.new.sink in
    let new = g.W.Write.contents c.write_bytes.new.out in
    begun_behind (start g at) (name g at ++ codes "\n") (g.W.Write.contents c.args.sink.now) mid new
    c.in_ok-write_text.ensures.whole
    (begun_behind (name g at) (codes "\n") mid late new c.in_ok-write_name.ensures.text c.write_bytes.ensures.begun)

pub returns-clause-text : goal.returns-clause-text
returns-clause-text g c =
    let at = (goal.at.returns-clause-text g c).After-write_text in
    let mid = g.W.Write.contents c.write_text.new.out in
    let late = g.W.Write.contents c.write_name.new.sink in
    let new = g.W.Write.contents c.write_bytes.new.out in
    Appends-trans (g.W.Write.contents c.args.sink.now) mid new (start g at) (name g at ++ codes "\n")
    c.in_ok-write_text.ensures.whole
    (Appends-trans mid late new (name g at) (codes "\n") c.in_ok-write_name.ensures.text
    c.in_ok-write_bytes.ensures.whole)

pub returns-clause-begun : goal.returns-clause-begun
returns-clause-begun g c =
    whole_begun _ (g.W.Write.contents c.args.sink.now) (g.W.Write.contents c.write_bytes.new.out)
    (returns-clause-text g c)
