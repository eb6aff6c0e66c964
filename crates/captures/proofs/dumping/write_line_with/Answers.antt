-- The prover does not part the text at the write that failed: its parts are put together by hand.
use Rattle.std.proofs.Common.{◌++◌, List, ℕ, codes, option_map, subst}
use Rattle.std.specs.Io.KnownBytes.{Appends}
use Rattle.std.proofs.KnownBytes.{Appends-trans}
use Rattle.output.specs.Begun.{AppendsBeginning}
use Rattle.output.proofs.Beginnings.{begun_behind, begun_between, begun_in_front, whole_begun}
use Rattle.captures.specs.Dump.{line_start}
use Rattle.captures.specs.PacketText.{address_name, reading_address}
use Rattle.captures.proofs.dumping.write_line_with.Goals.{After-write_text}
use Rattle.captures.proofs.dumping.write_line_with.Goals as goal

module _ (g : _) (c : After-write_text g) where
  abbrev start : List ℕ
  start = line_start c.args.mode c.args.message.now c.args.read.now

  abbrev name : List ℕ
  name = address_name (option_map (λ file. file.now) c.args.symbols) (reading_address c.args.mode c.args.read.now)

pub returns-in_err-write_text-clause-begun : goal.returns-in_err-write_text-clause-begun
returns-in_err-write_text-clause-begun g c =
    let at = (goal.at.returns-in_err-write_text-clause-begun g c).After-write_text in
    begun_in_front (start g at) (name g at ++ codes "\n") (g.W.Write.contents c.args.sink.now)
    (g.W.Write.contents c.write_text.new.out) c.write_text.ensures.begun

pub returns-in_err-write_address_name-clause-begun : goal.returns-in_err-write_address_name-clause-begun
returns-in_err-write_address_name-clause-begun g c =
    let at = (goal.at.returns-in_err-write_address_name-clause-begun g c).After-write_text in
    begun_between (start g at) (name g at) (codes "\n") (g.W.Write.contents c.args.sink.now)
    (g.W.Write.contents c.write_text.new.out) (g.W.Write.contents c.write_address_name.new.sink)
    c.in_ok-write_text.ensures.whole
    (subst (λ address. AppendsBeginning (address_name (option_map (λ file. file.now) c.args.symbols) address)
    (g.W.Write.contents c.write_text.new.out) (g.W.Write.contents c.write_address_name.new.sink)) c.address_of.ensures
    c.write_address_name.ensures.begun)

pub returns-in_err-write_bytes-clause-begun : goal.returns-in_err-write_bytes-clause-begun
returns-in_err-write_bytes-clause-begun g c =
    let at = (goal.at.returns-in_err-write_bytes-clause-begun g c).After-write_text in
    let mid = g.W.Write.contents c.write_text.new.out in
    let late = g.W.Write.contents c.write_address_name.new.sink in
    let new = g.W.Write.contents c.write_bytes.new.out in
    begun_behind (start g at) (name g at ++ codes "\n") (g.W.Write.contents c.args.sink.now) mid new
    c.in_ok-write_text.ensures.whole
    (begun_behind (name g at) (codes "\n") mid late new
    (subst (λ address. Appends mid late (address_name (option_map (λ file. file.now) c.args.symbols) address))
    c.address_of.ensures c.in_ok-write_address_name.ensures.text)
    c.write_bytes.ensures.begun)

pub returns-clause-text : goal.returns-clause-text
returns-clause-text g c =
    let at = (goal.at.returns-clause-text g c).After-write_text in
    let mid = g.W.Write.contents c.write_text.new.out in
    let late = g.W.Write.contents c.write_address_name.new.sink in
    let new = g.W.Write.contents c.write_bytes.new.out in
    Appends-trans (g.W.Write.contents c.args.sink.now) mid new (start g at) (name g at ++ codes "\n")
    c.in_ok-write_text.ensures.whole
    (Appends-trans mid late new (name g at) (codes "\n")
    (subst (λ address. Appends mid late (address_name (option_map (λ file. file.now) c.args.symbols) address))
    c.address_of.ensures c.in_ok-write_address_name.ensures.text) c.in_ok-write_bytes.ensures.whole)

pub returns-clause-begun : goal.returns-clause-begun
returns-clause-begun g c =
    whole_begun _ (g.W.Write.contents c.args.sink.now) (g.W.Write.contents c.write_bytes.new.out)
    (returns-clause-text g c)
