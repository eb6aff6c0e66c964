-- The prover does not part the text at the write that failed: its parts are put together by hand.
use Rattle.std.proofs.Common.{◌++◌, List, ℕ, codes, option_map, subst}
use Rattle.std.specs.Io.KnownBytes.{Appends}
use Rattle.std.proofs.KnownBytes.{Appends-trans}
use Rattle.output.specs.Begun.{AppendsBeginning}
use Rattle.output.proofs.Beginnings.{begun_behind, begun_between, begun_in_front, whole_begun}
use Rattle.retire.specs.Events.{place}
use Rattle.symbols.specs.SymbolText.{name_text}
use Rattle.explaining.specs.ElfImage.{elf_line}
use Rattle.explaining.specs.Explanation.{event_line}
use Rattle.explaining.proofs.writing.write_event_line.Goals.{After-write_text}
use Rattle.explaining.proofs.writing.write_event_line.Goals as goal

module _ (g : _) (c : After-write_text g) where
  abbrev start : List ℕ
  start = codes "  " ++ event_line c.args.line.now.program.now c.args.line.now.before c.args.line.now.event c.args.line.now.why

  abbrev name : List ℕ
  name = name_text (option_map (λ file. file.now) c.args.symbols) (place c.args.line.now.event)

  abbrev below : List ℕ
  below = codes "\n" ++ elf_line c.args.line.now.program.now

pub returns-in_err-write_text-clause-begun : goal.returns-in_err-write_text-clause-begun
returns-in_err-write_text-clause-begun g c =
    let at = (goal.at.returns-in_err-write_text-clause-begun g c).After-write_text in
    begun_in_front (start g at) (name g at ++ below g at) (g.W.Write.contents c.args.sink.now)
    (g.W.Write.contents c.write_text.new.out) c.write_text.ensures.begun

pub returns-in_err-write_name-clause-begun : goal.returns-in_err-write_name-clause-begun
returns-in_err-write_name-clause-begun g c =
    let at = (goal.at.returns-in_err-write_name-clause-begun g c).After-write_text in
    begun_between (start g at) (name g at) (below g at) (g.W.Write.contents c.args.sink.now)
    (g.W.Write.contents c.write_text.new.out) (g.W.Write.contents c.write_name.new.sink)
    c.in_ok-write_text.ensures.whole (subst (λ at. AppendsBeginning (name_text (option_map (λ file. file.now) c.args.symbols) at)
    (g.W.Write.contents c.write_text.new.out) (g.W.Write.contents c.write_name.new.sink)) c.place.ensures
    c.write_name.ensures.begun)

pub returns-in_err-write_text-2-clause-begun : goal.returns-in_err-write_text-2-clause-begun
returns-in_err-write_text-2-clause-begun g c =
    let at = (goal.at.returns-in_err-write_text-2-clause-begun g c).After-write_text in
    let mid = g.W.Write.contents c.write_text.new.out in
    let late = g.W.Write.contents c.write_name.new.sink in
    let new = g.W.Write.contents c.write_text-2.new.out in
    begun_behind (start g at) (name g at ++ below g at) (g.W.Write.contents c.args.sink.now) mid new
    c.in_ok-write_text.ensures.whole
    (begun_behind (name g at) (below g at) mid late new (subst (λ at. Appends mid late (name_text (option_map (λ file. file.now) c.args.symbols) at)) c.place.ensures
    c.in_ok-write_name.ensures.text)
    c.write_text-2.ensures.begun)

pub returns-clause-text : goal.returns-clause-text
returns-clause-text g c =
    let at = (goal.at.returns-clause-text g c).After-write_text in
    let mid = g.W.Write.contents c.write_text.new.out in
    let late = g.W.Write.contents c.write_name.new.sink in
    let new = g.W.Write.contents c.write_text-2.new.out in
    Appends-trans (g.W.Write.contents c.args.sink.now) mid new (start g at) (name g at ++ below g at)
    c.in_ok-write_text.ensures.whole
    (Appends-trans mid late new (name g at) (below g at) (subst (λ at. Appends mid late (name_text (option_map (λ file. file.now) c.args.symbols) at)) c.place.ensures
    c.in_ok-write_name.ensures.text)
    c.in_ok-write_text-2.ensures.whole)

pub returns-clause-begun : goal.returns-clause-begun
returns-clause-begun g c =
    whole_begun _ (g.W.Write.contents c.args.sink.now) (g.W.Write.contents c.write_text-2.new.out)
    (returns-clause-text g c)
