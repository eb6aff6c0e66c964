-- The prover does not part a text in three: the lemmas on it are handed to it.
use Rattle.std.specs.Prelude.{option_map}
use Rattle.std.proofs.Common.{◌++◌, Global, List, ℕ, subst}
use Rattle.std.specs.Io.KnownBytes.{Appends}
use Rattle.output.specs.Begun.{AppendsBeginning}
use Rattle.output.proofs.Beginnings.{begun_behind, begun_between, begun_in_front}
use Rattle.output.proofs.Items.{ok_behind}
use Rattle.parallel_decode.specs.EachHart.{joined_harts}
use Rattle.salvaging.specs.declared.salvaged.SalvagedHart.{SalvagedHart}
use Rattle.salvage_reports.specs.HartItems.{items_of}
use Rattle.salvage_reports.specs.Layouts.{front_text}
use Rattle.salvage_reports.specs.steps.Harts.{ending_text, own_text}
use Rattle.salvage_reports.proofs.found_writing.write_report.Goals.{After-write_front}
use Rattle.salvage_reports.proofs.found_writing.write_report.Goals as goal

module _ (g : _) (c : After-write_front g) where
  -- The texts of harts, and what comes after them.
  abbrev harts_text : List (SalvagedHart Global) → List ℕ
  harts_text harts =
      joined_harts (own_text c.args.style.layout (option_map (λ file. file.now) c.args.style.symbols) c.args.found.now)
      c.args.found.now.only.first harts

  abbrev harts : List ℕ
  harts = harts_text (items_of c.args.found.now.only c.args.found.now.salvaged.harts.items)

  abbrev rest : List ℕ
  rest = ending_text c.args.style.layout c.args.found.now c.args.bytes.now

pub returns-in_err-write_front-clause-begun : goal.returns-in_err-write_front-clause-begun
returns-in_err-write_front-clause-begun g c =
    let at = (goal.at.returns-in_err-write_front-clause-begun g c).After-write_front in
    begun_in_front (front_text c.args.style.layout) (harts g at ++ rest g at) (g.O.Write.contents c.args.out.now)
    (g.O.Write.contents c.write_front.new.out) c.write_front.ensures.begun

pub returns-in_err-write_harts-clause-begun : goal.returns-in_err-write_harts-clause-begun
returns-in_err-write_harts-clause-begun g c =
    let at = (goal.at.returns-in_err-write_harts-clause-begun g c).After-write_front in
    let mid = g.O.Write.contents c.write_front.new.out in
    let new = g.O.Write.contents c.write_harts.new.out in
    begun_between (front_text c.args.style.layout) (harts g at) (rest g at) (g.O.Write.contents c.args.out.now) mid new
    c.in_ok-write_front.ensures.text
    (subst (λ l. AppendsBeginning (harts_text g at l) mid new) c.harts.ensures c.write_harts.ensures.begun)

pub returns-clause-text : goal.returns-clause-text
returns-clause-text g c =
    let at = (goal.at.returns-clause-text g c).After-write_front in
    let first = g.O.Write.contents c.write_front.new.out in
    let second = g.O.Write.contents c.write_harts.new.out in
    let new = g.O.Write.contents c.write_ending.new.out in
    let ended = c.write_ending.result in
    ok_behind (front_text c.args.style.layout) (harts g at ++ rest g at) (g.O.Write.contents c.args.out.now) first new ended
    c.in_ok-write_front.ensures.text
    (ok_behind (harts g at) (rest g at) first second new ended
    (subst (λ l. Appends first second (harts_text g at l)) c.harts.ensures c.in_ok-write_harts.ensures.text)
    c.write_ending.ensures.text)

pub returns-clause-begun : goal.returns-clause-begun
returns-clause-begun g c =
    let at = (goal.at.returns-clause-begun g c).After-write_front in
    let first = g.O.Write.contents c.write_front.new.out in
    let second = g.O.Write.contents c.write_harts.new.out in
    let new = g.O.Write.contents c.write_ending.new.out in
    begun_behind (front_text c.args.style.layout) (harts g at ++ rest g at) (g.O.Write.contents c.args.out.now) first new
    c.in_ok-write_front.ensures.text
    (begun_behind (harts g at) (rest g at) first second new
    (subst (λ l. Appends first second (harts_text g at l)) c.harts.ensures c.in_ok-write_harts.ensures.text)
    c.write_ending.ensures.begun)
