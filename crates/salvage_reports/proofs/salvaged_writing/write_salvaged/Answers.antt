-- What was found is put together with what was written: the steps are handed on, in order, which no tactic does.
use Rattle.std.proofs.Common.{◌⊎◌, None, inr, subst}
use Rattle.std.specs.Io.KnownBytes.{Appends, Keeps}
use Rattle.output.specs.Begun.{AppendsBeginning}
use Rattle.salvage_reports.specs.Found.{IsFound}
use Rattle.salvage_reports.specs.Salvaged.{BeginsSalvaged}
use Rattle.salvage_reports.proofs.FoundBehind.{found_of_capture}
use Rattle.salvage_reports.proofs.SameTexts.{text_same}
use Rattle.salvage_reports.proofs.salvaged_writing.write_salvaged.Goals.{After-write_found}
use Rattle.salvage_reports.proofs.salvaged_writing.write_salvaged.Goals as goal

module _ (g : _) (c : After-write_found g) where
  -- This was found of the capture.
  is : IsFound c.args.only c.args.harts c.args.program.now c.args.bytes.now c.in_ok-found.found
  is =
      found_of_capture c.start_of-start.result.header c.start_of-start.result.fault c.harts_counted-count.result
      c.args.only c.args.harts c.args.program.now c.args.bytes.now c.in_ok-found.found c.start_of-start.ensures
      c.harts_counted-count.ensures c.in_ok-found.ensures

  -- A prefix of its text was written.
  begun : Keeps (g.O.Write.contents c.args.out.now) (g.O.Write.contents c.write_found.new.out)
      ⊎ BeginsSalvaged c.args.layout c.args.only c.args.harts c.args.program.now c.args.bytes.now
      (g.O.Write.contents c.args.out.now) (g.O.Write.contents c.write_found.new.out)
  begun = inr (record {
    header = c.in_ok-found.found.header;
    why = c.in_ok-found.found.fault;
    salvaged = c.in_ok-found.found.salvaged;
    found = is.salvaged;
    begun = subst (λ text. AppendsBeginning text (g.O.Write.contents c.args.out.now)
        (g.O.Write.contents c.write_found.new.out))
        (text_same c.args.only c.args.harts c.args.program.now c.args.bytes.now c.in_ok-found.found is c.args.layout None)
        c.write_found.ensures.begun;
  })

pub returns-in_err-write_found-clause-begun : goal.returns-in_err-write_found-clause-begun
returns-in_err-write_found-clause-begun g c =
    begun g (goal.at.returns-in_err-write_found-clause-begun g c).After-write_found

pub returns-clause-text : goal.returns-clause-text
returns-clause-text g c =
    subst (Appends (g.O.Write.contents c.args.out.now) (g.O.Write.contents c.write_found.new.out))
    (text_same c.args.only c.args.harts c.args.program.now c.args.bytes.now c.in_ok-found.found
    (is g (goal.at.returns-clause-text g c).After-write_found) c.args.layout None) c.in_ok-write_found.ensures.text

pub returns-clause-begun : goal.returns-clause-begun
returns-clause-begun g c = begun g (goal.at.returns-clause-begun g c).After-write_found
