-- The prover tries no chain of steps by itself: what each step found is handed to it, in order.
use Rattle.std.proofs.Common.{◌≡◌, ◌∙◌, List, Option, ap, subst, ℕ}
use Rattle.std.proofs.KnownBytes.{Keeps-refl}
use Rattle.std.specs.Io.KnownBytes.{Appends}
use Rattle.output.specs.Begun.{AppendsBeginning}
use Rattle.command_inputs.proofs.Runs.{appends-keeps, prints}
use Rattle.listing.specs.declared.form.Form.{Form}
use Rattle.capture_commands.specs.Listed.{CanTreat}
use Rattle.capture_commands.specs.ListedFormats.{form_of, treated_in}
use Rattle.capture_commands.specs.ListedSalvaged.{TreatsHarts, messages_of}
use Rattle.capture_commands.specs.steps.Inputs.{names_in}
use Rattle.salvage_reports.specs.HartRows.{in_rows}
use Rattle.capture_commands.proofs.TreatedRuns.{treated_cut, treated_printed}
use Rattle.capture_commands.proofs.salvaged_listing.list_found.Goals.{After-write_treated_in}
use Rattle.capture_commands.proofs.salvaged_listing.list_found.Goals as goal

module _ (g : _) (c : After-write_treated_in g) where
  abbrev old : Option (List ℕ)
  old = g.O.Write.contents c.args.out.now

  abbrev mid : Option (List ℕ)
  mid = g.O.Write.contents c.write_treated_in.new.sink

  abbrev form : Form
  form = form_of c.args.asked.now.format c.args.asked.now.rows

  abbrev text : List ℕ
  text =
      treated_in c.args.asked.now.format c.args.asked.now.rows c.args.input.now.only (names_in c.args.input.now)
      c.args.found.now.header c.args.input.now.bytes.now (in_rows form
      (messages_of c.args.input.now.only c.args.found.now.header c.args.input.now.bytes.now) c.in_ok-treated.treated.items)

  -- The rows are those of what is done with the messages, and both buffers are handed over as slices.
  rows_are : c.as_slice-2.result.now
      ≡ in_rows form (messages_of c.args.input.now.only c.args.found.now.header c.args.input.now.bytes.now)
      c.in_ok-treated.treated.items
  rows_are =
      c.as_slice-2.ensures.value ∙ c.in_ok-rows.ensures
      ∙ ap (λ (one : Form). in_rows one
      (messages_of c.args.input.now.only c.args.found.now.header c.args.input.now.bytes.now) c.as_slice.result.now)
      c.form_of-form.ensures
      ∙ ap (in_rows form (messages_of c.args.input.now.only c.args.found.now.header c.args.input.now.bytes.now))
      c.as_slice.ensures.value

  begun : AppendsBeginning text old mid
  begun =
      subst (λ treated. AppendsBeginning (treated_in c.args.asked.now.format c.args.asked.now.rows c.args.input.now.only
      (names_in c.args.input.now) c.args.found.now.header c.args.input.now.bytes.now
      treated) old mid) rows_are c.write_treated_in.ensures.begun

pub returns-in_err-write_treated_in-clause-cut : goal.returns-in_err-write_treated_in-clause-cut
returns-in_err-write_treated_in-clause-cut g c =
    let new = g.O.Write.contents c.write_treated_in.new.sink in
    treated_cut c.args.asked.now.format c.args.asked.now.rows c.args.input.now.only c.args.asked.now.harts c.args.input.now.program.now (names_in c.args.input.now)
    c.args.input.now.bytes.now c.args.found.now c.requires c.in_ok-treated.treated.items c.in_ok-treated.ensures
    (g.O.Write.contents c.args.out.now) new new
    (begun g (goal.at.returns-in_err-write_treated_in-clause-cut g c).After-write_treated_in) (Keeps-refl new)

pub returns-in_err-flush-clause-cut : goal.returns-in_err-flush-clause-cut
returns-in_err-flush-clause-cut g c =
    treated_cut c.args.asked.now.format c.args.asked.now.rows c.args.input.now.only c.args.asked.now.harts c.args.input.now.program.now (names_in c.args.input.now)
    c.args.input.now.bytes.now c.args.found.now c.requires c.in_ok-treated.treated.items c.in_ok-treated.ensures
    (g.O.Write.contents c.args.out.now) (g.O.Write.contents c.write_treated_in.new.sink)
    (g.O.Write.contents c.flush.new.self)
    (begun g (goal.at.returns-in_err-flush-clause-cut g c).After-write_treated_in) c.flush.ensures.bytes

pub returns-clause-cut : goal.returns-clause-cut
returns-clause-cut g c =
    treated_cut c.args.asked.now.format c.args.asked.now.rows c.args.input.now.only c.args.asked.now.harts c.args.input.now.program.now (names_in c.args.input.now)
    c.args.input.now.bytes.now c.args.found.now c.requires c.in_ok-treated.treated.items c.in_ok-treated.ensures
    (g.O.Write.contents c.args.out.now) (g.O.Write.contents c.write_treated_in.new.sink)
    (g.O.Write.contents c.flush.new.self)
    (begun g (goal.at.returns-clause-cut g c).After-write_treated_in) c.flush.ensures.bytes

pub returns-clause-printed : goal.returns-clause-printed
returns-clause-printed g c =
    let symbols = names_in c.args.input.now in
    let bytes = c.args.input.now.bytes.now in
    let only = c.args.input.now.only in
    let found = c.args.found.now in
    let treated = c.in_ok-treated.treated.items in
    let old = g.O.Write.contents c.args.out.now in
    let mid = g.O.Write.contents c.write_treated_in.new.sink in
    let new = g.O.Write.contents c.flush.new.self in
    let text = treated_in c.args.asked.now.format c.args.asked.now.rows only symbols found.header bytes
    (in_rows (form_of c.args.asked.now.format c.args.asked.now.rows) (messages_of only found.header bytes) treated) in
    prints (TreatsHarts c.args.asked.now.format c.args.asked.now.rows only c.args.asked.now.harts c.args.input.now.program.now symbols bytes)
    (CanTreat only c.args.asked.now.harts bytes) c.ended.result old new (record {
      text = text;
      prints = treated_printed c.args.asked.now.format c.args.asked.now.rows only c.args.asked.now.harts c.args.input.now.program.now symbols bytes found
          c.requires treated c.in_ok-treated.ensures c.ended.result c.ended.ensures.value;
      appended = appends-keeps old mid new text
          (subst (λ treated. Appends old mid (treated_in c.args.asked.now.format c.args.asked.now.rows only symbols found.header bytes treated))
          (rows_are g (goal.at.returns-clause-printed g c).After-write_treated_in)
          c.in_ok-write_treated_in.ensures.text) c.flush.ensures.bytes;
    })
