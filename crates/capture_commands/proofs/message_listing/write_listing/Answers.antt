-- The prover tries no chain of steps by itself: what each step found is handed to it, in order.
use Rattle.std.proofs.Common.{◌≡◌, ◌∙◌, ℕ, List, Option, inl, inr, ap, arith, sym, subst, Err}
use Rattle.std.proofs.KnownBytes.{Keeps-refl}
use Rattle.std.proofs.lemmas.Grind.{common_steps}
use Rattle.std.specs.Prelude.{⊤}
use Rattle.std.specs.Io.KnownBytes.{Keeps}
use Rattle.retire.specs.declared.fault.WriteFault.TheVariants as write
use Rattle.command_inputs.specs.Begun.{IsCutOf}
use Rattle.command_inputs.specs.Faults.{write_fault}
use Rattle.command_inputs.specs.Printed.{IsPrinted, PrintsUnlessDenied}
use Rattle.command_inputs.specs.declared.fault.Fault.TheVariants as fault
use Rattle.command_inputs.proofs.Runs.{output_failed, prints}
use Rattle.capture_commands.specs.Decoding.{end_of_capture_of}
use Rattle.capture_commands.specs.Listed.{WritesListing, WritesPart}
use Rattle.capture_commands.specs.steps.Inputs.{names_in}
use Rattle.capture_commands.proofs.ListedRuns.{part_cut, whole_cut, whole_printed}
use Rattle.capture_commands.proofs.WrittenOutcomes.{write_denied, write_memory}
use Rattle.capture_commands.proofs.message_listing.write_listing.Goals.{After-ended_of, After-flush}
use Rattle.capture_commands.proofs.message_listing.write_listing.Goals as goal

pub returns-in_err-listed-clause-printed : goal.returns-in_err-listed-clause-printed
returns-in_err-listed-clause-printed g c =
    let files = names_in c.args.input.now in
    let why = c.in_err-listed.field-0.0 in
    let is : c.from_residual.result ≡ Err (write_fault why) = grind (arith, common_steps) in
    subst (λ r. PrintsUnlessDenied (WritesListing c.args.asked.now.format c.args.asked.now.rows c.args.input.now.only c.args.harts c.args.input.now.program.now files c.args.input.now.bytes.now) ⊤ r
    (g.O.Write.contents c.args.out.now) (g.O.Write.contents c.show_listing.new.out)) (sym is) (inl (write_denied why))

pub returns-in_err-listed-clause-begun : goal.returns-in_err-listed-clause-begun
returns-in_err-listed-clause-begun g c = λ memory.
    let why = c.in_err-listed.field-0.0 in
    let is : c.from_residual.result ≡ Err (write_fault why) = grind (arith, common_steps) in
    let refused : why ≡ write.Memory = write_memory why (cc (sym is ∙ memory)) in
    inl (subst (λ out. Keeps (g.O.Write.contents c.args.out.now) (g.O.Write.contents out))
    (sym (c.show_listing.ensures.memory (c.in_err-listed.was ∙ ap Err refused)))
    (Keeps-refl (g.O.Write.contents c.args.out.now)))

pub returns-in_err-listed-clause-cut : goal.returns-in_err-listed-clause-cut
returns-in_err-listed-clause-cut g c =
    part_cut c.args.asked.now.format c.args.asked.now.rows c.args.input.now.only c.args.harts c.args.input.now.program.now (names_in c.args.input.now)
    c.args.input.now.bytes.now (g.O.Write.contents c.args.out.now) (g.O.Write.contents c.show_listing.new.out)
    c.in_err-listed.ensures.begun

module _ (g : _) (c : After-flush g) where
  abbrev symbols : Option (List ℕ)
  symbols = names_in c.args.input.now

  abbrev old : Option (List ℕ)
  old = g.O.Write.contents c.args.out.now

  abbrev new : Option (List ℕ)
  new = g.O.Write.contents c.flush.new.self

  -- Whatever the flush answers, the whole listing was written.
  cut : IsCutOf (WritesPart c.args.asked.now.format c.args.asked.now.rows c.args.input.now.only c.args.harts c.args.input.now.program.now symbols c.args.input.now.bytes.now) old new
  cut =
      whole_cut c.args.asked.now.format c.args.asked.now.rows c.args.input.now.only c.args.harts c.args.input.now.program.now symbols c.args.input.now.bytes.now c.in_ok-listed.listed.closed.items
      c.in_ok-listed.listed.fault old (g.O.Write.contents c.show_listing.new.out) new c.in_ok-listed.ensures.listed
      c.flush.ensures.bytes

pub returns-in_err-flush-clause-printed : goal.returns-in_err-flush-clause-printed
returns-in_err-flush-clause-printed g c =
    let files = names_in c.args.input.now in
    let is : c.from_residual-in_err-flush.result ≡ Err fault.Output = grind (arith, common_steps) in
    output_failed (WritesListing c.args.asked.now.format c.args.asked.now.rows c.args.input.now.only c.args.harts c.args.input.now.program.now files c.args.input.now.bytes.now) ⊤
    c.from_residual-in_err-flush.result (g.O.Write.contents c.args.out.now) (g.O.Write.contents c.flush.new.self) is tt

pub returns-in_err-flush-clause-begun : goal.returns-in_err-flush-clause-begun
returns-in_err-flush-clause-begun g c = λ memory.
    let is : c.from_residual-in_err-flush.result ≡ Err fault.Output = grind (arith, common_steps) in
    absurd (cc (sym is ∙ memory))

pub returns-in_err-flush-clause-cut : goal.returns-in_err-flush-clause-cut
returns-in_err-flush-clause-cut g c = cut g (goal.at.returns-in_err-flush-clause-cut g c).After-flush

pub returns-clause-cut : goal.returns-clause-cut
returns-clause-cut g c = cut g (goal.at.returns-clause-cut g c).After-flush

module _ (g : _) (c : After-ended_of g) where
  -- The run ends as the listing does.
  ends : c.ended_of.result ≡ end_of_capture_of c.args.input.now.only c.in_ok-listed.listed.fault c.in_ok-listed.listed.closed.items
  ends = c.ended_of.ensures.value ∙ ap (end_of_capture_of c.args.input.now.only c.in_ok-listed.listed.fault) c.as_slice.ensures.value

  whole : IsPrinted (WritesListing c.args.asked.now.format c.args.asked.now.rows c.args.input.now.only c.args.harts c.args.input.now.program.now
      (names_in c.args.input.now) c.args.input.now.bytes.now) c.ended_of.result
      (g.O.Write.contents c.args.out.now) (g.O.Write.contents c.flush.new.self)
  whole =
      whole_printed c.args.asked.now.format c.args.asked.now.rows c.args.input.now.only c.args.harts c.args.input.now.program.now (names_in c.args.input.now)
      c.args.input.now.bytes.now c.in_ok-listed.listed.closed.items c.in_ok-listed.listed.fault
      (g.O.Write.contents c.args.out.now) (g.O.Write.contents c.show_listing.new.out)
      (g.O.Write.contents c.flush.new.self) c.in_ok-listed.ensures.listed c.flush.ensures.bytes c.ended_of.result ends

pub returns-clause-printed : goal.returns-clause-printed
returns-clause-printed g c =
    let files = names_in c.args.input.now in
    prints (WritesListing c.args.asked.now.format c.args.asked.now.rows c.args.input.now.only c.args.harts c.args.input.now.program.now files c.args.input.now.bytes.now) ⊤ c.ended_of.result
    (g.O.Write.contents c.args.out.now) (g.O.Write.contents c.flush.new.self)
    (whole g (goal.at.returns-clause-printed g c).After-ended_of)

pub returns-clause-begun : goal.returns-clause-begun
returns-clause-begun g c = λ memory.
    let files = names_in c.args.input.now in
    inr (subst (λ ended. IsPrinted (WritesListing c.args.asked.now.format c.args.asked.now.rows c.args.input.now.only c.args.harts c.args.input.now.program.now files c.args.input.now.bytes.now) ended
    (g.O.Write.contents c.args.out.now) (g.O.Write.contents c.flush.new.self)) memory
    (whole g (goal.at.returns-clause-begun g c).After-ended_of))
