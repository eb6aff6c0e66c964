-- What is held grows: by lemmas on what was given.
use Rattle.std.proofs.Common.{◌++◌, append_assoc, refl, subst, sym}
use Rattle.command_inputs.specs.declared.fault.Fault.TheVariants as fault
use Rattle.path_commands.proofs.StreamedLines.{held_more, out_of_memory}
use Rattle.path_commands.specs.steps.Streaming.{HasStopped}
use Rattle.path_commands.proofs.streaming.hold.Goals as goal

pub returns-in-Ok : goal.returns-in-Ok
returns-in-Ok c = λ asked settings given old new has.
    held_more asked settings given c.args.bytes.now c.args.taken.now
    (record c.args.taken.now { held = c.extend_from_slice.new.self }) old new refl c.in-Ok.ensures.items has

pub returns-in-Err : goal.returns-in-Err
returns-in-Err c = λ asked settings given old new has more.
    subst (λ text. HasStopped asked settings text fault.Memory old new)
    (sym (append_assoc given c.args.bytes.now more))
    (out_of_memory asked settings given c.args.taken.now old new (c.args.bytes.now ++ more) has)
