-- The prover tries no record of its own: what was read, and the turns that it spells, are handed to it.
use Rattle.std.proofs.Common.{◌≡◌, ◌⊎◌, inr, subst, sym, Ok, Err, IfErr, arith}
use Rattle.std.proofs.lemmas.Grind.{common_steps}
use Rattle.funnel.specs.Schedule.{schedule_of}
use Rattle.funnel.specs.declared.schedule_fault.ScheduleFault.TheVariants as schedule
use Rattle.command_inputs.specs.declared.fault.Fault.TheVariants as fault
use Rattle.log_commands.specs.Replaying.{IsSchedule}
use Rattle.log_commands.proofs.Schedules.{schedule_large, schedule_read, schedule_refused, schedule_unread}
use Rattle.log_commands.proofs.replaying.turns_of.Goals as goal

pub returns-in_err-bytes-clause-fault : goal.returns-in_err-bytes-clause-fault
returns-in_err-bytes-clause-fault g c =
    let content = g.F.Files.content c.args.files.now in
    let is : c.from_residual.result ≡ Err c.in_err-bytes.field-0.0 = grind (arith, common_steps) in
    subst (λ r. IfErr r (λ why. (why ≡ fault.Memory) ⊎ IsSchedule content c.args.harts c.args.path (Err why))) (sym is)
    (schedule_unread content c.args.harts c.args.path c.in_err-bytes.field-0.0 c.in_err-bytes.ensures.lacked)

pub returns-then-len-gt-LARGEST_SCHEDULE-clause-fault : goal.returns-then-len-gt-LARGEST_SCHEDULE-clause-fault
returns-then-len-gt-LARGEST_SCHEDULE-clause-fault g c =
    inr (schedule_large (g.F.Files.content c.args.files.now) c.args.harts c.args.path c.in_ok-bytes.bytes.items
    c.in_ok-bytes.ensures.held (omega (arith, c.if-len-gt-LARGEST_SCHEDULE.true, c.len.ensures)))

pub returns-in-Ok-clause-turns : goal.returns-in-Ok-clause-turns
returns-in-Ok-clause-turns g c =
    schedule_read (g.F.Files.content c.args.files.now) c.args.harts c.args.path c.in_ok-bytes.bytes.items
    c.in_ok-bytes.ensures.held (omega (arith, c.if-len-gt-LARGEST_SCHEDULE.false, c.len.ensures)) c.in-Ok.turns.items
    (subst (λ text. schedule_of c.args.harts text ≡ Ok c.in-Ok.turns.items) c.as_slice.ensures.value
    c.in-Ok.ensures.turns)

pub returns-clause-fault : goal.returns-clause-fault
returns-clause-fault g c =
    let content = g.F.Files.content c.args.files.now in
    let why = c.in-Err.why in
    let faults = subst (λ text. (why ≡ schedule.Memory) ⊎ (schedule_of c.args.harts text ≡ Err why))
    c.as_slice.ensures.value
    c.in-Err.ensures.faults in
    subst (λ r. (r ≡ fault.Memory) ⊎ IsSchedule content c.args.harts c.args.path (Err r)) (sym c.of_schedule.ensures)
    (schedule_refused content c.args.harts c.args.path c.in_ok-bytes.bytes.items c.in_ok-bytes.ensures.held
    (omega (arith, c.if-len-gt-LARGEST_SCHEDULE.false, c.len.ensures)) why faults)
