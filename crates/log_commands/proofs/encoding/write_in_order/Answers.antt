-- What is written is what is asked for: the lemmas on each order are handed to the prover.
use Rattle.std.proofs.Common.{subst}
use Rattle.std.specs.Prelude.{OnOk}
use Rattle.std.specs.Io.KnownBytes.{Appends}
use Rattle.output.specs.Begun.{AppendsBeginning}
use Rattle.log_commands.specs.Encoding.{messages_of_each, written}
use Rattle.log_commands.specs.Parts.{first_hart}
use Rattle.log_commands.proofs.MadeLogs.{messages_written}
use Rattle.log_commands.proofs.MixedLogs.{are_mixed, begun_none, mixed_written}
use Rattle.log_commands.proofs.encoding.write_in_order.Goals as goal

pub returns-in-None-clause-text : goal.returns-in-None-clause-text
returns-in-None-clause-text g c = λ logs are.
    subst (λ text. OnOk c.write_in_form.result (Appends (g.O.Write.contents c.args.out.now)
    (g.O.Write.contents c.write_in_form.new.out) text))
    (messages_written c.args.asked.now logs c.args.messages.now c.in-None.is are) c.write_in_form.ensures.text

pub returns-in-None-clause-begun : goal.returns-in-None-clause-begun
returns-in-None-clause-begun g c = λ logs are.
    subst (λ text. AppendsBeginning text (g.O.Write.contents c.args.out.now)
    (g.O.Write.contents c.write_in_form.new.out))
    (messages_written c.args.asked.now logs c.args.messages.now c.in-None.is are) c.write_in_form.ensures.begun

pub returns-in_err-mixing-in-Some-clause-begun : goal.returns-in_err-mixing-in-Some-clause-begun
returns-in_err-mixing-in-Some-clause-begun g c = λ logs are.
    begun_none (written c.args.asked.now logs) (g.O.Write.contents c.args.out.now)

pub returns-in_ok-mixing-in-Some-clause-text : goal.returns-in_ok-mixing-in-Some-clause-text
returns-in_ok-mixing-in-Some-clause-text g c = λ logs are.
    let asked = c.args.asked.now in
    let made = c.args.messages.now in
    let left = messages_of_each asked.period asked.mode (first_hart asked.first) logs in
    let unmixed = c.in_ok-mixing-in-Some.ensures.unmixed left (are_mixed asked c.in-Some.seed c.in-Some.is logs made are c.requires.room
    c.requires.few) in
    subst (λ text. OnOk c.write_mixed.result (Appends (g.O.Write.contents c.args.out.now)
    (g.O.Write.contents c.write_mixed.new.out) text))
    (mixed_written asked c.in-Some.seed c.in-Some.is logs made are)
    (c.write_mixed.ensures.text c.in-Some.seed left unmixed)

pub returns-in_ok-mixing-in-Some-clause-begun : goal.returns-in_ok-mixing-in-Some-clause-begun
returns-in_ok-mixing-in-Some-clause-begun g c = λ logs are.
    let asked = c.args.asked.now in
    let made = c.args.messages.now in
    let left = messages_of_each asked.period asked.mode (first_hart asked.first) logs in
    let unmixed = c.in_ok-mixing-in-Some.ensures.unmixed left (are_mixed asked c.in-Some.seed c.in-Some.is logs made are c.requires.room
    c.requires.few) in
    subst (λ text. AppendsBeginning text (g.O.Write.contents c.args.out.now)
    (g.O.Write.contents c.write_mixed.new.out))
    (mixed_written asked c.in-Some.seed c.in-Some.is logs made are)
    (c.write_mixed.ensures.begun c.in-Some.seed left unmixed)
