-- What is added are the messages of the log: by the clauses of the messages, which no search instantiates.
use Rattle.std.proofs.Common.{◌++◌, [], ◌∙◌, ap, sym}
use Rattle.captures.proofs.MessageTexts.{capture_is}
use Rattle.encoder.specs.Payloads.{payloads}
use Rattle.legalpath.specs.ProgramLog.{program_log}
use Rattle.message.specs.Numbered.{messages_from}
use Rattle.rvclass.specs.Fetch.{words_of}
use Rattle.ffi.proofs.encoding.add_log.Goals as goal

pub returns : goal.returns
returns c = λ legal.
    let settings = c.args.settings in
    let hart = c.args.hart in
    let has = c.in_ok-add.ensures settings.period settings.mode hart []
    (c.new-messages.ensures (words_of c.args.program.now)) legal in
    let own = messages_from hart 0 (payloads settings.period settings.mode (program_log c.args.program.now c.args.events.now)) in
    c.in_ok-extend_from_slice.ensures.items
    ∙ ap (λ bytes. c.args.capture.now.items ++ bytes)
    (c.as_slice.ensures.value ∙ c.in_ok-bytes.ensures settings.period settings.mode hart c.args.events.now has legal
    ∙ sym (capture_is own))
