-- A span more is kept: by lemmas, since the prover makes no record by itself.
use Rattle.std.proofs.Common.{arith, refl}
use Rattle.std.proofs.lemmas.Grind.{common_steps}
use Rattle.path_commands.proofs.ReadSpans.{takes_message, takes_run}
use Rattle.path_commands.proofs.reading.take_span.Goals as goal

pub returns-in-Frame : goal.returns-in-Frame
returns-in-Frame c =
    let own = c.args.own.now in
    takes_message c.args.harts c.args.span.now _ _ own (record {
      header = own.header;
      fault = own.fault;
      lists = c.take_message.new.lists;
      runs = own.runs;
      read = c.with_message-own.result;
    }) c.take_message.result c.in-Frame.is refl refl c.take_message.ensures.by refl c.with_message-own.ensures
    c.take_message.ensures.kept

pub returns-in_ok-push-in-Bytes : goal.returns-in_ok-push-in-Bytes
returns-in_ok-push-in-Bytes c =
    let own = c.args.own.now in
    takes_run c.args.harts c.args.span.now _ _ own (record {
      header = own.header;
      fault = own.fault;
      lists = own.lists;
      runs = c.push.new.self;
      read = c.with_bytes-own.result;
    }) c.in-Bytes.is refl refl refl (grind (arith, common_steps)) c.with_bytes-own.ensures
