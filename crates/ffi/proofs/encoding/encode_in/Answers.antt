-- A header has room for the count of the logs, and after it come their messages: by lemmas on texts.
use Rattle.std.proofs.Common.{◌∙◌, ◌++◌, ℕ, List, ap, arith, length, sym}
use Rattle.captures.specs.Messages.{messages_of_harts}
use Rattle.captures.specs.Versions.{start_bytes}
use Rattle.message.specs.Capture.{capture}
use Rattle.ffi.proofs.HeaderMade.{few_harts, may_start}
use Rattle.ffi.proofs.TextsRead.{as_many}
use Rattle.ffi.proofs.encoding.encode_in.Goals as goal

pub write_start-requires : goal.write_start-requires
write_start-requires c =
    let positive = c.requires.period in
    record {
      header = may_start c.args.settings.version c.args.settings.period c.args.settings.mode (length c.args.ends.now)
          (omega (arith, positive)) (omega arith) c.requires.some c.requires.few;
    }

pub encode_each-requires-clause-few : goal.encode_each-requires-clause-few
encode_each-requires-clause-few c =
    let low = c.requires.few in
    let limit = few_harts c.args.settings.version in
    omega (arith, low, limit)

pub returns-in-Ok-encode_each : goal.returns-in-Ok-encode_each
returns-in-Ok-encode_each c =
    let settings = c.args.settings in
    let adds = c.in-Ok-encode_each.ensures.added in
    let start : ℕ → List ℕ = λ harts.
    start_bytes settings.version (record { mode = settings.mode; period = settings.period; harts = harts }) in
    let many = as_many c.in-Ok.program c.args.logs.now 0 c.args.ends.now adds.logs adds.are in
    record {
      program = c.in-Ok.program;
      logs = adds.logs;
      made = c.in-Ok.is;
      are = adds.are;
      written = adds.holds
          ∙ ap (λ l. l ++ capture (messages_of_harts settings.period settings.mode 0 adds.logs))
          (c.in-Ok-write_start.ensures.written
          ∙ ap (λ l. l ++ start (length c.args.ends.now)) c.new-capture.ensures.items)
          ∙ ap (λ n. start n ++ capture (messages_of_harts settings.period settings.mode 0 adds.logs)) (sym many);
    }
