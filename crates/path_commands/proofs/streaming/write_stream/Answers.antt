-- The file is opened, what the capture begins with is written, and the lines are copied: by lemmas on what each found.
use Rattle.std.proofs.Common.{Err, subst, sym}
use Rattle.path_commands.proofs.StreamedLines.{none_taken, not_begun, not_opened, opened}
use Rattle.path_commands.specs.steps.Streaming.{HasStreamed}
use Rattle.path_commands.proofs.streaming.write_stream.Goals as goal

pub returns-in-Err : goal.returns-in-Err
returns-in-Err g c =
    let content = g.F.Files.content c.args.files.now in
    let asked = c.args.asked.now in
    let old = g.O.Write.contents c.args.out.now in
    subst (λ why. HasStreamed content asked c.args.settings.now (Err why) old old) (sym c.of_file.ensures)
    (not_opened asked c.args.settings.now content c.in-Err.why old c.in-Err.ensures.lacked)

pub returns-in-Err-begin : goal.returns-in-Err-begin
returns-in-Err-begin g c =
    let content = g.F.Files.content c.args.files.now in
    let asked = c.args.asked.now in
    let old = g.O.Write.contents c.args.out.now in
    let new = g.O.Write.contents c.begin.new.out in
    let left = g.F.Reader.FileReader.left c.in-Ok.reader in
    subst (λ why. HasStreamed content asked c.args.settings.now (Err why) old new) (sym c.in-Err-begin.ensures.fault)
    (not_begun asked c.args.settings.now content left old new
    (opened (content asked.lines.now) (g.F.Reader.FileReader.given c.in-Ok.reader) left c.in-Ok.ensures.opened)
    c.begin.ensures.begun)

pub returns : goal.returns
returns g c =
    let content = g.F.Files.content c.args.files.now in
    let asked = c.args.asked.now in
    let old = g.O.Write.contents c.args.out.now in
    let left = g.F.Reader.FileReader.left c.in-Ok.reader in
    c.copy_lines.ensures content old
    (opened (content asked.lines.now) (g.F.Reader.FileReader.given c.in-Ok.reader) left c.in-Ok.ensures.opened)
    (none_taken asked c.args.settings.now (record { passed = c.new.result; held = c.new-2.result }) old (g.O.Write.contents c.begin.new.out) c.new.ensures c.new-2.ensures.items
    c.in-Ok-begin.ensures.written)
