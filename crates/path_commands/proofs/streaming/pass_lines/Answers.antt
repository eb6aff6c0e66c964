-- What is held ends with a line's end once these bytes are held: by lemmas on what was given.
use Rattle.std.proofs.Common.{◌++◌}
use Rattle.path_commands.proofs.StreamedLines.{end_behind, stopped_more, taken_all}
use Rattle.path_commands.proofs.streaming.pass_lines.Goals as goal

pub returns-in-Err : goal.returns-in-Err
returns-in-Err g c = λ given old has.
    c.in-Err.ensures c.args.asked.now c.args.settings.now given old (g.O.Write.contents c.args.out.now) has

pub returns-in-Err-pass_held : goal.returns-in-Err-pass_held
returns-in-Err-pass_held g c = λ given old has more.
    let asked = c.args.asked.now in
    let settings = c.args.settings.now in
    let all = given ++ c.args.bytes.now in
    let held = c.in-Ok.ensures asked settings given old (g.O.Write.contents c.args.out.now) has in
    stopped_more asked settings all more c.in-Err-pass_held.why old (g.O.Write.contents c.pass_held.new.out)
    (end_behind asked settings given c.args.bytes.now c.requires.ends) (c.in-Err-pass_held.ensures all old held)

pub returns : goal.returns
returns g c = λ given old has.
    let asked = c.args.asked.now in
    let settings = c.args.settings.now in
    let all = given ++ c.args.bytes.now in
    let held = c.in-Ok.ensures asked settings given old (g.O.Write.contents c.args.out.now) has in
    taken_all asked settings all (record c.pass_held.new.taken { held = c.clear.new.self }) old (g.O.Write.contents c.pass_held.new.out)
    (end_behind asked settings given c.args.bytes.now c.requires.ends) c.clear.ensures.items
    (c.in-Ok-pass_held.ensures all old held)
