-- Both files are opened, and then read: by lemmas on what each step found, which no tactic finds.
use Rattle.path_commands.proofs.FollowedRuns.{followed, received_lacked, sent_lacked}
use Rattle.path_commands.proofs.following.audit_live.Goals as goal

pub returns-in-Err : goal.returns-in-Err
returns-in-Err g c =
    sent_lacked (g.F.Files.content c.args.files.now) c.args.asked.now (g.O.Write.contents c.args.out.now) c.in-Err.why
    c.in-Err.ensures

pub returns-in-Err-open : goal.returns-in-Err-open
returns-in-Err-open g c =
    received_lacked (g.F.Files.content c.args.files.now) c.args.asked.now (g.O.Write.contents c.args.out.now)
    c.in-Err-open.why c.in-Ok.ensures c.in-Err-open.ensures

pub returns : goal.returns
returns g c =
    followed (g.F.Files.content c.args.files.now) c.args.asked.now (g.O.Write.contents c.args.out.now)
    c.follow_both.result (g.O.Write.contents c.follow_both.new.out) c.in-Ok.ensures c.in-Ok-open.ensures
    c.follow_both.ensures
