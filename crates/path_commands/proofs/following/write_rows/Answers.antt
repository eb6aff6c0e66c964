-- Some text was appended, and then some more: by lemmas, which no tactic finds.
use Rattle.path_commands.proofs.FollowedRuns.{some_begun, some_more}
use Rattle.path_commands.proofs.following.write_rows.Goals as goal

pub returns-in-Err : goal.returns-in-Err
returns-in-Err g c =
    some_more (g.O.Write.contents c.args.out.now) (g.O.Write.contents c.loop-hart.out) (g.O.Write.contents c.write_text.new.out)
    c.loop-hart.invariant (some_begun _ (g.O.Write.contents c.loop-hart.out) (g.O.Write.contents c.write_text.new.out)
    c.write_text.ensures.begun)

pub loop-hart-preserved : goal.loop-hart-preserved
loop-hart-preserved g c =
    some_more (g.O.Write.contents c.args.out.now) (g.O.Write.contents c.loop-hart.out) (g.O.Write.contents c.write_text.new.out)
    c.loop-hart.invariant (some_begun _ (g.O.Write.contents c.loop-hart.out) (g.O.Write.contents c.write_text.new.out)
    c.write_text.ensures.begun)
