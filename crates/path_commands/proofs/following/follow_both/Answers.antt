-- Some text was appended, and then some more: by lemmas, which no tactic finds.
use Rattle.path_commands.proofs.FollowedRuns.{some_more}
use Rattle.path_commands.proofs.following.follow_both.Goals as goal

pub returns : goal.returns
returns g c =
    some_more (g.O.Write.contents c.args.out.now) (g.O.Write.contents c.follow.new.out) (g.O.Write.contents c.write_rest.new.out)
    c.follow.ensures c.write_rest.ensures
