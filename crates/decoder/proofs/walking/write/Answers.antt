-- What is said of the steps is said of walks by inductions over them.
use Rattle.std.proofs.Common.{◌≤◌, length, refl, sym, subst, ◌∙◌}
use Rattle.rvclass.proofs.WordsLemmas.{words_of-LiesIn}
use Rattle.rvclass.specs.Fetch.{words_of}
use Rattle.decoder.proofs.PassesFindWalks.{same_walk, write_room, write_adds}
use Rattle.decoder.specs.steps.Walks.{event_of, goal_end}
use Rattle.decoder.proofs.walking.write.Goals as goal

pub write_within-requires-clause-room : goal.write_within-requires-clause-room
write_within-requires-clause-room g c =
    let few = subst (λ l. length l ≤ 31) c.new.ensures.outcomes
    (subst (λ n. n ≤ 31) c.new.ensures.course.0 c.new.ensures.course.1) in
    let room = write_room (words_of c.args.program.now) c.requires.program c.args.from c.requires.from
    c.args.outcomes.now (goal_end c.args.goal) _ _ (words_of-LiesIn c.args.program.now c.byte_count.ensures.kept) few _ _ _ c.requires.room in (
      room.0,
      same_walk (words_of c.args.program.now) (event_of c.args.from) _ _ _ _ _ _ refl c.new.ensures.outcomes
          c.new.ensures.goal ∙ room.1,
      room.2,
      room.3,
    )

pub returns-clause-walk : goal.returns-clause-walk
returns-clause-walk g c =
    let few = subst (λ l. length l ≤ 31) c.new.ensures.outcomes
    (subst (λ n. n ≤ 31) c.new.ensures.course.0 c.new.ensures.course.1) in
    let added = c.write_within.ensures.walk in
    let same = same_walk (words_of c.args.program.now) (event_of c.args.from) _ _ _ _ _ _ refl c.new.ensures.outcomes
    c.new.ensures.goal in
    write_adds (words_of c.args.program.now) c.requires.program c.args.from c.requires.from c.args.outcomes.now
    (goal_end c.args.goal) _ _ (words_of-LiesIn c.args.program.now c.byte_count.ensures.kept) few _ _ (added.0, sym same ∙ added.1, added.2)
