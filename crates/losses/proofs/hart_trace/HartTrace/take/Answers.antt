-- One packet more is put together from what the decoder promises, by lemmas on runs.
use Rattle.std.proofs.Common.{◌+◌, ◌++◌, inl, refl}
use Rattle.rvclass.specs.Fetch.{words_of}
use Rattle.losses.specs.PartsIn.{parts_in}
use Rattle.losses.specs.Runs.{missing_behind, over_before, packets_behind, run_of}
use Rattle.losses.specs.steps.DecoderSteps.{Feeds}
use Rattle.losses.specs.steps.FollowingRuns.{Refuses}
use Rattle.losses.proofs.RunSteps.{runs_fed, runs_missed}
use Rattle.losses.proofs.hart_trace.HartTrace.take.Goals as goal

pub returns-in-Err : goal.returns-in-Err
returns-in-Err g c = record {
  of_runs = λ done missing next packets f. record { follows = tt; refused = inl refl };
}

pub returns : goal.returns
returns g c =
    let words = words_of c.args.program.now in
    let mode = c.args.mode in
    let missed = c.args.taken.now.1 in
    let packet = c.args.taken.now.0 in
    let self = c.args.self.now in
    let gone = c.go_on.new.self in
    let seen = parts_in c.args.parts.now.items in
    let parts = parts_in c.go_on.new.parts.items in
    let new = c.feed.new.self in
    let events = c.feed.new.log.items in
    let step = c.in-Ok.ensures in
    let feeds : Feeds words packet gone.decoder new gone.stretch.items events c.feed.result = record {
      stands = c.feed.ensures.stands;
      none = c.feed.ensures.none;
      announced = c.feed.ensures.announced;
      mode_kept = c.feed.ensures.mode_kept;
      passed_over = c.feed.ensures.passed_over;
      closes = c.feed.ensures.closes;
      begins = c.feed.ensures.begins;
      begins_none = c.feed.ensures.begins_none;
    } in
    let refuses : Refuses words packet gone.decoder gone.stretch.items c.feed.result = record {
      not_opened = c.feed.ensures.not_opened;
      after_close = c.feed.ensures.after_close;
      never_unopened = c.feed.ensures.never_unopened;
    } in
    record {
      of_runs = λ done missing next packets f.
          runs_fed words mode packet gone.decoder new gone.stretch.items events parts (packets_behind missed packets)
          (next + missed) (done ++ over_before missed (run_of missing packets)) (missing_behind missed missing)
          c.feed.result
          (runs_missed words mode done missing next packets self.decoder gone.decoder seen self.stretch.items f missed
          parts gone.stretch.items step.same step.lost step.empty step.resumes) feeds refuses;
    }
