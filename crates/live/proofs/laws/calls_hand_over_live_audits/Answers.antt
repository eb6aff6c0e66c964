-- By the calls, one after the other.
use Rattle.live.specs.Live.{start}
use Rattle.live.proofs.Calls.{takes_told}
use Rattle.live.proofs.laws.calls_hand_over_live_audits.Goals as goal

pub returns : goal.returns
returns g c = λ all calls received first last takes.
    takes_told _ g.L.LiveLines.Told g.met.L.LiveLines.joined all calls 0 (start all.by) 0 received first last takes
