-- How many messages are held follows from what is held, which no search puts together.
use Rattle.std.proofs.Common.{arith, take}
use Rattle.std.specs.Prelude.{is_some}
use Rattle.std.proofs.lemmas.List.Sums.{count_by-le-length, length-filter}
use Rattle.live.proofs.Reading.{held_count}
use Rattle.live.proofs.laws.live_audits_are_bounded.Goals as goal

pub returns-clause-sent : goal.returns-clause-sent
returns-clause-sent c = λ all read state own left stands.
    let held = held_count (take read all.sent) state.came state.front own.window stands.reads.holds in
    let ahead = stands.reads.holds.ahead in
    let window = stands.reads.window in
    omega (arith, held, ahead, window)

pub returns-clause-waiting : goal.returns-clause-waiting
returns-clause-waiting c = λ all read state own left stands.
    let counted = length-filter is_some own.waiting in
    let few = count_by-le-length is_some own.waiting in
    let waits = stands.waits in
    omega (arith, counted, few, waits)

pub returns-clause-bytes : goal.returns-clause-bytes
returns-clause-bytes c = λ harts own receives.
    let held = receives.held in let most = receives.most in omega (arith, held, most)
