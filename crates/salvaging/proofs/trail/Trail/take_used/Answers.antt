-- What the message does is put together from the steps, by lemmas.
use Rattle.std.proofs.Common.{◌≡◌, ◌<◌, ◌-◌, sym, ap, subst, ◌∙◌, arith, length}
use Rattle.rvclass.specs.Fetch.{words_of}
use Rattle.message.specs.Harts.{end_of_numbers}
use Rattle.losses.specs.Runs.{run_behind}
use Rattle.salvaging.specs.Entries.{next_used}
use Rattle.salvaging.specs.Treatments.{treatment_of}
use Rattle.salvaging.specs.steps.Arrivals.{arrivals_in}
use Rattle.salvaging.specs.steps.Grouping.{entries_by}
use Rattle.salvaging.specs.steps.UnderWay.{Judged, share_by}
use Rattle.salvaging.proofs.TrailSteps.{behind_front, takes_bad, takes_good}
use Rattle.salvaging.proofs.trail.Trail.take_used.Goals as goal

pub judge-requires : goal.judge-requires
judge-requires g c = subst (λ n. n < end_of_numbers) (sym c.in_ok-go_on.ensures.next) c.requires.small

pub returns-in-None : goal.returns-in-None
returns-in-None g c = λ run next u stays.
    let words = words_of c.args.paths.program.now in
    let mode = c.args.mode in
    let number = c.args.message.now.number in
    let payload = c.args.message.now.payload in
    let following = next_used (entries_by (arrivals_in c.args.behind.now)) in
    let gone = c.go_on.new.self in
    let behind = run_behind (number - next) run in
    let judged = c.judge.new.self in
    let went = c.in_ok-go_on.ensures.goes_on words mode run next u in
    let good = subst (λ found. Judged words mode mode behind number payload following found judged) c.in-None.is
    (c.in_ok-judge.ensures.judged mode mode behind number went.under_way) in
    let rest = c.in_ok-judge.ensures.appended.0 in
    let counted = gone.events.ok.0 in
    let was = c.len-before.ensures in
    let long : c.len-before.result ≡ length gone.events.items = omega (arith, counted, was) in
    let added = behind_front gone.events.items rest c.deref.result.now c.len-before.result
    (c.deref.ensures.value ∙ c.in_ok-judge.ensures.appended.1) long in
    takes_good words mode run next number c.args.place payload following c.args.self.now gone judged rest _ went
    c.in_ok-judge.ensures.parts good stays c.in_ok-judge.ensures.appended.1
    (c.treated_good.ensures ∙ ap (λ l. treatment_of (share_by judged.begun l)) added)

pub returns-in_ok-take_bad-in-Some : goal.returns-in_ok-take_bad-in-Some
returns-in_ok-take_bad-in-Some g c = λ run next u stays.
    let words = words_of c.args.paths.program.now in
    let mode = c.args.mode in
    let number = c.args.message.now.number in
    let payload = c.args.message.now.payload in
    let following = next_used (entries_by (arrivals_in c.args.behind.now)) in
    let gone = c.go_on.new.self in
    let behind = run_behind (number - next) run in
    let judged = c.judge.new.self in
    let why = c.in-Some.why in
    let went = c.in_ok-go_on.ensures.goes_on words mode run next u in
    let bad = subst (λ found. Judged words mode mode behind number payload following found judged) c.in-Some.is
    (c.in_ok-judge.ensures.judged mode mode behind number went.under_way) in
    takes_bad words mode run next number c.args.place payload following why c.args.self.now gone judged
    c.take_bad.new.self went c.in_ok-judge.ensures.parts bad.0
    (c.in_ok-take_bad-in-Some.ensures words behind bad.1)
