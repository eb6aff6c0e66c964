-- A section more: by lemmas on sections.
use Rattle.std.proofs.Common.{◌<◌, ◌≡◌, ◌++◌, arith, subst, take}
use Rattle.rvclass.specs.Fetch.{words_of}
use Rattle.parallel_decode.proofs.SectionLemmas.{passed-behind}
use Rattle.parallel_decode.specs.steps.Ends.{IsTrail}
use Rattle.parallel_decode.specs.steps.OwnMessages.{IsOwn}
use Rattle.parallel_decode.specs.steps.Sections.{within}
use Rattle.parallel_decode.proofs.hart.HartSoFar.pass.Goals as goal

pub returns : goal.returns
returns c = λ places messages are is r.
    let words = words_of c.args.work.now.program.now in
    let announced = c.args.work.now.announced in
    let section = c.args.section.now in
    let at : c.args.self.now.taken ≡ section.section.first = omega (arith, c.if-self-section.false) in
    let some : section.section.first < section.section.end = omega (arith, at, c.if-self-section-2.false) in
    let same : c.args.self.now.own ≡ section.from = c.is.ensures c.if-not-is.false in
    let own = subst (λ n. IsOwn words announced (take n messages) r.log section.from) at
    (subst (λ own. IsOwn words announced (take c.args.self.now.taken messages) r.log own) same r.received) in
    let made = subst (λ n. IsTrail words (take n messages) r.log c.args.self.now.trail) at r.made in
    let passed = passed-behind words announced c.args.work.now.bytes.now places messages are section is some r.log own in
    let longer = r.log ++ passed.added in
    record {
      log = longer;
      received = subst (λ ms. IsOwn words announced ms longer section.to) passed.whole passed.own;
      made = subst (λ ms. IsTrail words ms longer c.add.new.self) passed.whole
          (c.in_ok-add.ensures words (take section.section.first messages) (within section.section messages) r.log
          passed.added made passed.many passed.further passed.counted passed.own.stands);
    }
