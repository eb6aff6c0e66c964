-- What comes first, by what is held: by lemmas on what is left, which no tactic finds.
use Rattle.std.proofs.Common.{◌<◌, ◌≤◌, ◌∙◌, ◌+◌, ◌^◌, false, Ok, Some, ap, drop, length, subst, sym}
use Rattle.frames.specs.declared.span.Span.TheVariants as span
use Rattle.live.specs.Received.{bytes_to_next, is_taken}
use Rattle.live.specs.ReceivedLeft.{IsLeft, IsNextSpan, ReceivedHeld, most_sought, rule_of}
use Rattle.live.specs.steps.Receiving.{IsDecided, IsSure}
use Rattle.live.proofs.ReceivedNext.{follows_far, held_none, held_some, next_fails, next_lacks, next_none, next_run, next_taken}
use Rattle.live.proofs.ReceivedNext.{read_far, reads_far, receives_on, run_fails, run_follows, run_lacks}
use Rattle.live.proofs.received.Received.next.Goals as goal

pub returns-in-Ok-true-clause-span : goal.returns-in-Ok-true-clause-span
returns-in-Ok-true-clause-span g c = λ all came front first rest right reads left fits.
    let mid = c.is_taken.new.self in
    let file = g.R.FileReader.left c.is_taken.new.reader in
    let found =
    subst
    (λ b. IsDecided all came front first (is_taken (rule_of c.args.self.now.harts all front) false) rest
    (most_sought c.args.self.now.harts) (Ok b) mid file
    c.is_taken.new.window (g.S.SentSource.left c.is_taken.new.source)) c.in-Ok-true.field-0-test
    (c.in-Ok-true.ensures.decided all came front first rest right reads left) in
    let sure = subst (λ b. IsSure mid.bytes mid.ended b) c.in-Ok-true.field-0-test c.in-Ok-true.ensures.sure in
    next_taken all front c.args.self.now mid c.take_message.new.self rest c.in-Ok-true.ensures.harts
    c.in-Ok-true.ensures.offset file c.take_message.result found.0 found.1 sure fits c.take_message.ensures.span
    c.take_message.ensures.bytes c.take_message.ensures.ended c.take_message.ensures.harts c.take_message.ensures.offset

pub returns-in-Ok-true-clause-follows : goal.returns-in-Ok-true-clause-follows
returns-in-Ok-true-clause-follows g c = λ all came front first rest right reads left fits.
    let mid = c.is_taken.new.self in
    let file = g.R.FileReader.left c.is_taken.new.reader in
    let found =
    subst
    (λ b. IsDecided all came front first (is_taken (rule_of c.args.self.now.harts all front) false) rest
    (most_sought c.args.self.now.harts) (Ok b) mid file
    c.is_taken.new.window (g.S.SentSource.left c.is_taken.new.source)) c.in-Ok-true.field-0-test
    (c.in-Ok-true.ensures.decided all came front first rest right reads left) in
    follows_far all came front first c.args.self.now c.take_message.new.self rest c.is_taken.new.window
    (g.S.SentSource.left c.is_taken.new.source) found.2

pub returns-in-Ok-true-clause-receives : goal.returns-in-Ok-true-clause-receives
returns-in-Ok-true-clause-receives g c = λ harts receives.
    receives_on harts c.args.self.now c.take_message.new.self receives
    (c.take_message.ensures.harts ∙ c.is_taken.ensures.harts) (c.take_message.ensures.most ∙ c.is_taken.ensures.most)
    c.take_message.ensures.few

pub returns-then-self-clause-span : goal.returns-then-self-clause-span
returns-then-self-clause-span g c = λ all came front first rest right reads left fits.
    let own = c.args.self.now in
    let mid = c.is_taken.new.self in
    let file = g.R.FileReader.left c.is_taken.new.reader in
    let inside = c.self-in-Ok-false.inside in
    let found =
    subst
    (λ b. IsDecided all came front first (is_taken (rule_of own.harts all front) false) rest (most_sought own.harts) (Ok b) mid file
    c.is_taken.new.window (g.S.SentSource.left c.is_taken.new.source)) c.in-Ok-false.field-0-test
    (c.in-Ok-false.ensures.decided all came front first rest right reads left) in
    let none =
    ap (λ (o : ReceivedHeld). length o.bytes) (sym c.self-in-Ok-false.view_is)
    ∙ held_none inside.buffer.items inside.start inside.end c.self-in-Ok-false.invariant.1 c.if-self.true in
    let sure = subst (λ b. IsSure mid.bytes mid.ended b) c.in-Ok-false.field-0-test c.in-Ok-false.ensures.sure in
    next_none all front own mid mid rest c.is_taken.ensures.harts c.is_taken.ensures.offset file found.1 none (sure none)

pub returns-then-self-clause-follows : goal.returns-then-self-clause-follows
returns-then-self-clause-follows g c = λ all came front first rest right reads left fits.
    let own = c.args.self.now in
    let mid = c.is_taken.new.self in
    let file = g.R.FileReader.left c.is_taken.new.reader in
    let found =
    subst
    (λ b. IsDecided all came front first (is_taken (rule_of own.harts all front) false) rest (most_sought own.harts) (Ok b) mid file
    c.is_taken.new.window (g.S.SentSource.left c.is_taken.new.source)) c.in-Ok-false.field-0-test
    (c.in-Ok-false.ensures.decided all came front first rest right reads left) in
    follows_far all came front first own mid rest c.is_taken.new.window (g.S.SentSource.left c.is_taken.new.source) found.2

pub returns-then-self-clause-receives : goal.returns-then-self-clause-receives
returns-then-self-clause-receives g c = λ harts receives.
    receives_on harts c.args.self.now c.is_taken.new.self receives c.is_taken.ensures.harts c.is_taken.ensures.most
    c.in-Ok-false.ensures.few

pub returns-in-Ok-clause-span : goal.returns-in-Ok-clause-span
returns-in-Ok-clause-span g c = λ all came front first rest right reads left fits.
    let own = c.args.self.now in
    let mid = c.is_taken.new.self in
    let file = g.R.FileReader.left c.is_taken.new.reader in
    let inside = c.self-in-Ok-false.inside in
    let found =
    subst
    (λ b. IsDecided all came front first (is_taken (rule_of own.harts all front) false) rest (most_sought own.harts) (Ok b) mid file
    c.is_taken.new.window (g.S.SentSource.left c.is_taken.new.source)) c.in-Ok-false.field-0-test
    (c.in-Ok-false.ensures.decided all came front first rest right reads left) in
    let some =
    subst (λ (o : ReceivedHeld). 1 ≤ length o.bytes) c.self-in-Ok-false.view_is
    (held_some inside.buffer.items inside.start inside.end c.self-in-Ok-false.invariant.0 c.self-in-Ok-false.invariant.1
    c.if-self.false) in
    let within = subst (λ n. n + length rest < 2 ^ 64) (sym c.is_taken.ensures.offset) fits in
    let read = read_far all came front first own c.pass_run.new.self rest mid c.is_taken.ensures.harts c.is_taken.ensures.offset
    c.is_taken.new.window (g.S.SentSource.left c.is_taken.new.source) found.2 in
    let reads_on = reads_far all came front first own c.pass_run.new.self rest mid c.is_taken.ensures.harts
    c.is_taken.ensures.offset c.is_taken.new.window (g.S.SentSource.left c.is_taken.new.source) found.2 in
    let passed = c.in-Ok.ensures.decided all came front read rest right reads_on found.1 within in
    let count = c.in-Ok.count in
    let now = g.R.FileReader.left c.pass_run.new.reader in
    subst (λ n. IsNextSpan all front own rest (Ok (Some (span.Bytes n count))) c.pass_run.new.self now)
    (sym (ap (λ (o : ReceivedHeld). o.offset) c.self.view_is))
    (next_run all front own mid c.pass_run.new.self rest c.is_taken.ensures.harts c.is_taken.ensures.offset file
    (g.R.FileReader.left c.pass_run.new.reader) count found.0 found.1 some passed.0
    (subst (λ n. IsLeft c.pass_run.new.self (g.R.FileReader.left c.pass_run.new.reader) (drop n rest)) (sym passed.0) passed.1)
    (passed.2 ∙ ap (λ n. mid.offset + n) (sym passed.0)) passed.3)

pub returns-in-Ok-clause-follows : goal.returns-in-Ok-clause-follows
returns-in-Ok-clause-follows g c = λ all came front first rest right reads left fits.
    let own = c.args.self.now in
    let mid = c.is_taken.new.self in
    let file = g.R.FileReader.left c.is_taken.new.reader in
    let inside = c.self-in-Ok-false.inside in
    let found =
    subst
    (λ b. IsDecided all came front first (is_taken (rule_of own.harts all front) false) rest (most_sought own.harts) (Ok b) mid file
    c.is_taken.new.window (g.S.SentSource.left c.is_taken.new.source)) c.in-Ok-false.field-0-test
    (c.in-Ok-false.ensures.decided all came front first rest right reads left) in
    let within = subst (λ n. n + length rest < 2 ^ 64) (sym c.is_taken.ensures.offset) fits in
    let read = read_far all came front first own c.pass_run.new.self rest mid c.is_taken.ensures.harts c.is_taken.ensures.offset
    c.is_taken.new.window (g.S.SentSource.left c.is_taken.new.source) found.2 in
    let reads_on = reads_far all came front first own c.pass_run.new.self rest mid c.is_taken.ensures.harts
    c.is_taken.ensures.offset c.is_taken.new.window (g.S.SentSource.left c.is_taken.new.source) found.2 in
    let passed = c.in-Ok.ensures.decided all came front read rest right reads_on found.1 within in
    run_follows all came front first own c.pass_run.new.self rest mid c.is_taken.ensures.harts c.is_taken.ensures.offset
    c.is_taken.new.window (g.S.SentSource.left c.is_taken.new.source) found.2
    (bytes_to_next (rule_of mid.harts all front) (drop 1 rest) + 1) passed.2 c.pass_run.new.window
    (g.S.SentSource.left c.pass_run.new.source) passed.4

pub returns-in-Ok-clause-receives : goal.returns-in-Ok-clause-receives
returns-in-Ok-clause-receives g c = λ harts receives.
    receives_on harts c.args.self.now c.pass_run.new.self receives (c.pass_run.ensures.harts ∙ c.is_taken.ensures.harts)
    (c.pass_run.ensures.most ∙ c.is_taken.ensures.most) c.in-Ok.ensures.few

pub returns-in-Err-clause-span : goal.returns-in-Err-clause-span
returns-in-Err-clause-span g c = λ all came front first rest right reads left fits.
    let own = c.args.self.now in
    next_lacks all came front first own c.is_taken.new.self rest (is_taken (rule_of own.harts all front) false)
    (most_sought own.harts) c.in-Err.why (g.R.FileReader.left c.is_taken.new.reader) c.is_taken.new.window
    (g.S.SentSource.left c.is_taken.new.source) c.is_taken.ensures.offset c.is_taken.ensures.harts
    (c.in-Err.ensures.decided all came front first rest right reads left)

pub returns-in-Err-clause-follows : goal.returns-in-Err-clause-follows
returns-in-Err-clause-follows g c = λ all came front first rest right reads left fits.
    let own = c.args.self.now in
    next_fails all came front first own c.is_taken.new.self rest (is_taken (rule_of own.harts all front) false) c.in-Err.why
    (g.R.FileReader.left c.is_taken.new.reader) c.is_taken.new.window (g.S.SentSource.left c.is_taken.new.source)
    (c.in-Err.ensures.decided all came front first rest right reads left)

pub returns-in-Err-pass_run-clause-span : goal.returns-in-Err-pass_run-clause-span
returns-in-Err-pass_run-clause-span g c = λ all came front first rest right reads left fits.
    let own = c.args.self.now in
    let mid = c.is_taken.new.self in
    let file = g.R.FileReader.left c.is_taken.new.reader in
    let inside = c.self-in-Ok-false.inside in
    let found =
    subst
    (λ b. IsDecided all came front first (is_taken (rule_of own.harts all front) false) rest (most_sought own.harts) (Ok b) mid
    file c.is_taken.new.window (g.S.SentSource.left c.is_taken.new.source)) c.in-Ok-false.field-0-test
    (c.in-Ok-false.ensures.decided all came front first rest right reads left) in
    let some =
    subst (λ (o : ReceivedHeld). 1 ≤ length o.bytes) c.self-in-Ok-false.view_is
    (held_some inside.buffer.items inside.start inside.end c.self-in-Ok-false.invariant.0 c.self-in-Ok-false.invariant.1
    c.if-self.false) in
    let within = subst (λ n. n + length rest < 2 ^ 64) (sym c.is_taken.ensures.offset) fits in
    run_lacks all came front first own c.pass_run.new.self rest mid c.is_taken.ensures.harts c.is_taken.ensures.offset
    found.2.read c.in-Err-pass_run.why (g.R.FileReader.left c.pass_run.new.reader) file c.pass_run.new.window
    (g.S.SentSource.left c.pass_run.new.source) found.1 some found.0
    (c.in-Err-pass_run.ensures.decided all came front found.2.read rest right found.2.reads found.1 within)

pub returns-in-Err-pass_run-clause-follows : goal.returns-in-Err-pass_run-clause-follows
returns-in-Err-pass_run-clause-follows g c = λ all came front first rest right reads left fits.
    let own = c.args.self.now in
    let mid = c.is_taken.new.self in
    let file = g.R.FileReader.left c.is_taken.new.reader in
    let found =
    subst
    (λ b. IsDecided all came front first (is_taken (rule_of own.harts all front) false) rest (most_sought own.harts) (Ok b) mid
    file c.is_taken.new.window (g.S.SentSource.left c.is_taken.new.source)) c.in-Ok-false.field-0-test
    (c.in-Ok-false.ensures.decided all came front first rest right reads left) in
    let within = subst (λ n. n + length rest < 2 ^ 64) (sym c.is_taken.ensures.offset) fits in
    let read = read_far all came front first own c.pass_run.new.self rest mid c.is_taken.ensures.harts c.is_taken.ensures.offset
    c.is_taken.new.window (g.S.SentSource.left c.is_taken.new.source) found.2 in
    let reads_on = reads_far all came front first own c.pass_run.new.self rest mid c.is_taken.ensures.harts
    c.is_taken.ensures.offset c.is_taken.new.window (g.S.SentSource.left c.is_taken.new.source) found.2 in
    run_fails all came front first own c.pass_run.new.self rest mid c.is_taken.ensures.harts c.is_taken.ensures.offset
    c.is_taken.new.window (g.S.SentSource.left c.is_taken.new.source) found.2
    (bytes_to_next (rule_of mid.harts all front) (drop 1 rest) + 1) c.in-Err-pass_run.why
    (g.R.FileReader.left c.pass_run.new.reader) c.pass_run.new.window (g.S.SentSource.left c.pass_run.new.source)
    (c.in-Err-pass_run.ensures.decided all came front read rest right reads_on found.1 within)
