-- A run, byte by byte: by lemmas on runs, which no tactic finds.
use Rattle.std.proofs.Common.{◌∙◌, ◌≤◌, ◌+◌, ◌%◌, ◌^◌, ◌≡◌, true, Ok, ap, arith, drop, length, refl, subst, sym}
use Rattle.live.specs.Received.{bytes_to_next, is_taken}
use Rattle.live.specs.ReceivedLeft.{Follows, IsLeft, ReceivedHeld, most_sought, rule_of}
use Rattle.live.specs.steps.Receiving.{IsDecided, IsSure}
use Rattle.live.proofs.ReceivedBuffer.{left_none, left_some}
use Rattle.live.proofs.ReceivedNext.{fails_there, follows_next, follows_there, held_none, held_some, stepped}
use Rattle.live.proofs.ReceivedRuns.{RunGoes, run_ended, run_goes, run_over, run_start}
use Rattle.live.proofs.ReceivedSteps.{follows_none}
use Rattle.live.proofs.received.Received.pass_run.Goals as goal

pub loop-init : goal.loop-init
loop-init g c = (
  refl,
  c.requires,
  λ all came front first rest right reads left fits. (
    follows_none all came front first rest (0 + most_sought c.args.self.now.harts) c.args.window.now
        (g.S.SentSource.left c.args.source.now) reads,
    left,
    run_start (rule_of c.args.self.now.harts all front) rest,
    (let same : c.args.self.now.offset ≡ c.args.self.now.offset + 0 = omega arith in same),
    omega arith,
  ),
  refl,
)

pub returns-in-Ok-true : goal.returns-in-Ok-true
returns-in-Ok-true g c = record {
  decided = λ all came front first rest right reads left fits.
      let own = c.args.self.now in
      let mid = c.is_taken.new.self in
      let file = g.R.FileReader.left c.is_taken.new.reader in
      let count = c.loop.count in
      let now = c.loop.invariant.2 all came front first rest right reads left fits in
      let step = stepped own c.loop.self c.pass.new.self (g.R.FileReader.left c.loop.reader) rest count now.1 now.3 fits
      c.loop.invariant.1 c.pass.ensures.bytes c.pass.ensures.ended c.pass.ensures.offset in
      let wide =
      follows_next all came front first rest count own.harts c.loop.window (g.S.SentSource.left c.loop.source) now.0 in
      let decided =
      subst
      (λ b. IsDecided all came front wide.read (is_taken (rule_of c.pass.new.self.harts all front) true) (drop (count + 1) rest)
      (most_sought c.pass.new.self.harts) (Ok b) mid file c.is_taken.new.window (g.S.SentSource.left c.is_taken.new.source))
      c.in-Ok-true.field-0-test
      (c.in-Ok-true.ensures.decided all came front wide.read (drop (count + 1) rest) right wide.reads step.left) in
      let found =
      sym (decided.0 ∙ ap (λ r. is_taken (rule_of r all front) true (drop (count + 1) rest)) c.pass.ensures.harts) in
      let run = run_ended (rule_of c.loop.self.harts all front) rest count now.2 found in
      let counted = run ∙ ap (λ r. bytes_to_next (rule_of r all front) (drop 1 rest) + 1) c.loop.invariant.0 in (
        step.wraps ∙ counted,
        subst (λ n. IsLeft mid file (drop n rest)) counted decided.1,
        c.is_taken.ensures.offset ∙ step.offset ∙ ap (λ n. own.offset + n) counted,
        c.is_taken.ensures.harts ∙ c.pass.ensures.harts ∙ c.loop.invariant.0,
        subst (λ n. Follows all came front first rest (n + most_sought own.harts) c.is_taken.new.window
            (g.S.SentSource.left c.is_taken.new.source)) counted
            (follows_there all came front first rest count own.harts c.loop.window (g.S.SentSource.left c.loop.source) wide
            c.pass.new.self.harts (c.pass.ensures.harts ∙ c.loop.invariant.0) c.is_taken.new.window
            (g.S.SentSource.left c.is_taken.new.source) decided.2),
      );
  harts = c.is_taken.ensures.harts ∙ c.pass.ensures.harts ∙ c.loop.invariant.0;
  most = c.is_taken.ensures.most ∙ c.pass.ensures.most ∙ c.loop.invariant.3;
  few = c.in-Ok-true.ensures.few;
}

pub returns-then-self : goal.returns-then-self
returns-then-self g c = record {
  decided = λ all came front first rest right reads left fits.
      let own = c.args.self.now in
      let mid = c.is_taken.new.self in
      let file = g.R.FileReader.left c.is_taken.new.reader in
      let count = c.loop.count in
      let now = c.loop.invariant.2 all came front first rest right reads left fits in
      let step = stepped own c.loop.self c.pass.new.self (g.R.FileReader.left c.loop.reader) rest count now.1 now.3 fits
      c.loop.invariant.1 c.pass.ensures.bytes c.pass.ensures.ended c.pass.ensures.offset in
      let wide =
      follows_next all came front first rest count own.harts c.loop.window (g.S.SentSource.left c.loop.source) now.0 in
      let decided =
      subst
      (λ b. IsDecided all came front wide.read (is_taken (rule_of c.pass.new.self.harts all front) true) (drop (count + 1) rest)
      (most_sought c.pass.new.self.harts) (Ok b) mid file c.is_taken.new.window (g.S.SentSource.left c.is_taken.new.source))
      c.in-Ok-false.field-0-test
      (c.in-Ok-false.ensures.decided all came front wide.read (drop (count + 1) rest) right wide.reads step.left) in
      let bytes = c.self.inside.buffer.items in
      let none =
      ap (λ (o : ReceivedHeld). length o.bytes) (sym c.self.view_is)
      ∙ held_none bytes c.self.inside.start c.self.inside.end c.self.invariant.1 c.if-self.true in
      let sure = subst (λ b. IsSure mid.bytes mid.ended b) c.in-Ok-false.field-0-test c.in-Ok-false.ensures.sure in
      let over = ap length (left_none mid file (drop (count + 1) rest) decided.1 none (sure none)) in
      let run = run_over (rule_of c.loop.self.harts all front) rest count now.2 over in
      let counted = run ∙ ap (λ r. bytes_to_next (rule_of r all front) (drop 1 rest) + 1) c.loop.invariant.0 in (
        step.wraps ∙ counted,
        subst (λ n. IsLeft mid file (drop n rest)) counted decided.1,
        c.is_taken.ensures.offset ∙ step.offset ∙ ap (λ n. own.offset + n) counted,
        c.is_taken.ensures.harts ∙ c.pass.ensures.harts ∙ c.loop.invariant.0,
        subst (λ n. Follows all came front first rest (n + most_sought own.harts) c.is_taken.new.window
            (g.S.SentSource.left c.is_taken.new.source)) counted
            (follows_there all came front first rest count own.harts c.loop.window (g.S.SentSource.left c.loop.source) wide
            c.pass.new.self.harts (c.pass.ensures.harts ∙ c.loop.invariant.0) c.is_taken.new.window
            (g.S.SentSource.left c.is_taken.new.source) decided.2),
      );
  harts = c.is_taken.ensures.harts ∙ c.pass.ensures.harts ∙ c.loop.invariant.0;
  most = c.is_taken.ensures.most ∙ c.pass.ensures.most ∙ c.loop.invariant.3;
  few = c.in-Ok-false.ensures.few;
}

pub returns-in-Err : goal.returns-in-Err
returns-in-Err g c = record {
  decided = λ all came front first rest right reads left fits.
      let own = c.args.self.now in
      let count = c.loop.count in
      let now = c.loop.invariant.2 all came front first rest right reads left fits in
      let step = stepped own c.loop.self c.pass.new.self (g.R.FileReader.left c.loop.reader) rest count now.1 now.3 fits
      c.loop.invariant.1 c.pass.ensures.bytes c.pass.ensures.ended c.pass.ensures.offset in
      let wide =
      follows_next all came front first rest count own.harts c.loop.window (g.S.SentSource.left c.loop.source) now.0 in
      let run = now.2 in
      let total = ap (λ r. bytes_to_next (rule_of r all front) (drop 1 rest) + 1) c.loop.invariant.0 in
      fails_there all came front first rest count own.harts c.loop.window (g.S.SentSource.left c.loop.source) wide
      c.pass.new.self.harts (c.pass.ensures.harts ∙ c.loop.invariant.0) own c.is_taken.new.self
      (bytes_to_next (rule_of own.harts all front) (drop 1 rest) + 1)
      (is_taken (rule_of c.pass.new.self.harts all front) true) c.in-Err.why (g.R.FileReader.left c.is_taken.new.reader)
      c.is_taken.new.window (g.S.SentSource.left c.is_taken.new.source) refl (omega (arith, run, total))
      (c.is_taken.ensures.offset ∙ step.offset) (c.is_taken.ensures.harts ∙ c.pass.ensures.harts ∙ c.loop.invariant.0)
      (c.in-Err.ensures.decided all came front wide.read (drop (count + 1) rest) right wide.reads step.left);
  harts = c.is_taken.ensures.harts ∙ c.pass.ensures.harts ∙ c.loop.invariant.0;
  most = c.is_taken.ensures.most ∙ c.pass.ensures.most ∙ c.loop.invariant.3;
  few = tt;
}

pub loop-preserved : goal.loop-preserved
loop-preserved g c =
    let bytes = c.self.inside.buffer.items in
    let some =
    subst (λ (o : ReceivedHeld). 1 ≤ length o.bytes) c.self.view_is
    (held_some bytes c.self.inside.start c.self.inside.end c.self.invariant.0 c.self.invariant.1 c.if-self.false) in (
      c.is_taken.ensures.harts ∙ c.pass.ensures.harts ∙ c.loop.invariant.0,
      some,
      λ all came front first rest right reads left fits.
          let own = c.args.self.now in
          let mid = c.is_taken.new.self in
          let file = g.R.FileReader.left c.is_taken.new.reader in
          let count = c.loop.count in
          let now = c.loop.invariant.2 all came front first rest right reads left fits in
          let step = stepped own c.loop.self c.pass.new.self (g.R.FileReader.left c.loop.reader) rest count now.1 now.3 fits
          c.loop.invariant.1 c.pass.ensures.bytes c.pass.ensures.ended c.pass.ensures.offset in
          let wide =
          follows_next all came front first rest count own.harts c.loop.window (g.S.SentSource.left c.loop.source) now.0 in
          let decided =
          subst
          (λ b. IsDecided all came front wide.read (is_taken (rule_of c.pass.new.self.harts all front) true)
          (drop (count + 1) rest) (most_sought c.pass.new.self.harts) (Ok b) mid file c.is_taken.new.window
          (g.S.SentSource.left c.is_taken.new.source)) c.in-Ok-false.field-0-test
          (c.in-Ok-false.ensures.decided all came front wide.read (drop (count + 1) rest) right wide.reads step.left) in
          let found =
          sym (decided.0 ∙ ap (λ r. is_taken (rule_of r all front) true (drop (count + 1) rest)) c.pass.ensures.harts) in
          let rule = rule_of c.loop.self.harts all front in
          let more = left_some mid file (drop (count + 1) rest) decided.1 some in
          let goes = run_goes rule rest count now.2 found more in
          let same = sym (c.is_taken.ensures.harts ∙ c.pass.ensures.harts) in (
            subst (λ n. Follows all came front first rest (n + most_sought own.harts) c.is_taken.new.window
                (g.S.SentSource.left c.is_taken.new.source)) (sym step.wraps)
                (follows_there all came front first rest count own.harts c.loop.window (g.S.SentSource.left c.loop.source) wide
                c.pass.new.self.harts (c.pass.ensures.harts ∙ c.loop.invariant.0) c.is_taken.new.window
                (g.S.SentSource.left c.is_taken.new.source) decided.2),
            subst (λ n. IsLeft mid file (drop n rest)) (sym step.wraps) decided.1,
            subst (λ r. RunGoes (rule_of r all front) rest ((count + 1) % 2 ^ 64)) same
                (subst (λ n. RunGoes rule rest n) (sym step.wraps) goes),
            c.is_taken.ensures.offset ∙ step.offset ∙ ap (λ n. own.offset + n) (sym step.wraps),
            subst (λ n. n ≤ length rest) (sym step.wraps) step.within,
          ),
      c.is_taken.ensures.most ∙ c.pass.ensures.most ∙ c.loop.invariant.3,
    )
