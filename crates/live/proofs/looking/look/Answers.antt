-- SENT is read until nothing more is wanted: by lemmas on what is read, which no tactic finds.
use Rattle.std.proofs.Common.{◌≡◌, ℕ, ◌+◌, ◌≤◌, ◌∙◌, Ok, arith, drop, refl, subst, sym, take}
use Rattle.std.proofs.lemmas.List.{length-take}
use Rattle.live.specs.Following.{AllWanted, Audited}
use Rattle.live.specs.steps.Looking.{ReadsOne}
use Rattle.live.proofs.Following.{asked_end, asked_next, asked_read, asked_some, looked_at, looked_end, wanted_more, wanted_place, whole_turn}
use Rattle.live.proofs.looking.look.Goals as goal

-- None was read yet.
none_read : (all : Audited) (read front hart number : ℕ) → AllWanted all read read front hart number
none_read all read front hart number k from below = absurd (omega (arith, from, below))

pub loop-init : goal.loop-init
loop-init g c = λ all read came front right reads.
    (read, reads, (let none : read ≡ read + 0 = omega arith in none), none_read all read front c.args.hart c.args.number, refl, λ some. absurd (omega (arith, some)))

pub returns-then-not-wants : goal.returns-then-not-wants
returns-then-not-wants g c = λ all read came front right reads.
    let under = c.loop.invariant all read came front right reads in
    let left = g.S.SentSource.left c.loop.source in
    let some = take under.0 all.sent in
    let later = under.2 in
    looked_at all right under.0 came front c.loop.window left under.1 read c.args.hart c.args.number
    (c.wants.ensures.settled some came (drop under.0 all.sent) front under.1.holds
    (whole_turn all right under.0 came front c.loop.window left under.1) c.if-not-wants.true) (omega (arith, later)) under.3
    under.4 (sym (c.wants.ensures.wanted some came front under.1.holds) ∙ c.if-not-wants.true)

pub returns-in-Ok-false : goal.returns-in-Ok-false
returns-in-Ok-false g c = λ all read came front right reads.
    let under = c.loop.invariant all read came front right reads in
    let left = g.S.SentSource.left c.loop.source in
    let wanted =
    sym (c.wants.ensures.wanted (take under.0 all.sent) came front under.1.holds) ∙ c.if-not-wants.false in
    let one =
    subst (λ b. ReadsOne all under.0 came front (Ok b) c.read_one.new.window
    (g.S.SentSource.left c.read_one.new.source)) c.in-Ok-false.field-0-test
    (c.in-Ok-false.ensures all under.0 came front right under.1
    (wanted_place all right under.0 came front c.loop.window left under.1 c.args.hart c.args.number wanted)) in
    let later = under.2 in
    looked_end all right under.0 came front c.loop.window left under.1 read c.args.hart
    c.args.number (g.S.SentSource.left c.read_one.new.source) c.read_one.new.window one.0 one.1 (omega (arith, later)) under.3
    (under.4 ∙ asked_end all right under.0 came front c.loop.window left under.1 c.args.hart c.args.number wanted one.1) one.2

pub returns-in-Err : goal.returns-in-Err
returns-in-Err g c = λ all read came front right reads.
    let under = c.loop.invariant all read came front right reads in
    let left = g.S.SentSource.left c.loop.source in
    let wanted =
    sym (c.wants.ensures.wanted (take under.0 all.sent) came front under.1.holds) ∙ c.if-not-wants.false in
    let one = c.in-Err.ensures all under.0 came front right under.1
    (wanted_place all right under.0 came front c.loop.window left under.1 c.args.hart c.args.number wanted) in
    let later = under.2 in
    let less = asked_some all right under.0 came front c.loop.window left under.1 c.args.hart c.args.number wanted in
    let to = under.4 in
    record {
      fails = record {
        asked = under.0;
        more = omega (arith, later);
        less = omega (arith, less, to);
        read = under.0;
        was = asked_read all under.0 under.1.within;
        fault = one.4;
        remains = one.5;
      };
      holds = one.0;
      harts = one.1;
      window = one.2;
      by = one.3;
      more = omega (arith, later);
      wanted =
          wanted_more all right under.0 came front c.loop.window left under.1 read c.args.hart c.args.number under.3 wanted;
    }

pub loop-preserved : goal.loop-preserved
loop-preserved g c = λ all read came front right reads.
    let under = c.loop.invariant all read came front right reads in
    let left = g.S.SentSource.left c.loop.source in
    let wanted =
    sym (c.wants.ensures.wanted (take under.0 all.sent) came front under.1.holds) ∙ c.if-not-wants.false in
    let next =
    subst (λ b. ReadsOne all under.0 came front (Ok b) c.read_one.new.window
    (g.S.SentSource.left c.read_one.new.source)) c.in-Ok-true.field-0-test
    (c.in-Ok-true.ensures all under.0 came front right under.1
    (wanted_place all right under.0 came front c.loop.window left under.1 c.args.hart c.args.number wanted)) in
    let later = under.2 in
    let few = c.wants.ensures.few in
    let window = under.1.window in (
      under.0 + 1,
      next,
      (let same : under.0 + 1 ≡ read + (c.loop.counter + 1) = omega (arith, later) in same),
      wanted_more all right under.0 came front c.loop.window left under.1 read c.args.hart c.args.number under.3 wanted,
      under.4 ∙ asked_next all right under.0 came front c.loop.window left under.1 c.args.hart c.args.number wanted next.within,
      λ some. (let small : all.window ≤ 16777216 = omega (arith, few, window) in small),
    )

-- No message wants so many.
pub returns : goal.returns
returns g c = λ all read came front right reads.
    let under = c.loop.invariant all read came front right reads in
    let over = c.loop-test.false in
    let later = under.2 in
    let few = under.5 (omega (arith, over)) in
    let ahead = under.1.holds.ahead in
    let window = under.1.window in
    let taken = length-take under.0 all.sent in
    let within = under.1.within in
    let front_read = reads.holds.read in
    let before = length-take read all.sent in
    absurd (omega (arith, over, later, few, ahead, window, taken, within, front_read, before))
