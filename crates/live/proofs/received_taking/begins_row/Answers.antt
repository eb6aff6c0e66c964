-- A row, message by message: by lemmas on rows, which no tactic finds.
use Rattle.std.proofs.Common.{◌≡◌, ◌<◌, ◌+◌, ◌-◌, ◌*◌, ℕ, List, None, Ok, ap, arith, drop, length, subst, take}
use Rattle.std.proofs.lemmas.List.{length-drop, take_rest}
use Rattle.frames.specs.Frame.{message_in, message_size}
use Rattle.live.specs.Received.{begins_row, messages_from}
use Rattle.live.specs.ReceivedLeft.{most_sought, rule_of}
use Rattle.live.specs.steps.Receiving.{Says, Settles, row_by}
use Rattle.live.proofs.ReceivedBytes.{begins_rest, fits_of, says_rest}
use Rattle.live.proofs.ReceivedRows.{Placed, placed_more, placed_start, row_ended, row_goes, row_over, row_start, row_stopped}
use Rattle.live.proofs.ReceivedSteps.{AreAmong, among_more, few_more, few_never, follows_none, follows_on, held_back, paused}
use Rattle.live.proofs.received_taking.begins_row.Goals as goal

within_harts : (count end harts : ℕ) → count < end + 1 → end ≡ harts → count < harts + 1
within_harts count end harts less same = omega (arith, less, same)

-- The next message of a row begins among the bytes that are looked at.
few_places : (bytes : List ℕ) (at count harts : ℕ) → Placed bytes at count → count < harts + 1
    → AreAmong bytes (at + 1) bytes (most_sought harts)
few_places bytes at count harts placed less =
    among_more bytes (at + 1) (most_sought harts) (let few = placed.few in omega (arith, few, less))

pub loop-count-init : goal.loop-count-init
loop-count-init g c = (
  placed_start c.args.bytes.now,
  λ all came front first right reads. (
    follows_none all came front first c.args.bytes.now (most_sought c.args.harts) c.args.window.now
        (g.S.SentSource.left c.args.source.now) reads,
    row_start (rule_of c.args.harts all front) c.args.bytes.now,
  ),
)

pub returns-in-Ok-None-clause-settles : goal.returns-in-Ok-None-clause-settles
returns-in-Ok-None-clause-settles g c = λ all came front first right reads.
    let bytes = c.args.bytes.now in
    let at = c.loop-count.at in
    let now = c.loop-count.invariant.1 all came front first right reads in
    let none =
    says_rest message_size bytes at c.args.ended None
    (subst (λ o. Says message_size (take (length bytes - at) (drop at bytes)) c.args.ended o) c.in-Ok-None.field-0-is
    c.in-Ok-None.ensures.size) in (
      λ more may. row_stopped (rule_of c.args.harts all front) bytes at c.loop-count.count c.loop-count.invariant.0 now.1 more
          (none more may),
      now.0,
    )

pub returns-in-Err-clause-settles : goal.returns-in-Err-clause-settles
returns-in-Err-clause-settles g c = λ all came front first right reads.
    let now = c.loop-count.invariant.1 all came front first right reads in
    held_back all came front first c.args.bytes.now (most_sought c.args.harts)
    (Says (begins_row (rule_of c.args.harts all front)) c.args.bytes.now c.args.ended)
    c.loop-count.window (g.S.SentSource.left c.loop-count.source) c.in-Err.why c.in-Err.ensures.few.0 now.0

pub returns-in-Err-clause-few : goal.returns-in-Err-clause-few
returns-in-Err-clause-few g c =
    let bytes = c.args.bytes.now in
    let at = c.loop-count.at in
    let placed = c.loop-count.invariant.0 in
    let few = placed.few in
    let within = placed.within in
    let less = c.loop-count-test.true in
    let same = ap length (take_rest bytes at) in
    let left = length-drop at bytes in
    few_more c.args.ended (length (take (length bytes - at) (drop at bytes))) 29 (length bytes) (29 * (c.args.harts + 1))
    c.in-Err.why (λ some. omega (arith, some, few, within, less, same, left)) c.in-Err.ensures.few.1

pub returns-in-Ok-Some-row_ends-clause-settles : goal.returns-in-Ok-Some-row_ends-clause-settles
returns-in-Ok-Some-row_ends-clause-settles g c = λ all came front first right reads.
    let bytes = c.args.bytes.now in
    let at = c.loop-count.at in
    let count = c.loop-count.count in
    let rule = rule_of c.args.harts all front in
    let now = c.loop-count.invariant.1 all came front first right reads in
    let begins = begins_rest bytes at c.in-Ok-Some.field-0 c.in-Ok-Some.size c.in-Ok-Some.field-0-is c.in-Ok-Some.ensures.held in
    let less = within_harts count c.from-count-end.result c.args.harts c.loop-count-test.true c.from-count-end.ensures in
    let ended =
    subst
    (λ o. Settles all came front now.0.read bytes (at + 1)
    (λ is. is ≡ row_by rule (take count (messages_from bytes)) (message_in (drop at bytes))) (Ok o)
    c.row_ends.new.window (g.S.SentSource.left c.row_ends.new.source)) c.in-Ok-Some-row_ends.field-0-is
    (c.in-Ok-Some-row_ends.ensures.settles all came front now.0.read right now.0.reads) in (
      λ more may. row_ended rule bytes at count c.loop-count.invariant.0 now.1 c.in-Ok-Some.size c.in-Ok-Some-row_ends.is_row more
          less begins ended.0,
      follows_on all front first now.0.read now.0.more bytes (at + 1) bytes (most_sought c.args.harts) now.0.sought
          (few_places bytes at count c.args.harts c.loop-count.invariant.0 less) came c.row_ends.new.window
          (g.S.SentSource.left c.row_ends.new.source) ended.1,
    )

pub returns-in-Err-row_ends-clause-settles : goal.returns-in-Err-row_ends-clause-settles
returns-in-Err-row_ends-clause-settles g c = λ all came front first right reads.
    let bytes = c.args.bytes.now in
    let at = c.loop-count.at in
    let count = c.loop-count.count in
    let rule = rule_of c.args.harts all front in
    let now = c.loop-count.invariant.1 all came front first right reads in
    let less = within_harts count c.from-count-end.result c.args.harts c.loop-count-test.true c.from-count-end.ensures in
    paused all came front first now.0.read bytes (at + 1) bytes (most_sought c.args.harts) now.0.more now.0.sought
    (few_places bytes at count c.args.harts c.loop-count.invariant.0 less)
    (λ is. is ≡ row_by rule (take count (messages_from bytes)) (message_in (drop at bytes)))
    (Says (begins_row rule) bytes c.args.ended) c.in-Err-row_ends.why c.row_ends.new.window
    (g.S.SentSource.left c.row_ends.new.source)
    (c.in-Err-row_ends.ensures.settles all came front now.0.read right now.0.reads)

pub returns-in-Err-row_ends-clause-few : goal.returns-in-Err-row_ends-clause-few
returns-in-Err-row_ends-clause-few g c =
    few_never c.args.ended (length c.args.bytes.now) (29 * (c.args.harts + 1)) c.in-Err-row_ends.why
    c.in-Err-row_ends.ensures.never_bytes

pub loop-count-preserved : goal.loop-count-preserved
loop-count-preserved g c =
    let bytes = c.args.bytes.now in
    let at = c.loop-count.at in
    let count = c.loop-count.count in
    let begins = begins_rest bytes at c.in-Ok-Some.field-0 c.in-Ok-Some.size c.in-Ok-Some.field-0-is c.in-Ok-Some.ensures.held in
    let fits = fits_of (length (take (length bytes - at) (drop at bytes))) c.in-Ok-Some.field-0 c.in-Ok-Some.size
    c.in-Ok-Some.field-0-is c.in-Ok-Some.ensures.within in
    let same = ap length (take_rest bytes at) in (
      placed_more bytes at count c.loop-count.invariant.0 c.in-Ok-Some.size begins (omega (arith, same, fits)),
      λ all came front first right reads.
          let rule = rule_of c.args.harts all front in
          let now = c.loop-count.invariant.1 all came front first right reads in
          let less = within_harts count c.from-count-end.result c.args.harts c.loop-count-test.true c.from-count-end.ensures in
          let ended =
          subst
          (λ o. Settles all came front now.0.read bytes (at + 1)
          (λ is. is ≡ row_by rule (take count (messages_from bytes)) (message_in (drop at bytes)))
          (Ok o) c.row_ends.new.window (g.S.SentSource.left c.row_ends.new.source)) c.in-Ok-None-row_ends.field-0-is
          (c.in-Ok-None-row_ends.ensures.settles all came front now.0.read right now.0.reads) in (
            follows_on all front first now.0.read now.0.more bytes (at + 1) bytes (most_sought c.args.harts) now.0.sought
                (few_places bytes at count c.args.harts c.loop-count.invariant.0 less) came c.row_ends.new.window
                (g.S.SentSource.left c.row_ends.new.source) ended.1,
            row_goes rule bytes at count c.loop-count.invariant.0 now.1 c.in-Ok-Some.size less begins ended.0,
          ),
    )

pub returns-clause-settles : goal.returns-clause-settles
returns-clause-settles g c = λ all came front first right reads.
    let now = c.loop-count.invariant.1 all came front first right reads in
    let over = c.loop-count-test.false in (
      λ more may. row_over (rule_of c.args.harts all front) c.args.bytes.now c.loop-count.at c.loop-count.count
          c.loop-count.invariant.0 now.1 more (omega (arith, over)),
      now.0,
    )
