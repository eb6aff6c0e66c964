-- What was counted behind a header or without one: by laws on captures, which no tactic finds.
use Rattle.std.proofs.Common.{[], arith, None, Some, Ok, Err, ap, inr, refl, subst, sym}
use Rattle.captures.proofs.HeaderFaults.{no_header}
use Rattle.captures.proofs.WholeCaptures.{begins_with, front_of}
use Rattle.captures.specs.Whole.{BeginsWith}
use Rattle.message.specs.Header.{HasBadHeader, IsCutHeader}
use Rattle.comparing.proofs.CountedFronts.{before_none, rest_shorter}
use Rattle.comparing.proofs.CountedMessages.{all_none, none_counted}
use Rattle.comparing.specs.Counts.{AreCounts, before_stop}
use Rattle.comparing.proofs.counting.counts_of.Goals as goal

pub count_messages-requires-clause-none : goal.count_messages-requires-clause-none
count_messages-requires-clause-none g c = all_none c.args.harts c.in_ok-counts.counts.items (c.in_ok-counts.ensures.items_if_clones_equal (λ y same. same))

pub count_messages-requires-clause-few : goal.count_messages-requires-clause-few
count_messages-requires-clause-few g c =
    let ensured = c.in-Ok.ensures in
    let header = c.in-Ok.field-0 in
    let begins =
    subst (λ bytes. BeginsWith header bytes c.header.new.self) c.new-left.ensures
    (begins_with c.new-left.result c.header.new.self header ensured.header
    (λ is. ensured.none.0 (ap (λ h. Ok h) is)) (λ is. ensured.stays (ap (λ h. Ok h) is))) in
    let shorter = rest_shorter c.args.bytes.now c.header.new.self header begins in omega (arith, shorter)

pub returns-in-Ok : goal.returns-in-Ok
returns-in-Ok g c =
    let up = c.count_messages.ensures in
    let ensured = c.in-Ok.ensures in
    let header = c.in-Ok.field-0 in
    let begins =
    subst (λ bytes. BeginsWith header bytes c.header.new.self) c.new-left.ensures
    (begins_with c.new-left.result c.header.new.self header ensured.header
    (λ is. ensured.none.0 (ap (λ h. Ok h) is)) (λ is. ensured.stays (ap (λ h. Ok h) is))) in
    let many = (none_counted c.args.harts c.in_ok-counts.counts.items (c.in_ok-counts.ensures.items_if_clones_equal (λ y same. same))).many in
    record {
      header = header;
      messages = up.messages;
      end = up.end;
      front = front_of c.args.bytes.now c.header.new.self header up.messages up.end begins up.read;
      are = subst (λ n. AreCounts n (before_stop c.args.stop up.messages) c.count_messages.new.counts.items) many up.are;
    }

pub returns-in-Err : goal.returns-in-Err
returns-in-Err g c =
    let bytes = c.new-left.ensures in
    let ensured = c.in-Err.ensures in
    let why = c.in-Err.field-0 in
    record {
      header = None;
      messages = [];
      end = Some why;
      front = inr (record {
        no_header = refl;
        no_messages = refl;
        none =
            no_header c.args.bytes.now why ensured.fault
            (λ is. subst IsCutHeader bytes (ensured.short.0 (ap (λ f. Err f) is)))
            (λ is. subst HasBadHeader bytes (ensured.bad_header.0 (ap (λ f. Err f) is)));
      });
      are = subst (λ messages. AreCounts c.args.harts messages c.in_ok-counts.counts.items)
          (sym (before_none c.args.bytes.now c.args.harts c.args.stop))
          (none_counted c.args.harts c.in_ok-counts.counts.items (c.in_ok-counts.ensures.items_if_clones_equal (λ y same. same)));
    }
