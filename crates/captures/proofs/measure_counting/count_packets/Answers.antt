-- The search does not apply the clauses of `push_until_packet` to the log that the encoder has taken.
use Rattle.std.proofs.Common.{ℕ, ◌^◌, ◌+◌, ◌≤◌, ap, arith, length, subst, sym, ◌∙◌, refl}
use Rattle.std.proofs.lemmas.List.{length-drop}
use Rattle.std.specs.Prelude.{IfSome}
use Rattle.rvclass.specs.Fetch.{words_of}
use Rattle.encoder.proofs.SeveralEvents.{rest_from}
use Rattle.captures.specs.declared.measures.Measures.{Measures}
use Rattle.captures.proofs.PacketsInPieces.{CountsFront, IsCounted, counts_all, counts_more}
use Rattle.captures.proofs.Within.{AreWithin-le, GrowsBy-le, GrowsBy-trans}
use Rattle.captures.proofs.measure_counting.count_packets.Goals.{After-push_until_packet-count}
use Rattle.captures.proofs.measure_counting.count_packets.Goals as goal

module _ (c : After-push_until_packet-count) where
  abbrev taken : ℕ
  taken = c.loop.taken + c.push_until_packet-count.result.0

  within : taken ≤ length c.args.events.now
  within =
      omega (
        arith,
        c.push_until_packet-count.ensures.within,
        c.loop.invariant.within,
        length-drop c.loop.taken c.args.events.now,
        ap length (rest_from c.loop.taken c.args.events.now),
      )

  -- More events are taken, if their packet is counted.
  counted : (measures : Measures) → IsCounted c.push_until_packet-count.result.1 c.loop.measures measures
      → CountsFront (words_of c.args.program.now) c.args.events.now taken c.args.encoder.now
      c.args.measures.now c.push_until_packet-count.new.self measures
  counted measures is =
      counts_more (words_of c.args.program.now) c.args.events.now _ c.loop.taken c.push_until_packet-count.result.0
      c.args.encoder.now c.loop.encoder c.push_until_packet-count.new.self c.args.measures.now c.loop.measures
      c.push_until_packet-count.result.1 (rest_from c.loop.taken c.args.events.now) c.loop.invariant.counts measures
      c.push_until_packet-count.ensures.stands c.push_until_packet-count.ensures.packets
      c.push_until_packet-count.ensures.profile is

pub count_packet-requires : goal.count_packet-requires
count_packet-requires c =
    AreWithin-le (2 ^ 48 + c.loop.taken) (2 ^ 50) c.loop.measures
    (omega (arith, c.loop.invariant.within, c.requires.few)) (c.loop.invariant.grows (2 ^ 48) c.requires.room)

pub loop-preserved : goal.loop-preserved
loop-preserved c =
    let before = (goal.at.loop-preserved c).After-push_until_packet-count in
    let one : 1 ≤ c.push_until_packet-count.result.0 =
    subst (λ packet. IfSome packet (λ _. 1 ≤ c.push_until_packet-count.result.0)) c.in-Some.is
    c.push_until_packet-count.ensures.some in record {
      counts = counted before c.count_packet.new.measures
          (subst (λ packet. IsCounted packet c.loop.measures c.count_packet.new.measures) (sym c.in-Some.is)
          c.count_packet.ensures.value);
      grows = GrowsBy-le (c.loop.taken + 1) (taken before) c.args.measures.now c.count_packet.new.measures
          (omega (arith, one))
          (GrowsBy-trans c.loop.taken 1 c.args.measures.now c.loop.measures c.count_packet.new.measures
          c.loop.invariant.grows c.count_packet.ensures.grows);
      events = c.count_packet.ensures.events ∙ c.loop.invariant.events;
      some = omega (arith, one, c.loop.invariant.some);
      within = within before;
    }

pub returns-in_default-clause-value : goal.returns-in_default-clause-value
returns-in_default-clause-value c =
    let before = (goal.at.returns-in_default-clause-value c).After-push_until_packet-count in
    let all = c.push_until_packet-count.ensures.all c.in_default.is in
    counts_all (words_of c.args.program.now) c.args.events.now (taken before) c.args.encoder.now
    c.push_until_packet-count.new.self c.args.measures.now c.loop.measures
    (omega (
      arith,
      all,
      c.loop.invariant.within,
      length-drop c.loop.taken c.args.events.now,
      ap length (rest_from c.loop.taken c.args.events.now),
    ))
    (counted before c.loop.measures
    (subst (λ packet. IsCounted packet c.loop.measures c.loop.measures) (sym c.in_default.is) refl))

pub returns-in_default-clause-grows : goal.returns-in_default-clause-grows
returns-in_default-clause-grows c =
    GrowsBy-le c.loop.taken (length c.args.events.now) c.args.measures.now c.loop.measures c.loop.invariant.within
    c.loop.invariant.grows

pub returns-clause-value : goal.returns-clause-value
returns-clause-value c =
    counts_all (words_of c.args.program.now) c.args.events.now c.loop.taken c.args.encoder.now c.loop.encoder
    c.args.measures.now c.loop.measures (omega (arith, c.loop.invariant.some, c.loop-test.false))
    c.loop.invariant.counts

pub returns-clause-grows : goal.returns-clause-grows
returns-clause-grows c =
    GrowsBy-le c.loop.taken (length c.args.events.now) c.args.measures.now c.loop.measures c.loop.invariant.within
    c.loop.invariant.grows
