-- The clauses of the encoder hold for any log before these events, which the search does not instantiate.
use Rattle.std.proofs.Common.{◌≡◌, ◌+◌, ◌*◌, ◌^◌, ◌++◌, ◌∙◌, ap, arith, length, subst, sym}
use Rattle.rvclass.specs.Fetch.{words_of}
use Rattle.captures.specs.Bounds.{AreWithin}
use Rattle.captures.specs.HasCounted.{Counted, HasCounted}
use Rattle.captures.specs.declared.measures.Measures.{Measures}
use Rattle.captures.proofs.LogsInPieces.{all_added, events_added}
use Rattle.captures.proofs.Within.{AreWithin-le, GrowsBy-trans}
use Rattle.captures.proofs.log_measures.LogMeasures.add.Goals as goal

pub count_packets-requires-clause-room : goal.count_packets-requires-clause-room
count_packets-requires-clause-room c =
    let rows = ap (λ (s : Counted). s.rows) c.self.view_is in
    let before = 2 * c.self.inside.measures.events + 1 in
    AreWithin-le (before + length c.args.events.now) (2 ^ 48) c.count_events.new.measures
    (omega (arith, rows, c.requires.few)) (c.count_events.ensures.grows before c.self.invariant.within)

pub invariant_of-self : goal.invariant_of-self
invariant_of-self c =
    let rows = ap (λ (s : Counted). s.rows) c.self.view_is in
    let old = c.self.inside.measures in
    let mid = c.count_events.new.measures in
    let new = c.count_packets.new.measures in
    let more = length c.args.events.now in
    let counted : new.events ≡ old.events + more =
    c.count_packets.ensures.events ∙ ap (λ (m : Measures). m.events) c.count_events.ensures.value in
    let limit : 2 * old.events + 1 + (more + more) ≡ 2 * new.events + 1 = omega (arith, counted) in record {
      few = omega (arith, counted, rows, c.requires.few);
      within = subst (λ n. AreWithin n new) limit
          (GrowsBy-trans more more old mid new c.count_events.ensures.grows c.count_packets.ensures.grows
          (2 * old.events + 1) c.self.invariant.within);
    }

pub returns-clause-counted : goal.returns-clause-counted
returns-clause-counted c = λ period mode seen has legal.
    let words = words_of c.args.program.now in
    let all = seen ++ c.args.events.now in
    let before = subst (HasCounted words period mode seen) (sym c.self.view_is) has in
    let added = events_added words period mode seen c.self.inside.encoder c.self.inside.measures before
    c.args.events.now c.count_events.new.measures c.count_events.ensures.value in
    all_added words period mode all c.count_packets.new.encoder c.count_packets.new.measures legal
    (c.count_packets.ensures.value period mode all seen added legal)
