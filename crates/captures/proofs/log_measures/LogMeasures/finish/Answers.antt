-- The clauses of the encoder hold for any log, which the search does not instantiate.
use Rattle.std.proofs.Common.{◌≡◌, ◌+◌, ◌*◌, All, [], arith, length, map, subst, sym}
use Rattle.rvclass.specs.Fetch.{words_of}
use Rattle.encoder.specs.Packets.{packets}
use Rattle.payload.specs.Profile.{InProfile}
use Rattle.payload.specs.Spelling.{payload_of}
use Rattle.captures.specs.Bounds.{most_counted}
use Rattle.captures.specs.HasCounted.{HasCounted}
use Rattle.captures.specs.Measures.{measured, together}
use Rattle.captures.proofs.LogsInPieces.{ended}
use Rattle.captures.proofs.Within.{AreWithin-le}
use Rattle.captures.proofs.log_measures.LogMeasures.finish.Goals as goal

pub returns-clause-value : goal.returns-clause-value
returns-clause-value c = λ period mode seen has.
    let words = words_of c.args.program.now in
    let old = c.self.inside.measures in
    let new = c.count_all.new.measures in
    let before = subst (HasCounted words period mode seen) (sym c.self.view_is) has in
    let profile = c.finish.ensures.profile period mode seen before.stands before.legal in
    let counted = c.count_all.ensures.value (subst (All InProfile) (sym c.as_slice.ensures.value) profile) in
    ended words period mode seen c.self.inside.encoder old before (packets words period mode seen)
    c.finish.result.items new (c.finish.ensures.packets period mode seen before.stands)
    (subst (λ burst. new ≡ together old (measured [] burst (map payload_of burst))) c.as_slice.ensures.value counted)

pub returns-clause-few : goal.returns-clause-few
returns-clause-few c =
    let before = 2 * c.self.inside.measures.events + 1 in
    AreWithin-le (before + length c.as_slice.result.now) most_counted c.count_all.new.measures
    (omega (arith, c.self.invariant.few, c.as_slice.ensures.fits))
    (c.count_all.ensures.grows before c.self.invariant.within)
