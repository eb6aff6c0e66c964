-- A line is counted: by a lemma on the counts of the harts, which no tactic finds.
use Rattle.std.proofs.Common.{◌∙◌, [], ◌∷◌, refl, slice_get, subst, sym}
use Rattle.std.specs.Prelude.{option_map}
use Rattle.live.specs.Lines.{Line, Decided}
use Rattle.live.specs.Rows.{CountsMore, LineRows, found_counts}
use Rattle.live.proofs.Counting.{counts_line, known_counts, unknown_counts}
use Rattle.live.proofs.rows.LiveRowsLiveLines.decided.Goals as goal

pub returns-then-count_found : goal.returns-then-count_found
returns-then-count_found g c =
    let one = c.args.one.now in
    let line : Line = Decided one c.args.finding (option_map (λ payload. payload.now) c.args._sent) in
    let own : LineRows = record { counts = c.self.inside.counts.items; others = c.self.inside.others } in
    let known = sym c.count_found.ensures.known ∙ c.if-count_found.true in
    subst (λ old. CountsMore old (line ∷ [])
    (record { counts = c.count_found.new.counts.items; others = c.self.inside.others })) c.self.view_is
    (counts_line own line (found_counts c.args.finding) refl (slice_get own.counts one.message.hart) refl
    c.count_found.new.counts.items c.count_found.ensures.counts own.others
    (sym (known_counts own.counts one.message.hart known own.others)) (known_counts own.counts one.message.hart))

pub returns : goal.returns
returns g c =
    let one = c.args.one.now in
    let line : Line = Decided one c.args.finding (option_map (λ payload. payload.now) c.args._sent) in
    let own : LineRows = record { counts = c.self.inside.counts.items; others = c.self.inside.others } in
    let unknown = sym c.count_found.ensures.known ∙ c.if-count_found.false in
    subst (λ old. CountsMore old (line ∷ [])
    (record { counts = c.count_found.new.counts.items; others = c.saturating_add-self-inside.result })) c.self.view_is
    (counts_line own line (found_counts c.args.finding) refl (slice_get own.counts one.message.hart) refl
    c.count_found.new.counts.items c.count_found.ensures.counts c.saturating_add-self-inside.result
    (c.saturating_add-self-inside.ensures ∙ unknown_counts own.counts one.message.hart unknown own.others)
    (known_counts own.counts one.message.hart))
