-- SENT is read on after an outage: by lemmas on steps, which no tactic finds.
use Rattle.std.proofs.Common.{◌&&◌, List, Ok, subst, sym}
use Rattle.std.proofs.lemmas.Bool.{and_parts}
use Rattle.live.specs.Auditing.{Went}
use Rattle.live.specs.Course.{doubted_to}
use Rattle.live.specs.Lines.{Line}
use Rattle.live.specs.Live.{are_near, is_beyond, is_outage, standing_now}
use Rattle.live.specs.steps.Advancing.{IsAsked, NoneBefore, reaching}
use Rattle.live.proofs.Settling.{beyond_is, doubt_fails, near_read, none_beyond, went_on, went_still}
use Rattle.live.proofs.live_audit.LiveAudit.go_on.Goals as goal

pub returns-in-Ok-true : goal.returns-in-Ok-true
returns-in-Ok-true g c = λ all read asked state right stands was.
    let left = g.S.SentSource.left c.is_outage.new.source in
    let first = c.args.first.now in
    let second = c.args.second.now in
    let doubted = doubted_to all state first second asked in
    let found =
    subst (λ b. IsAsked all asked doubted state (is_outage all.window all.sent state first second) (Ok b)
    c.is_outage.new.self left) c.in-Ok-true.field-0-test (c.in-Ok-true.ensures all read asked state right stands was) in
    let beyond =
    beyond_is (standing_now all.window all.sent state first)
    (and_parts (is_beyond (standing_now all.window all.sent state first))
    (is_beyond (standing_now all.window all.sent state second) && are_near all.window first.number second.number)
    (sym found.0)).0 in
    let none =
    none_beyond all right state first.hart first.number beyond found.1.0
    (near_read all found.1.0 state c.is_outage.new.self left found.1.1) in
    let after = g.S.SentSource.left c.read_on.new.source in
    let Told : List Line → Type 0 = λ told. g.L.LiveLines.Told c.args.lines.now told c.read_on.new.lines in
    went_on all state first second asked Told c.read_on.result c.read_on.new.self after found.0
    (subst (λ h. Went all Told doubted (reaching all state h first.number doubted) c.read_on.result c.read_on.new.self after)
    c.from.ensures
    (c.read_on.ensures all found.1.0 doubted state right found.1.1 found.1.2
    (subst (λ h. NoneBefore all found.1.0 h first.number) (sym c.from.ensures) none)))

pub returns-in-Ok-false : goal.returns-in-Ok-false
returns-in-Ok-false g c = λ all read asked state right stands was.
    let left = g.S.SentSource.left c.is_outage.new.source in
    let first = c.args.first.now in
    let second = c.args.second.now in
    let found =
    subst (λ b. IsAsked all asked (doubted_to all state first second asked) state
    (is_outage all.window all.sent state first second) (Ok b) c.is_outage.new.self left) c.in-Ok-false.field-0-test
    (c.in-Ok-false.ensures all read asked state right stands was) in
    went_still all state first second asked (λ told. g.L.LiveLines.Told c.args.lines.now told c.args.lines.now) found.1.0
    c.is_outage.new.self left found.0 found.1.1 found.1.2 (g.met.L.LiveLines.nothing c.args.lines.now)

pub returns-in-Err : goal.returns-in-Err
returns-in-Err g c = λ all read asked state right stands was.
    doubt_fails all state c.args.first.now c.args.second.now asked
    (λ told. g.L.LiveLines.Told c.args.lines.now told c.args.lines.now) c.in-Err.why
    (g.S.SentSource.left c.is_outage.new.source) (g.met.L.LiveLines.nothing c.args.lines.now)
    (c.in-Err.ensures all read asked state right stands was)
