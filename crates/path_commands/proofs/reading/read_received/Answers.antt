-- RECEIVED is read by lengths, or by the payloads of SENT: by lemmas on captures, which no tactic finds.
use Rattle.std.proofs.Common.{◌≡◌, ◌∙◌, ℕ, List, [], ap, arith, drop, length, refl, subst}
use Rattle.std.specs.Prelude.{IfSome}
use Rattle.frames.specs.Framed.{is_framed}
use Rattle.frames.specs.Passages.{Sees, spans_from, spans_left}
use Rattle.frames.specs.Start.{first_place}
use Rattle.auditing.specs.PayloadSights.{payload_sight, sight_kept}
use Rattle.message.specs.Capture.{capture}
use Rattle.message.specs.declared.message.Message.{Message}
use Rattle.path_commands.proofs.MatchedRuns.{ok_in_words}
use Rattle.path_commands.proofs.ReadSpans.{body_is, reads_spans}
use Rattle.path_commands.specs.declared.reading.Received.{Received}
use Rattle.path_commands.specs.steps.Matching.{KeepsSpans, ReadsCame}
use Rattle.path_commands.proofs.reading.read_received.Goals as goal

pub returns-in-Some-clause-came : goal.returns-in-Some-clause-came
returns-in-Some-clause-came c = λ messages kept.
    subst (λ n. ReadsCame c.args.by messages c.args.harts n c.args.bytes.now c.in-Some.came) c.harts-count.ensures
    (subst (λ found. IfSome found (λ own. (sent : List Message)
    → ReadsCame c.args.by sent c.args.harts c.harts-count.result c.args.bytes.now own)) c.in-Some.is c.in_ok-whole.ensures
    messages)

pub returns-in-Some-clause-count : goal.returns-in-Some-clause-count
returns-in-Some-clause-count c =
    let own = subst (λ found. IfSome found (λ own. (sent : List Message)
    → ReadsCame c.args.by sent c.args.harts c.harts-count.result c.args.bytes.now own)) c.in-Some.is c.in_ok-whole.ensures
    [] in
    own.each ∙ c.harts-count.ensures

pub returns-clause-count : goal.returns-clause-count
returns-clause-count c =
    let many = c.in_ok-with_space.ensures.split.count ∙ c.harts-count.ensures in
    let sees : Sees = λ message. sight_kept c.in_ok-known.known message in
    ok_in_words
    (λ (own : Received). KeepsSpans c.args.harts (spans_left sees c.new-spans.result) own
    × (length own.lists.payloads.lists ≡ length c.in_ok-with_space.field-0.lists))
    (λ own. length own.lists.payloads.lists ≡ length c.args.sent.now.payloads.lists) (λ own has. has.1 ∙ many)
    c.read_spans.result (c.read_spans.ensures.kept sees (λ message. refl)
    (let few = c.new-spans.ensures.few in omega (arith, few)))

pub returns-clause-came : goal.returns-clause-came
returns-clause-came c = λ messages kept.
    let start = c.start_of-start in
    let many = c.in_ok-with_space.ensures.split.count ∙ c.harts-count.ensures in
    let body = ap (drop (first_place c.args.sent.now.header)) c.as_slice.ensures.value
    ∙ body_is c.args.sent.now.bytes.items (capture messages) c.args.sent.now.header kept.sent.whole.whole in
    reads_spans c.args.by messages c.args.harts (length c.args.sent.now.payloads.lists) c.args.bytes.now
    start.result.header start.result.fault start.ensures c.is_framed-framed.result c.in_ok-known.known
    (c.is_framed-framed.ensures.value ∙ ap is_framed c.body_of.ensures)
    (c.in_ok-known.ensures messages kept.sent.whole.ranges (c.body_of-own.ensures ∙ body)) c.new-spans.result
    (λ sees. c.new-spans.ensures.spans sees
    ∙ ap (λ (n : ℕ). spans_from sees n (drop n c.args.bytes.now)) c.first_place.ensures) c.read_spans.result c.read_spans.ensures.header c.read_spans.ensures.fault
    _ c.in_ok-with_space.ensures.by c.read_spans.ensures.by _ many
    (λ same. c.read_spans.ensures.kept (payload_sight c.is_framed-framed.result c.args.by messages) same
    (let few = c.new-spans.ensures.few in omega (arith, few)))
