-- The first span of what is left: by lemmas on spans, which no search finds.
use Rattle.std.proofs.Common.{◌+◌, ◌-◌, ◌∙◌, ◌∷◌, ℕ, List, length, drop, take, ap, sym, arith}
use Rattle.std.proofs.lemmas.List.{length-drop, take_rest}
use Rattle.frames.specs.Counted.{span_size}
use Rattle.frames.specs.Passages.{Left, spans_from, spans_left}
use Rattle.frames.proofs.PassageLemmas.{next-run}
use Rattle.frames.proofs.GuidedTakenLemmas.{ends_within, next_taken, size, whole}
use Rattle.frames.proofs.reading.GuidedScan.pass.Goals as goal

-- The bytes from a place on, as they are read.
abbrev rest_of : ℕ → List ℕ → List ℕ
rest_of at bytes = take (length bytes - at) (drop at bytes)

pub message_at-requires-clause-enough : goal.message_at-requires-clause-enough
message_at-requires-clause-enough g c = (whole
    (rest_of c.self.inside.at c.self.inside.bytes.now) c.in-Some.size c.in-Some.ensures.value).fits

pub message_at-requires-clause-some : goal.message_at-requires-clause-some
message_at-requires-clause-some g c = (whole
    (rest_of c.self.inside.at c.self.inside.bytes.now) c.in-Some.size c.in-Some.ensures.value).some

pub message_at-requires-clause-few : goal.message_at-requires-clause-few
message_at-requires-clause-few g c = (whole
    (rest_of c.self.inside.at c.self.inside.bytes.now) c.in-Some.size c.in-Some.ensures.value).few

pub returns-clause-spans : goal.returns-clause-spans
returns-clause-spans g c =
    let s = c.self.inside in
    let sees = g.S.Sent.sees c.args.sent.now in
    let next = s.at + c.in-Some.size in
    ap (spans_left sees) (sym c.self.view_is)
    ∙ next_taken sees s.at c.in-Some.size s.bytes.now _ (take_rest s.bytes.now s.at)
    c.in-Some.ensures.value (sym c.is_taken.ensures ∙ c.if-not-is_taken.false)
    ∙ ap (λ span. span ∷ spans_from sees next (drop next s.bytes.now)) (sym c.message_at.ensures.span)

pub returns-then-not-is_taken-clause-spans : goal.returns-then-not-is_taken-clause-spans
returns-then-not-is_taken-clause-spans g c =
    let s = c.self.inside in
    let sees = g.S.Sent.sees c.args.sent.now in
    let run = c.bytes_to_next-count.ensures in
    ap (spans_left sees) (sym c.self.view_is)
    ∙ next-run sees s.at c.bytes_to_next-count.result s.bytes.now _ (take_rest s.bytes.now s.at)
    (sym c.is_taken.ensures ∙ c.if-not-is_taken.true) run.some run.within run.passed run.next

pub invariant_of-self-in-Some : goal.invariant_of-self-in-Some
invariant_of-self-in-Some g c =
    let s = c.self.inside in
    ends_within s.at c.in-Some.size s.bytes.now _ (take_rest s.bytes.now s.at) c.self.invariant
    c.in-Some.ensures.within

pub returns-clause-sizes : goal.returns-clause-sizes
returns-clause-sizes g c =
    let s = c.self.inside in
    let more = length-drop (s.at + c.in-Some.size) s.bytes.now in
    let left = length-drop s.at s.bytes.now in
    let sized = ap span_size c.message_at.ensures.span ∙ size
    (rest_of s.at s.bytes.now) c.in-Some.size c.in-Some.ensures.value in
    let some = (whole (rest_of c.self.inside.at c.self.inside.bytes.now) c.in-Some.size c.in-Some.ensures.value).some in
    let bytes_of = size (rest_of s.at s.bytes.now) c.in-Some.size c.in-Some.ensures.value in
    let old = ap (λ (l : Left). length l.bytes) c.self.view_is in
    let within = ends_within s.at c.in-Some.size s.bytes.now _ (take_rest s.bytes.now s.at) c.self.invariant
    c.in-Some.ensures.within in
    (omega (arith, sized, bytes_of), omega (arith, left, more, within, sized, old))
