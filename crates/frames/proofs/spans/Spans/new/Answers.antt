-- Messages that were written are found: by lemmas on messages among bytes.
use Rattle.std.proofs.Common.{◌∙◌, drop, ap, subst, refl}
use Rattle.frames.specs.Spans.{spans_from}
use Rattle.frames.specs.Written.{NoOtherFrame, offsets_from}
use Rattle.frames.proofs.ScatteredLemmas.{scattered, written}
use Rattle.frames.proofs.SpanLemmas.{least_place}
use Rattle.frames.proofs.spans.Spans.new.Goals as goal

pub returns-clause-spans : goal.returns-clause-spans
returns-clause-spans c =
    ap (λ at. spans_from c.args.known at (drop at c.args.bytes.now)) c.min.ensures
    ∙ least_place (spans_from c.args.known) (λ at. refl) c.args.from c.args.bytes.now

pub returns-clause-written : goal.returns-clause-written
returns-clause-written c = λ messages known is.
    returns-clause-spans c ∙ ap (spans_from c.args.known c.args.from) is
    ∙ written c.args.known c.args.from messages known

pub returns-clause-scattered : goal.returns-clause-scattered
returns-clause-scattered c = λ messages last known is alone.
    returns-clause-spans c ∙ ap (spans_from c.args.known c.args.from) is
    ∙ scattered c.args.known c.args.from messages last known
    (subst (λ bytes. NoOtherFrame c.args.known c.args.from bytes (offsets_from c.args.from messages)) is alone)
