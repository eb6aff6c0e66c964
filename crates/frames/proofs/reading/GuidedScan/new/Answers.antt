-- Messages are found each at its place: by lemmas on messages among bytes.
use Rattle.std.proofs.Common.{◌∙◌, drop, ap, arith, refl}
use Rattle.std.proofs.lemmas.List.{length-drop}
use Rattle.frames.specs.Passages.{spans_from}
use Rattle.frames.proofs.AmidLemmas.{amid, complete}
use Rattle.frames.proofs.SpanLemmas.{least_place}
use Rattle.frames.proofs.reading.GuidedScan.new.Goals as goal

pub returns-clause-spans : goal.returns-clause-spans
returns-clause-spans c = λ sees.
    ap (λ at. spans_from sees at (drop at c.args.bytes.now)) c.min.ensures
    ∙ least_place (spans_from sees) (λ at. refl) c.args.from c.args.bytes.now

pub returns-clause-complete : goal.returns-clause-complete
returns-clause-complete c = λ sees messages none all is.
    returns-clause-spans c sees ∙ ap (spans_from sees c.args.from) is ∙ complete sees c.args.from messages none all

pub returns-clause-amid : goal.returns-clause-amid
returns-clause-amid c = λ sees messages last all none is.
    returns-clause-spans c sees ∙ ap (spans_from sees c.args.from) is ∙ amid sees c.args.from messages last all none

pub returns-clause-few : goal.returns-clause-few
returns-clause-few c = let left = length-drop c.min.result c.args.bytes.now in omega (arith, left)
