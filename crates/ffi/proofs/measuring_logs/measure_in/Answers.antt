-- There are as many measures as texts: by a lemma on texts.
use Rattle.std.proofs.Common.{◌∙◌, ap, length, arith}
use Rattle.std.proofs.lemmas.List.{length-map}
use Rattle.captures.specs.Measures.{measures_of}
use Rattle.ffi.proofs.TextsRead.{as_many}
use Rattle.ffi.proofs.measuring_logs.measure_in.Goals as goal

pub write_measures_of-requires-clause-few : goal.write_measures_of-requires-clause-few
write_measures_of-requires-clause-few c =
    let are = c.in-Ok-measure_each.ensures.measured in
    let same = ap length c.as_slice.ensures.value ∙ ap length are.holds.counted
    ∙ length-map are.logs (measures_of c.args.period c.args.mode)
    ∙ as_many c.in-Ok.program c.args.logs.now 0 c.args.ends.now are.logs are.are in
    let few = c.requires.few in
    omega (arith, same, few)
