-- What is said of each part's place is said of each part.
use Rattle.std.proofs.Common.{◌<◌, All, subst, sym}
use Rattle.rvclass.specs.Fetch.{words_of}
use Rattle.parallel_decode.specs.steps.Sections.{IsOfHarts}
use Rattle.parallel_decode.proofs.parts.receive_harts.Goals as goal

pub joined-requires : goal.joined-requires
joined-requires g c = λ i part within.
    c.in_ok-parts.ensures.each i (record { first = 0; end = 0 }) part
    (subst (λ n. i < n) c.in_ok-parts.ensures.count within)
    (subst (All (IsOfHarts (words_of c.args.work.now.program.now) c.args.work.now.announced c.args.work.now.bytes.now
    c.args.places.now)) (sym c.as_slice.ensures.value) c.in_ok-sections.ensures)
