-- What is said of each part's place is said of each part.
use Rattle.std.proofs.Common.{◌<◌, subst}
use Rattle.parallel_decode.proofs.section_groups.receive_sections.Goals as goal

pub joined-requires : goal.joined-requires
joined-requires g c = λ i part within.
    c.in_ok-parts.ensures.each i (record { first = 0; end = 0 }) part
    (subst (λ n. i < n) c.in_ok-parts.ensures.count within)
