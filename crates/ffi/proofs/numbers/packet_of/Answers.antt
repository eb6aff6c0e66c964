-- The packet comes back from its numbers: by a lemma over all packets.
use Rattle.std.proofs.Common.{Some, true≢false, sym, ap, subst, ◌∙◌}
use Rattle.std.specs.Prelude.{IsTrue}
use Rattle.payload.specs.Profile.{InProfile}
use Rattle.ffi.proofs.PacketsBack.{packet_back}
use Rattle.ffi.specs.Numbers.{numbers_of}
use Rattle.ffi.specs.steps.Reading.{packet_in}
use Rattle.ffi.proofs.numbers.packet_of.Goals as goal

pub returns-then-has_numbers-clause-only : goal.returns-then-has_numbers-clause-only
returns-then-has_numbers-clause-only c = λ packet profile is.
    ap Some (c.packet_in-packet.ensures ∙ ap packet_in is ∙ packet_back packet profile)

pub returns-else-has_numbers-clause-only : goal.returns-else-has_numbers-clause-only
returns-else-has_numbers-clause-only c = λ packet profile is.
    let same = c.packet_in-packet.ensures ∙ ap packet_in is ∙ packet_back packet profile in
    absurd (true≢false (sym (subst IsTrue c.if-has_numbers.false
    (c.has_numbers.ensures.1 (subst InProfile (sym same) profile, is ∙ ap numbers_of (sym same))))))
