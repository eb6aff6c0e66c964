-- The state comes back from its numbers: by a lemma over all states.
use Rattle.std.proofs.Common.{Some, true≢false, sym, ap, subst, ◌∙◌}
use Rattle.std.specs.Prelude.{IsTrue}
use Rattle.ffi.proofs.DecodersBack.{state_back}
use Rattle.ffi.specs.DecoderKept.{numbers_of_state}
use Rattle.ffi.specs.steps.ReadingDecoders.{state_in}
use Rattle.ffi.proofs.decoder_state.state_of.Goals as goal

pub returns-then-has_numbers-clause-only : goal.returns-then-has_numbers-clause-only
returns-then-has_numbers-clause-only c = λ state is.
    ap Some (c.state_in-state.ensures ∙ ap state_in is.same ∙ state_back state is.few)

pub returns-else-has_numbers-clause-only : goal.returns-else-has_numbers-clause-only
returns-else-has_numbers-clause-only c = λ state is.
    let back = c.state_in-state.ensures ∙ ap state_in is.same ∙ state_back state is.few in
    absurd (true≢false (sym (subst IsTrue c.if-has_numbers.false
    (c.has_numbers.ensures.value.1 (is.same ∙ ap numbers_of_state (sym back))))))
