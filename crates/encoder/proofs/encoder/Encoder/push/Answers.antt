-- The clauses hold of each log that the encoder stands for, which the search does not instantiate.
use Rattle.std.proofs.Common.{◌∷◌, [], ◌++◌, ap, sym, subst, ◌∙◌}
use Rattle.rvclass.proofs.WordsLemmas.{words_stand}
use Rattle.rvclass.specs.Fetch.{words_of}
use Rattle.encoder.specs.PacketsSoFar.{packets_so_far}
use Rattle.encoder.specs.EncoderStands.{EncoderStands}
use Rattle.encoder.proofs.ProfileLemmas.{so_far_in_profile, profile_behind}
use Rattle.encoder.proofs.StandsOn.{pushes_any, stands_after}
use Rattle.encoder.proofs.encoder.Encoder.push.Goals as goal

pub returns-clause-stands : goal.returns-clause-stands
returns-clause-stands c = λ period mode log stands legal.
    let words = words_of c.args.program.now in
    let pushed = pushes_any words period mode log c.args.self.now c.args.event stands legal in
    subst (λ x. EncoderStands words period mode (log ++ c.args.event ∷ []) x) (sym c.step.ensures.after)
    (stands_after words period mode log c.args.self.now c.args.event c.step.ensures.numbers stands pushed)

pub returns-clause-packets : goal.returns-clause-packets
returns-clause-packets c = λ period mode log stands legal.
    let words = words_of c.args.program.now in
    let pushed = pushes_any words period mode log c.args.self.now c.args.event stands legal in
    pushed.more ∙ ap (λ given. packets_so_far words period mode log ++ given)
    (sym (c.burst_of.ensures ∙ c.step.ensures.given))

pub returns-clause-profile : goal.returns-clause-profile
returns-clause-profile c = λ period mode log stands legal.
    let words = words_of c.args.program.now in
    let pushed = pushes_any words period mode log c.args.self.now c.args.event stands legal in
    let numbers =
    (stands_after words period mode log c.args.self.now c.args.event c.step.ensures.numbers stands pushed).numbers in
    let is = c.burst_of.ensures ∙ c.step.ensures.given in
    profile_behind (packets_so_far words period mode log) c.burst_of.result.items
    (packets_so_far words period mode (log ++ c.args.event ∷ []))
    (pushed.more ∙ ap (λ given. packets_so_far words period mode log ++ given) (sym is))
    (so_far_in_profile words (λ addr word held. (words_stand c.args.program.now addr word held).even) period mode
    (log ++ c.args.event ∷ []) numbers legal)
