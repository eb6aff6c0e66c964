-- The clauses hold of each log that the encoder stands for, which the search does not instantiate.
use Rattle.std.proofs.Common.{◌≡◌, ◌++◌, ◌∷◌, [], sym, ap, ◌∙◌}
use Rattle.rvclass.proofs.WordsLemmas.{words_stand}
use Rattle.rvclass.specs.Fetch.{words_of}
use Rattle.payload.specs.declared.packet.Packet.TheVariants as packet
use Rattle.encoder.specs.Packets.{packets}
use Rattle.encoder.specs.PacketsSoFar.{packets_so_far}
use Rattle.encoder.specs.steps.Stepping.{last_given, given_at_end}
use Rattle.encoder.proofs.PacketsAtEnd.{ends_any}
use Rattle.encoder.proofs.ProfileLemmas.{packets_in_profile, profile_behind}
use Rattle.encoder.proofs.encoder.Encoder.finish.Goals as goal

given : (c : goal.After-push) → c.push.new.self.items ≡ given_at_end c.args.self c.args.self.held
given c =
    c.push.ensures.items
    ∙ ap (λ last. last ++ packet.Support c.closing.result ∷ []) (c.burst_of-burst.ensures ∙ c.last.ensures)
    ∙ ap (λ end. last_given c.args.self c.args.self.held ++ packet.Support end ∷ []) c.closing.ensures

pub returns-clause-packets : goal.returns-clause-packets
returns-clause-packets c = λ period mode log stands.
    let words = words_of c.args.program.now in
    ends_any words period mode log c.args.self stands ∙ ap (λ given. packets_so_far words period mode log ++ given)
    (sym (given c))

pub returns-clause-profile : goal.returns-clause-profile
returns-clause-profile c = λ period mode log stands legal.
    let words = words_of c.args.program.now in
    profile_behind (packets_so_far words period mode log) c.push.new.self.items (packets words period mode log)
    (ends_any words period mode log c.args.self stands ∙ ap (λ given. packets_so_far words period mode log ++ given)
    (sym (given c))) (packets_in_profile words (λ addr word e. (words_stand c.args.program.now addr word e).even)
    period mode log stands.numbers legal)
