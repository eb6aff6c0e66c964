-- The mode that is named is the one that was read: the search does not find the two equations.
use Rattle.std.proofs.Common.{◌≡◌, [], ◌∷◌, map, sym, ap, subst, ◌∙◌}
use Rattle.std.proofs.lemmas.Option.{same_Some}
use Rattle.encoder.specs.EncoderStands.{EncoderStands}
use Rattle.encoder.specs.PacketsSoFar.{packets_so_far}
use Rattle.ffi.specs.EncoderKept.{NumbersStand}
use Rattle.ffi.specs.Numbers.{numbers_of}
use Rattle.ffi.proofs.pushing.tracebench_encoder.Goals as goal

pub returns-clause-stands : goal.returns-clause-stands
returns-clause-stands c = λ words named done asked.
    let same = same_Some c.in-Some.mode named (c.in-Some.ensures ∙ asked) in
    subst (λ m. NumbersStand words c.args.period m [] c.numbers_of_state.result) same (record {
      state = c.state.result;
      is = record { few = c.numbers_of_state.ensures.few; same = c.numbers_of_state.ensures.same };
      stands = c.state.ensures.stands words c.args.period c.in-Some.mode []
          (subst (EncoderStands words c.args.period c.in-Some.mode []) (sym c.open.ensures.same)
          (c.new-encoder.ensures words));
    })

pub returns-clause-opens : goal.returns-clause-opens
returns-clause-opens c = λ words named done asked.
    let same = same_Some c.in-Some.mode named (c.in-Some.ensures ∙ asked) in
    subst (λ m. map numbers_of (packets_so_far words c.args.period m []) ≡ c.numbers_of.result ∷ []) same
    (ap (map numbers_of) (c.open.ensures.packets words c.args.period c.in-Some.mode [] (c.new-encoder.ensures words))
    ∙ ap (λ n. n ∷ []) (sym c.numbers_of.ensures))
