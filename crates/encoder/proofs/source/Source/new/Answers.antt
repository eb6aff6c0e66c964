-- The search does not turn what a new encoder stands for into where the source stands.
use Rattle.std.proofs.Common.{ℕ, [], refl, sym, ap, subst, ◌∙◌}
use Rattle.rvclass.specs.Fetch.{words_of}
use Rattle.payload.specs.declared.mode.Mode.{Mode}
use Rattle.encoder.specs.SourceAt.{SourceAt}
use Rattle.encoder.specs.EncoderStands.{EncoderStands}
use Rattle.encoder.proofs.source.Source.new.Goals as goal

pub invariant_of-result : goal.invariant_of-result
invariant_of-result g c =
    let words = words_of c.args.log.now.program in
    let stands = c.new.ensures words in
    record {
      within = refl;
      stands =
          subst (λ period. EncoderStands words period c.new.result.mode [] c.new.result) (sym stands.between)
          (subst (λ mode. EncoderStands words c.args.period mode [] c.new.result) (sym stands.in_mode) stands);
    }

pub returns : goal.returns
returns g c =
    let stands = c.new.ensures (words_of c.args.log.now.program) in
    let at : ℕ → Mode → SourceAt =
    λ period mode. record { log = c.args.log.now; period = period; mode = mode; number = 0 } in
    ap (λ period. at period c.new.result.mode) stands.between ∙ ap (at c.args.period) stands.in_mode
