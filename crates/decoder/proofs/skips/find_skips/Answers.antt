-- That each skip leads along a line is a lemma about lists.
use Rattle.std.proofs.Common.{◌∙◌, ◌+◌, ap, arith, length, sym, subst}
use Rattle.std.proofs.lemmas.List.{length_push}
use Rattle.rvclass.specs.Fetch.{words_of}
use Rattle.decoder.proofs.AlongLines.{skips_pushed}
use Rattle.decoder.specs.steps.StraightLines.{AreSkips}
use Rattle.decoder.proofs.skips.find_skips.Goals as goal

pub skip_from-skip-requires-clause-skips : goal.skip_from-skip-requires-clause-skips
skip_from-skip-requires-clause-skips g c =
    subst (AreSkips (words_of c.args.program.now) c.args.segments.now) (sym c.as_slice.ensures.value)
    c.loop-place.invariant.2

pub loop-place-preserved : goal.loop-place-preserved
loop-place-preserved g c =
    let inv = c.loop-place.invariant in
    let kept = c.push_reserved.ensures.capacity in
    let room = inv.1 in
    let pushed = c.push_reserved.ensures.items in (
      ap length pushed ∙ length_push c.loop-place.skips.items c.skip_from-skip.result ∙ ap (λ n. n + 1) inv.0,
      omega (arith, room, kept),
      subst (AreSkips (words_of c.args.program.now) c.args.segments.now) (sym pushed)
          (skips_pushed (words_of c.args.program.now) c.args.segments.now c.loop-place.place c.loop-place.skips.items
          c.skip_from-skip.result inv.2 inv.0 c.skip_from-skip.ensures),
    )
