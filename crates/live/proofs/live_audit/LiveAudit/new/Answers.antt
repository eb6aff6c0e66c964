-- Nothing was read yet: by a lemma on what is held first, which no tactic finds.
use Rattle.std.proofs.Common.{◌≡◌, ◌∙◌, ap, min, replicate}
use Rattle.live.specs.Runs.{no_run}
use Rattle.live.proofs.Starting.{stands_start}
use Rattle.live.proofs.live_audit.LiveAudit.new.Goals as goal

pub returns : goal.returns
returns g c = λ all window_is harts_is by_is.
    let idle : c.in_ok-vec.field-0.items ≡ replicate c.args.harts no_run =
    c.in_ok-vec.ensures.items_if_clones_equal (λ y same. same) ∙ ap (λ n. replicate n no_run) c.from.ensures in
    stands_start all c.args.window c.args.harts c.in_ok-new.field-0 c.in_ok-none_waiting.field-0.items
    c.in_ok-vec.field-0.items window_is harts_is c.args.by by_is c.in_ok-new.ensures.by (c.in_ok-new.ensures.window ∙ ap (λ n. min n 16777216) c.max.ensures)
    c.in_ok-new.ensures.harts c.in_ok-new.ensures.holds c.in_ok-none_waiting.ensures idle c.ranges.harts.fits
