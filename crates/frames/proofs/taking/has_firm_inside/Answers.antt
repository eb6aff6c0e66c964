-- What holds of each place: by lemmas on a row of places.
use Rattle.std.proofs.Common.{◌≡◌, ◌∙◌, false, true, drop, sym, ap, arith}
use Rattle.std.proofs.lemmas.List.{take_rest}
use Rattle.frames.specs.Frame.{is_frame}
use Rattle.frames.specs.Taken.{is_firm}
use Rattle.frames.proofs.Places.{through}
use Rattle.frames.proofs.TakenLemmas.{inside-here, inside-none}
use Rattle.frames.proofs.taking.has_firm_inside.Goals as goal

pub returns-then-is_firm : goal.returns-then-is_firm
returns-then-is_firm c =
    let bytes = c.args.bytes.now in
    let firm : is_firm (is_frame c.args.known) (drop c.loop-at.at bytes) ≡ true =
    ap (is_firm (is_frame c.args.known)) (sym (take_rest bytes c.loop-at.at)) ∙ sym c.is_firm.ensures
    ∙ c.if-is_firm.true in
    let within = c.loop-at-test.true in
    let size = c.frame_size-at-end.ensures in
    sym (inside-here (is_frame c.args.known) c.loop-at.at bytes c.loop-at.auto.at (omega (arith, within, size)) firm)

pub loop-at-preserved : goal.loop-at-preserved
loop-at-preserved c =
    let bytes = c.args.bytes.now in
    let here : is_firm (is_frame c.args.known) (drop c.loop-at.at bytes) ≡ false =
    ap (is_firm (is_frame c.args.known)) (sym (take_rest bytes c.loop-at.at)) ∙ sym c.is_firm.ensures
    ∙ c.if-is_firm.false in
    through (λ k. is_firm (is_frame c.args.known) (drop k bytes) ≡ false) c.loop-at.at c.loop-at.invariant here

pub returns : goal.returns
returns c =
    let over = c.loop-at-test.false in
    let size = c.frame_size-at-end.ensures in
    sym
    (inside-none (is_frame c.args.known) c.args.bytes.now
    (λ k some less. c.loop-at.invariant k some (omega (arith, over, size, less))))
