-- What the packet of number 0 announces is an equation that no search finds.
use Rattle.std.proofs.Common.{rules, ◌≡◌, sym, ap, ◌∙◌}
use Rattle.std.specs.Prelude.{Ok}
use Rattle.payload.specs.Reading.{reading}
use Rattle.salvaging.specs.Leaving.{mode_by}
use Rattle.salvaging.proofs.own_mode.mode_by.Goals as goal

pub returns-in-Ok : goal.returns-in-Ok
returns-in-Ok c =
    let message = c.args.message.now in
    let first : message.number ≡ 0 = search rules in
    let read : reading message.payload ≡ Ok c.in-Ok.packet =
    ap reading (sym c.bytes.ensures.same) ∙ sym c.unpack.ensures.value ∙ c.in-Ok.is in
    c.mode_or.ensures
    ∙ sym (ap (λ n. mode_by n c.args.mode (reading message.payload)) first ∙ ap (mode_by 0 c.args.mode) read)
