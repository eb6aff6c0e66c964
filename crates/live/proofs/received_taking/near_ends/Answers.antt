-- Whether a row ends with a message: by what the bytes are at its place, which no tactic finds.
use Rattle.std.proofs.Common.{◌∙◌, Some, ap, option_map, take}
use Rattle.std.proofs.lemmas.List.{take_rest}
use Rattle.frames.specs.Frame.{message_in}
use Rattle.live.specs.Live.{are_near}
use Rattle.live.specs.Received.{messages_from}
use Rattle.live.specs.steps.Receiving.{near_by}
use Rattle.live.proofs.received_taking.near_ends.Goals as goal

pub returns-in_default : goal.returns-in_default
returns-in_default g c =
    ap (near_by c.args.window.now.window (take c.args.count (messages_from c.args.bytes.now)))
    (c.in_default.ensures.value ∙ ap message_in (take_rest c.args.bytes.now c.args.at))

pub returns-in-Some-number_of : goal.returns-in-Some-number_of
returns-in-Some-number_of g c =
    ap Some c.is_near.ensures
    ∙ ap (option_map (are_near c.args.window.now.window c.in-Some.message.number)) c.in-Some-number_of.ensures
    ∙ ap (near_by c.args.window.now.window (take c.args.count (messages_from c.args.bytes.now)))
    (c.in-Some.ensures.value ∙ ap message_in (take_rest c.args.bytes.now c.args.at))

pub returns-in-None : goal.returns-in-None
returns-in-None g c =
    ap (option_map (are_near c.args.window.now.window c.in-Some.message.number)) c.in-None.ensures
    ∙ ap (near_by c.args.window.now.window (take c.args.count (messages_from c.args.bytes.now)))
    (c.in-Some.ensures.value ∙ ap message_in (take_rest c.args.bytes.now c.args.at))
