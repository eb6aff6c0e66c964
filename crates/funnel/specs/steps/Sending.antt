-- When a pass of a port may send.
use Rattle.std.specs.Prelude.{◌≡◌, Bool, false, length}
use Rattle.atomic_table.specs.declared.badge.Badge.{Badge}
use Rattle.crossbeam_channel.specs.Claims.{IsSeatAt, Pass}
use Rattle.crossbeam_channel.specs.declared.flavors.array.Doing.{Doing}
use Rattle.crossbeam_channel.specs.declared.flavors.array.Key.{Key}
use Rattle.crossbeam_channel.specs.declared.flavors.array.Rows.{Rows}
use Rattle.payload.specs.Closing.{is_closing}
use Rattle.message.specs.declared.message.Message.{Message}
use Rattle.funnel.specs.Ends.{is_finished}
use Rattle.funnel.specs.declared.rule.View.{View}
use Rattle.funnel.specs.steps.Passes.{knows, sent_of, IsPort}

-- The pass has a seat at the channel and is of a port that is not finished. The message is the next of that port, and
-- the flag says whether its payload is closing.
pub record MaySend {Q M L A : Type 0} (channel : Rows (Badge (Key Message)) (Doing Message View) Q M (Key Message) L A)
    (pass : Pass Message View) (message : Message) (closing : Bool) : Type 0 where
  pub closing_is : closing ≡ is_closing message.payload
  pub seat : IsSeatAt channel pass
  pub port : IsPort message.hart (knows pass)
  pub number : message.number ≡ length (sent_of (knows pass))
  pub unfinished : is_finished (sent_of (knows pass)) ≡ false
