-- What a funnel in one thread holds.
use Rattle.std.specs.Prelude.{◌≡◌, ◌<◌, ◌≤◌, ℕ, All, None, List, length}
use Rattle.message.specs.declared.message.Message.{Message}
use Rattle.funnel.specs.Limits.{limit_fault}
use Rattle.message.specs.Version.{most_harts}
use Rattle.message.specs.declared.header.Version.TheVariants.{Two}

-- How many harts it serves, how many messages it may hold, and those that wait.
pub record Held : Type 0 where
  pub harts : ℕ
  pub capacity : ℕ
  pub queue : List Message

-- The numbers are within the limits. No more messages wait than the capacity, and all are of harts that it serves.
pub record KeepsLimits (held : Held) : Type 0 where
  pub limits : limit_fault (most_harts Two) held.harts held.capacity ≡ None
  pub room : length held.queue ≤ held.capacity
  pub known : All (λ (message : Message). message.hart < held.harts) held.queue
