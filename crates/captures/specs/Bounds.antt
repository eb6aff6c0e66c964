-- How large measures are.
use Rattle.std.specs.Prelude.{ℕ, ◌+◌, ◌*◌, ◌^◌, ◌≤◌}
use Rattle.payload.specs.Limits.{most_bytes}
use Rattle.captures.specs.declared.measures.Measures.{Measures}

-- Each count is at most this number, and there are at most so many payload bytes as this many payloads have.
pub record AreWithin (limit : ℕ) (m : Measures) : Type 0 where
  pub events : m.events ≤ limit
  pub retirements : m.retirements ≤ limit
  pub traps : m.traps ≤ limit
  pub branches : m.branches ≤ limit
  pub packets : m.packets ≤ limit
  pub support : m.support ≤ limit
  pub sync : m.sync ≤ limit
  pub trap : m.trap ≤ limit
  pub address : m.address ≤ limit
  pub map : m.map ≤ limit
  pub notify : m.notify ≤ limit
  pub updiscon : m.updiscon ≤ limit
  pub payload_bytes : m.payload_bytes ≤ limit * most_bytes
  pub longest : m.longest ≤ most_bytes

-- No count of at most 2^32 - 1 events is greater, whatever the events are. A legal log has at most two packets more
-- than events.
abbrev pub most_counted : ℕ
most_counted = 2 ^ 33 + 1
