-- The bytes that a piece holds.
use Rattle.std.specs.Prelude.{ℕ, List}
use Rattle.rvclass.specs.declared.held.Held.{Held}
use Rattle.rvclass.specs.declared.held.Held.TheVariants as held

-- The bytes, owned or borrowed.
abbrev pub held_bytes : Held → List ℕ
held_bytes (held.Owned bytes) = bytes.items
held_bytes (held.Borrowed bytes) = bytes.now
