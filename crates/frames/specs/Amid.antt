-- Messages that were sent among other bytes.
use Rattle.std.specs.Prelude.{ℕ, ◌≡◌, ◌<◌, ◌++◌, false, List, [], ◌∷◌, drop, length}
use Rattle.frames.specs.Frame.{is_complete}
use Rattle.frames.specs.Written.{Scattered, scattered_bytes}
use Rattle.message.specs.Capture.{message_bytes}
use Rattle.message.specs.Cut.{IsMessage}
use Rattle.message.specs.declared.message.Message.{Message}
use Rattle.frames.specs.Passages.{Sees}
use Rattle.frames.specs.declared.sent.Sight.TheVariants.{Same}

-- A message within its ranges that was sent.
pub record IsSentMessage (sees : Sees) (message : Message) : Type 0 where
  pub ranges : IsMessage message
  pub sent : sees message ≡ Same

-- At no place of a run of bytes a complete message begins, where the bytes are read on into what follows the run.
abbrev pub NoneBeginsIn : List ℕ → List ℕ → Type 0
NoneBeginsIn run next = (k : ℕ) → k < length run → is_complete (drop k (run ++ next)) ≡ false

-- At no place of the bytes before the messages, between them and after them a complete message begins.
abbrev pub NoneBegins : List Scattered → List ℕ → Type 0
NoneBegins [] last = NoneBeginsIn last []
NoneBegins (s ∷ more) last =
    NoneBeginsIn s.before (message_bytes s.message ++ scattered_bytes more last) × NoneBegins more last
