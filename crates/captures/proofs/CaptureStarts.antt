-- A capture is what stands before the messages, and their bytes behind it.
use Rattle.std.proofs.Common.{◌≡◌, ℕ, List, Option, sym, subst}
use Rattle.std.specs.List.{flat_map}
use Rattle.std.specs.Io.KnownBytes.{Appends}
use Rattle.std.proofs.KnownBytes.{Appends-trans}
use Rattle.legalpath.specs.ProgramLog.{ProgramLog}
use Rattle.message.specs.Capture.{capture, message_bytes}
use Rattle.message.specs.declared.header.Version.{Version}
use Rattle.payload.specs.declared.mode.Mode.{Mode}
use Rattle.output.specs.Begun.{AppendsBeginning}
use Rattle.output.proofs.Beginnings.{begun_behind, begun_in_front}
use Rattle.captures.specs.Messages.{messages_of_harts}
use Rattle.captures.specs.Versions.{capture_of, header_of, start_bytes}
use Rattle.captures.proofs.MessageTexts.{capture_is}

module _ (version : Version) (period : ℕ) (mode : Mode) (logs : List ProgramLog) (old behind : Option (List ℕ)) where
  -- What stands before the messages; their bytes.
  abbrev start : List ℕ
  start = start_bytes version (header_of period mode logs)

  abbrev all : List ℕ
  all = capture (messages_of_harts period mode 0 logs)

  bytes_are : capture (messages_of_harts period mode 0 logs)
      ≡ flat_map message_bytes (messages_of_harts period mode 0 logs)
  bytes_are = capture_is (messages_of_harts period mode 0 logs)

  -- Where the start was begun, so was the capture.
  pub start_begun : AppendsBeginning (start_bytes version (header_of period mode logs)) old behind
      → AppendsBeginning (capture_of version period mode logs) old behind
  start_begun begun = begun_in_front start all old behind begun

  module _ (new : Option (List ℕ)) (first : Appends old behind (start_bytes version (header_of period mode logs))) where
    -- The start was written, and then the messages,
    pub messages_written : Appends behind new (flat_map message_bytes (messages_of_harts period mode 0 logs))
        → Appends old new (capture_of version period mode logs)
    messages_written then =
        Appends-trans old behind new start all first (subst (Appends behind new) (sym bytes_are) then)

    -- or a beginning of them.
    pub messages_begun : AppendsBeginning (flat_map message_bytes (messages_of_harts period mode 0 logs)) behind new
        → AppendsBeginning (capture_of version period mode logs) old new
    messages_begun then =
        begun_behind start all old behind new first
        (subst (λ text. AppendsBeginning text behind new) (sym bytes_are) then)
