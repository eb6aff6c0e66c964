use Rattle.std.proofs.Common.{◌≡◌, drop, map, string_bytes}
use Rattle.log_streams.specs.Known.{content_in}
use Rattle.transcripts.proofs.shelf.Shelf.content.Given as goal

-- No file before this one has the name.
abbrev pub invariant-loop-file : goal.invariant-loop-file
invariant-loop-file l =
    content_in (map (λ file. (string_bytes file.name, file.bytes.items)) l.self.files.items) l.name
    ≡ content_in (map (λ file. (string_bytes file.name, file.bytes.items)) (drop l.file-index l.self.files.items))
    l.name
