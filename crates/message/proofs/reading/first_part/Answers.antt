-- Bytes that end inside a head are a cut message, by a lemma on beginnings of messages.
use Rattle.std.proofs.Common.{◌≡◌, ◌⊎◌, inl, length, rules}
use Rattle.std.proofs.KnownBytes.{Consumes-whole}
use Rattle.message.specs.Cut.{IsCut}
use Rattle.message.specs.Header.{IsCutHeader}
use Rattle.message.proofs.Cuts.{IsCut-head}
use Rattle.message.proofs.reading.first_part.Goals as goal

pub returns-in_default-clause-short : goal.returns-in_default-clause-short
returns-in_default-clause-short g c =
    let filled = c.in_ok-fill.ensures.filled in
    let room : length c.fill.new.room ≡ 11 = search rules in
    λ _. Consumes-whole _ _ _ (λ bytes. IsCut bytes ⊎ IsCutHeader bytes) filled.consumed (filled.ended (search rules))
    (inl (IsCut-head c.fill.new.room c.in_ok-fill.field-0 room filled.bytes (search rules) (search rules)))
