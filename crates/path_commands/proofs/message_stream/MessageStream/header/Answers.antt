-- A header is within the bytes that begin with it: by a lemma on headers, which no tactic finds.
use Rattle.std.proofs.Common.{arith, subst}
use Rattle.frames.specs.Start.{IsStart}
use Rattle.live.proofs.ReceivedStart.{header_within}
use Rattle.path_commands.proofs.message_stream.MessageStream.header.Goals as goal

pub pass-requires : goal.pass-requires
pass-requires g c =
    let start = c.start_of-start.result in
    let within = header_within c.read_start.new.self.block start.header start.fault
    (subst (λ l. IsStart l start.header start.fault) c.held.ensures c.start_of-start.ensures) in
    let place = c.first_place.ensures in
    omega (arith, within, place)
