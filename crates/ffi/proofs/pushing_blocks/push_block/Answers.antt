-- The clauses of the encoder hold of each log, which the search does not instantiate.
use Rattle.std.proofs.Common.{◌≤◌, ◌-◌, [], ◌∷◌, ◌++◌, ap, drop, length, subst, take, ◌∙◌}
use Rattle.std.proofs.lemmas.List.Elements.{All-cons, All-nil}
use Rattle.std.specs.Option.{option_to_list}
use Rattle.std.specs.Prelude.{IfSome}
use Rattle.encoder.specs.PacketsSoFar.{packets_so_far}
use Rattle.payload.specs.Profile.{InProfile}
use Rattle.rvclass.specs.Fetch.{words_of}
use Rattle.ffi.proofs.BlocksPushed.{part_all, part_end, part_more, part_none, quiet_run}
use Rattle.ffi.proofs.WrittenInTurn.{part_lent}
use Rattle.ffi.specs.steps.PushingAll.{GoesOn}
use Rattle.ffi.proofs.pushing_blocks.push_block.Goals as goal

pub loop-place-init : goal.loop-place-init
loop-place-init c =
    part_none (words_of c.args.program.now) c.args.encoder.now c.args.block.now c.args.packets.now

pub returns-in-None : goal.returns-in-None
returns-in-None c =
    let words = words_of c.args.program.now in
    let goes : GoesOn words c.loop-place.encoder
    (take c.push_until_packet-count.result.0
    (take (length c.args.block.now - c.loop-place.at) (drop c.loop-place.at c.args.block.now)))
    c.push_until_packet-count.new.self [] =
    λ period mode log stands legal. record {
      stands = c.push_until_packet-count.ensures.stands period mode log stands legal;
      grown = c.push_until_packet-count.ensures.packets period mode log stands legal
          ∙ ap (λ o. packets_so_far words period mode log ++ option_to_list o) c.in-None.is;
      profile = All-nil InProfile;
    } in
    part_all words c.args.encoder.now c.args.block.now c.args.packets.now c.loop-place.at
    c.loop-place.place c.push_until_packet-count.result.0 c.loop-place.encoder c.push_until_packet-count.new.self
    c.loop-place.packets c.loop-place.invariant _ (part_lent c.loop-place.at c.args.block.now)
    (c.push_until_packet-count.ensures.all c.in-None.is) c.loop-place-test.true goes
    (quiet_run words c.loop-place.encoder c.push_until_packet-count.new.self _ c.push_until_packet-count.result.0 [] goes
    (λ period n mode log stands legal few.
    c.push_until_packet-count.ensures.first period n mode log stands legal few))

pub loop-place-preserved : goal.loop-place-preserved
loop-place-preserved c =
    let words = words_of c.args.program.now in
    let goes : GoesOn words c.loop-place.encoder
    (take c.push_until_packet-count.result.0
    (take (length c.args.block.now - c.loop-place.at) (drop c.loop-place.at c.args.block.now)))
    c.push_until_packet-count.new.self (c.in-Some.packet ∷ []) =
    λ period mode log stands legal. record {
      stands = c.push_until_packet-count.ensures.stands period mode log stands legal;
      grown = c.push_until_packet-count.ensures.packets period mode log stands legal
          ∙ ap (λ o. packets_so_far words period mode log ++ option_to_list o) c.in-Some.is;
      profile = All-cons InProfile c.in-Some.packet []
          (subst (λ o. IfSome o InProfile) c.in-Some.is
          (c.push_until_packet-count.ensures.profile period mode log stands legal)) (All-nil InProfile);
    } in
    part_more words c.args.encoder.now c.args.block.now c.args.packets.now c.loop-place.at
    c.loop-place.place c.push_until_packet-count.result.0 c.loop-place.encoder c.push_until_packet-count.new.self
    c.loop-place.packets c.loop-place.invariant _ (part_lent c.loop-place.at c.args.block.now)
    c.in-Some.packet c.numbers_of.result c.numbers_of.ensures
    (subst (λ o. IfSome o (λ p. 1 ≤ c.push_until_packet-count.result.0))
    c.in-Some.is c.push_until_packet-count.ensures.some)
    c.push_until_packet-count.ensures.within c.requires c.loop-place-test.true goes
    (quiet_run words c.loop-place.encoder c.push_until_packet-count.new.self _ c.push_until_packet-count.result.0
    (c.in-Some.packet ∷ []) goes
    (λ period n mode log stands legal few.
    c.push_until_packet-count.ensures.first period n mode log stands legal few))

pub returns : goal.returns
returns c =
    part_end (words_of c.args.program.now) c.args.encoder.now c.args.block.now c.args.packets.now c.loop-place.at
    c.loop-place.place 0 c.loop-place.encoder c.loop-place.encoder c.loop-place.packets c.loop-place.invariant
    c.loop-place-test.false
