-- The search does not apply the clauses of `push_until_packet` to the log that the encoder has taken.
use Rattle.std.proofs.Common.{ℕ, ◌+◌, ◌≤◌, IfSome, arith, length, ap, subst, sym}
use Rattle.std.proofs.lemmas.List.{length-drop}
use Rattle.std.specs.Option.{option_to_list}
use Rattle.payload.specs.Profile.{InProfile}
use Rattle.rvclass.specs.Fetch.{words_of}
use Rattle.encoder.proofs.SeveralEvents.{rest_from}
use Rattle.captures.specs.declared.messages.Messages.{Messages}
use Rattle.captures.specs.steps.Adds.{Adds}
use Rattle.captures.proofs.AddedPackets.{adds_none}
use Rattle.captures.proofs.EncodedEvents.{EncodesFront, encodes_none, encodes_more, encodes_all}
use Rattle.captures.proofs.hart_messages.push_all.Goals.{After-push_until_packet-count}
use Rattle.captures.proofs.hart_messages.push_all.Goals as goal

pub loop-taken-init : goal.loop-taken-init
loop-taken-init g c = (
  omega arith,
  encodes_none g.F.Form.text (words_of c.args.program.now) c.args.events.now c.args.encoder.now c.args.messages.now,
)

module _ (g : _) (c : After-push_until_packet-count g) where
  abbrev taken : ℕ
  taken = c.loop-taken.taken + c.push_until_packet-count.result.0

  within : taken ≤ length c.args.events.now
  within =
      omega (
        arith,
        c.push_until_packet-count.ensures.within,
        c.loop-taken.invariant.0,
        length-drop c.loop-taken.taken c.args.events.now,
        ap length (rest_from c.loop-taken.taken c.args.events.now),
      )

  -- More events are encoded, if the message of their packet is written.
  encoded : (messages : Messages)
      → (IfSome c.push_until_packet-count.result.1 InProfile → Adds g.F.Form.text
      (option_to_list c.push_until_packet-count.result.1) c.loop-taken.messages messages)
      → EncodesFront g.F.Form.text (words_of c.args.program.now) c.args.events.now taken c.args.encoder.now
      c.args.messages.now c.push_until_packet-count.new.self messages
  encoded messages adds =
      encodes_more g.F.Form.text (words_of c.args.program.now) c.args.events.now _ c.loop-taken.taken
      c.push_until_packet-count.result.0 c.args.encoder.now c.loop-taken.encoder c.push_until_packet-count.new.self
      c.args.messages.now c.loop-taken.messages c.push_until_packet-count.result.1
      (rest_from c.loop-taken.taken c.args.events.now) c.loop-taken.invariant.1 messages
      c.push_until_packet-count.ensures.stands c.push_until_packet-count.ensures.packets
      c.push_until_packet-count.ensures.profile adds

pub loop-taken-preserved : goal.loop-taken-preserved
loop-taken-preserved g c =
    let before = (goal.at.loop-taken-preserved g c).After-push_until_packet-count in (
      within g before,
      encoded g before c.write.new.self
          (subst
          (λ packet. IfSome packet InProfile
          → Adds g.F.Form.text (option_to_list packet) c.loop-taken.messages c.write.new.self) (sym c.in-Some.is)
          c.in_ok-write-in-Some.ensures),
    )

pub returns-in-None : goal.returns-in-None
returns-in-None g c =
    let before = (goal.at.returns-in-None g c).After-push_until_packet-count in
    let all = c.push_until_packet-count.ensures.all c.in-None.is in
    encodes_all g.F.Form.text (words_of c.args.program.now) c.args.events.now (taken g before) c.args.encoder.now
    c.push_until_packet-count.new.self c.args.messages.now c.loop-taken.messages
    (omega (
      arith,
      all,
      c.loop-taken.invariant.0,
      length-drop c.loop-taken.taken c.args.events.now,
      ap length (rest_from c.loop-taken.taken c.args.events.now),
    ))
    (encoded g before c.loop-taken.messages
    (subst
    (λ packet. IfSome packet InProfile
    → Adds g.F.Form.text (option_to_list packet) c.loop-taken.messages c.loop-taken.messages) (sym c.in-None.is)
    (λ profile. adds_none g.F.Form.text c.loop-taken.messages)))
