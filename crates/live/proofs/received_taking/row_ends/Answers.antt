-- Whether a row ends with a message, by what is seen of it: by what the bytes are at its place, which no tactic finds.
use Rattle.std.proofs.Common.{◌≡◌, ◌∙◌, ◌+◌, ◌-◌, ℕ, List, ap, arith, drop, length, sym, take}
use Rattle.std.proofs.lemmas.List.{take_rest}
use Rattle.frames.specs.Frame.{message_in}
use Rattle.live.specs.Received.{messages_from}
use Rattle.live.specs.ReceivedLeft.{rule_of}
use Rattle.live.specs.steps.Receiving.{near_by, row_by, seen_first}
use Rattle.live.proofs.ReceivedRows.{row_seen, row_unseen}
use Rattle.live.proofs.ReceivedSteps.{AreAmong, among_rest, follows_among, pauses_among}
use Rattle.live.proofs.received_taking.row_ends.Goals as goal

-- The message at the place is among the bytes up to it.
at_place : (bytes : List ℕ) (at : ℕ) → AreAmong (take (length bytes - at) (drop at bytes)) 1 bytes (at + 1)
at_place bytes at = among_rest bytes at 1 (at + 1) (omega arith)

pub returns-then-is_beyond-clause-settles : goal.returns-then-is_beyond-clause-settles
returns-then-is_beyond-clause-settles g c = λ all came front first right reads.
    let bytes = c.args.bytes.now in
    let at = c.args.at in
    let rule = rule_of c.args.harts all front in
    let before = take c.args.count (messages_from bytes) in
    let seen = c.in-Ok.ensures.settles all came front first right reads in (
      c.near_ends.ensures ∙ ap (λ w. near_by w before (message_in (drop at bytes))) seen.1.reads.window
          ∙ sym (row_seen rule before (message_in (drop at bytes)) c.in-Ok.seen
          (seen.0 ∙ ap (λ l. seen_first rule.sees (message_in l)) (take_rest bytes at))
          (sym c.is_beyond.ensures ∙ c.if-is_beyond.true)),
      follows_among all came front first (take (length bytes - at) (drop at bytes)) 1 bytes (at + 1) (at_place bytes at)
          c.see_at.new.window (g.S.SentSource.left c.see_at.new.source) seen.1,
    )

pub returns-else-is_beyond-clause-settles : goal.returns-else-is_beyond-clause-settles
returns-else-is_beyond-clause-settles g c = λ all came front first right reads.
    let bytes = c.args.bytes.now in
    let at = c.args.at in
    let rule = rule_of c.args.harts all front in
    let before = take c.args.count (messages_from bytes) in
    let seen = c.in-Ok.ensures.settles all came front first right reads in (
      sym (row_unseen rule before (message_in (drop at bytes)) c.in-Ok.seen
          (seen.0 ∙ ap (λ l. seen_first rule.sees (message_in l)) (take_rest bytes at))
          (sym c.is_beyond.ensures ∙ c.if-is_beyond.false)),
      follows_among all came front first (take (length bytes - at) (drop at bytes)) 1 bytes (at + 1) (at_place bytes at)
          c.see_at.new.window (g.S.SentSource.left c.see_at.new.source) seen.1,
    )

pub returns-in-Err-clause-settles : goal.returns-in-Err-clause-settles
returns-in-Err-clause-settles g c = λ all came front first right reads.
    let bytes = c.args.bytes.now in
    let at = c.args.at in
    let rule = rule_of c.args.harts all front in
    pauses_among all came front first (take (length bytes - at) (drop at bytes)) 1 bytes (at + 1) (at_place bytes at)
    (λ seen. seen ≡ seen_first rule.sees (message_in (take (length bytes - at) (drop at bytes))))
    (λ is. is ≡ row_by rule (take c.args.count (messages_from bytes)) (message_in (drop at bytes))) c.in-Err.why
    c.see_at.new.window (g.S.SentSource.left c.see_at.new.source) (c.in-Err.ensures.settles all came front first right reads)
