-- The pieces are judged, and what came of a message is reported: by the constructor for each.
use Rattle.std.proofs.Common.{refl, sym, ◌∙◌, arith}
use Rattle.ffi.specs.Received.{Missing, NoPacket, Received, Refused}
use Rattle.ffi.proofs.receiving.tracebench_receive.Goals as goal

pub returns-then-said-ne-DONE : goal.returns-then-said-ne-DONE
returns-then-said-ne-DONE c = (
  c.judge_pieces-judged.result,
  c.judge_pieces-judged.ensures,
  Refused (λ is. c.if-said-ne-DONE.true (c.number_status-said.ensures.value ∙ is)) c.number_status-said.ensures.value
      refl refl refl refl,
)

pub returns-in-Err : goal.returns-in-Err
returns-in-Err c = (
  c.judge_pieces-judged.result,
  c.judge_pieces-judged.ensures,
  NoPacket (sym c.number_status-said.ensures.value ∙ c.if-said-ne-DONE.false) c.in-Err.why
      (sym c.in-Err.ensures.value) c.pack_status.ensures refl refl refl refl,
)

pub returns-then-number-hart : goal.returns-then-number-hart
returns-then-number-hart c = (
  c.judge_pieces-judged.result,
  c.judge_pieces-judged.ensures,
  Missing (sym c.number_status-said.ensures.value ∙ c.if-said-ne-DONE.false) c.in-Ok.field-0
      (sym c.in-Ok.ensures.value) c.if-number-hart.true refl refl refl refl refl,
)

pub overflow_add-hart : goal.overflow_add-hart
overflow_add-hart c =
    let within = (c.number_status-said.ensures.within c.if-said-ne-DONE.false).1 in omega (arith, within)

pub returns : goal.returns
returns c =
    let least = (c.number_status-said.ensures.within c.if-said-ne-DONE.false).0 in
    let most = c.if-number-hart.false in (
      c.judge_pieces-judged.result,
      c.judge_pieces-judged.ensures,
      Received (sym c.number_status-said.ensures.value ∙ c.if-said-ne-DONE.false) c.in-Ok.field-0
          (sym c.in-Ok.ensures.value) (omega (arith, least, most))
          c.report_feed-status.new.state c.report_feed-status.ensures (λ is. refl)
          (λ no. absurd (no c.if-status-ne-DONE.false)) refl,
    )

pub returns-then-status-ne-DONE : goal.returns-then-status-ne-DONE
returns-then-status-ne-DONE c =
    let least = (c.number_status-said.ensures.within c.if-said-ne-DONE.false).0 in
    let most = c.if-number-hart.false in (
      c.judge_pieces-judged.result,
      c.judge_pieces-judged.ensures,
      Received (sym c.number_status-said.ensures.value ∙ c.if-said-ne-DONE.false) c.in-Ok.field-0
          (sym c.in-Ok.ensures.value) (omega (arith, least, most))
          c.report_feed-status.new.state c.report_feed-status.ensures
          (λ is. absurd (c.if-status-ne-DONE.true is)) (λ no. refl) refl,
    )
