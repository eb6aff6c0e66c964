-- What the decoder says of what it stands for, said of its numbers: no search instantiates the clauses.
use Rattle.std.proofs.Common.{List, ◌++◌, ◌∷◌, [], Some, Err, sym, ap, subst, length, ◌∙◌, arith}
use Rattle.decoder.specs.DecoderStands.{DecoderStands}
use Rattle.decoder.specs.Order.{open_packet}
use Rattle.decoder.specs.Resuming.{HasMode, IsClosed, IsSync}
use Rattle.payload.specs.Closing.{is_closing_packet}
use Rattle.payload.specs.declared.mode.Mode.{Mode}
use Rattle.payload.specs.declared.packet.Packet.{Packet}
use Rattle.retire.specs.declared.event.Event.{Event}
use Rattle.rvclass.specs.Fetch.{words_of}
use Rattle.ffi.proofs.DecodersBack.{recalled}
use Rattle.ffi.proofs.DecodersBack.{closed_back, closed_numbers, is_sync, mode_announced, mode_numbers}
use Rattle.ffi.proofs.DecodersBack.{passes_back, stand_by, true_or_false}
use Rattle.ffi.specs.DecoderKept.{NumbersStand, PassOver, numbers_of_state}
use Rattle.ffi.proofs.feeding.feed_packet.Goals as goal

pub returns-in-Ok : goal.returns-in-Ok
returns-in-Ok c = λ image payload numbers to_feed empty.
    let w = words_of c.args.program.now in
    let packet = c.args.packet.now in
    let events = c.feed.new.log.items in
    let none_before = ap (λ before. before ++ events) (sym empty) in
    let state = c.args.state.now in
    let found = to_feed.are in
    let after = c.numbers_of_state.result in
    let next = c.state.result in
    let again = c.numbers_of_state.ensures in
    let begun = c.from_state-decoder.ensures.whole in
    let ended = c.state.ensures.whole in
    let said = c.in-Ok.ensures in
    let passes = passes_back numbers state found c.from_state-decoder.result begun in (
      record {
        program = c.args.program.now;
        packet = packet;
        made = to_feed.made;
        read = to_feed.read;
        are = (state, found);
        goes_on = λ packets log stand.
            let held = recalled w packets log numbers state found stand in
            let fed = said.adds packets log events (c.from_state-decoder.ensures.stands w packets log held) none_before in
            stand_by after next again w (packets ++ packet ∷ []) (log ++ events)
            (subst (DecoderStands w (packets ++ packet ∷ []) (log ++ events)) (sym ended) fed);
        keeps = record {
          not_closed = λ closed.
              let is = said.after_close.1 (subst IsClosed (sym begun) (closed_back numbers state found closed)) in cc;
          again = (next, again);
          announced = λ mode is stand.
              mode_numbers after next again (Some mode) (subst (HasMode (Some mode)) (sym ended)
              (said.announced mode is (c.from_state-decoder.ensures.stands w [] []
              (recalled w [] [] numbers state found stand))));
          mode_kept = λ announced have other.
              mode_numbers after next again announced (subst (HasMode announced) (sym ended)
              (said.mode_kept announced (subst (HasMode announced) (sym begun)
              (mode_announced numbers state found announced have)) other));
        };
        passes = record {
          passed_over = λ mode pass no goes.
              let kept = said.passed_over mode (passes mode pass) no goes in
              let same = c.from_state-decoder.ensures.only next (sym (ended ∙ kept.1)) in
              (again.same ∙ ap numbers_of_state same ∙ sym found.same, kept.2 ∙ empty);
          closes = λ mode pass closing.
              let closed = said.closes mode (passes mode pass) closing in
              (closed_numbers after next again (subst IsClosed (sym ended) closed.1), closed.2 ∙ empty);
          begins = λ mode pass sync.
              stand_by after next again w (open_packet mode ∷ packet ∷ []) events
              (subst (DecoderStands w (open_packet mode ∷ packet ∷ []) events) (sym ended)
              (said.begins mode (passes mode pass) sync events none_before));
        };
        short =
            let all = said.short in
            let begins = ap length empty in
            omega (arith, all, begins);
      },
      again,
    )

pub returns-in-Err : goal.returns-in-Err
returns-in-Err c = λ image payload numbers to_feed empty.
    let w = words_of c.args.program.now in
    let packet = c.args.packet.now in
    let state = c.args.state.now in
    let found = to_feed.are in
    let begun = c.from_state-decoder.ensures.whole in
    let said = c.in-Err.ensures in
    let held : (packets : List Packet) (log : List Event) → NumbersStand w packets log numbers
    → DecoderStands w packets log c.from_state-decoder.result = λ packets log stand.
    c.from_state-decoder.ensures.stands w packets log (recalled w packets log numbers state found stand) in
    let passes = passes_back numbers state found c.from_state-decoder.result begun in
    let syncs : (mode : Mode) → PassOver mode numbers → IsSync packet = λ mode pass. is_sync packet
    (λ no. true_or_false (is_closing_packet packet)
    (λ closing. let is = (said.closes mode (passes mode pass) closing).0 in cc)
    (λ goes. let is = (said.passed_over mode (passes mode pass) no goes).0 in cc)) in
    record {
      program = c.args.program.now;
      packet = packet;
      made = to_feed.made;
      read = to_feed.read;
      are = (state, found);
      refuses = record {
        none = λ packets log stand. said.adds_none packets log (held packets log stand);
        closed = λ packets log stand.
            let closed = said.adds_closed packets log (held packets log stand) in
            (λ is. closed.0 (ap Err is), λ holds. let same = closed.1 holds in cc);
        not_opened = λ packets log stand.
            let first = said.adds_first packets log (held packets log stand) in
            (λ is. first.0 (ap Err is), λ holds. let same = first.1 holds in cc);
      };
      by_phase = record {
        after_close = (
          λ is. closed_numbers numbers state found (subst IsClosed begun (said.after_close.0 (ap Err is))),
          λ closed.
              let is = said.after_close.1 (subst IsClosed (sym begun) (closed_back numbers state found closed)) in cc,
        );
        passed_over = syncs;
        begins_none = λ mode pass. said.begins_none mode (passes mode pass) (syncs mode pass);
        begins_memory = λ mode pass is.
            let one = said.begins_memory mode (passes mode pass) (syncs mode pass) (ap Err is) in
            (one.0, one.1);
        never_unopened = λ mode pass is. said.never_unopened mode (passes mode pass) (ap Err is);
      };
    }
