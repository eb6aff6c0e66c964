-- The header and the messages are joined by hand.
use Rattle.std.proofs.Common.{ℕ, List, length, subst}
use Rattle.std.specs.Io.KnownBytes.{Appends}
use Rattle.output.specs.Begun.{AppendsBeginning}
use Rattle.message.specs.declared.header.Header.{Header}
use Rattle.captures.specs.Versions.{start_bytes}
use Rattle.rvclass.specs.Fetch.{words_of}
use Rattle.stimulus.specs.Mixed.{after_closing, after_turns, first_order, header_of, none_sent, plan_of}
use Rattle.stimulus.specs.steps.Sending.{AllBegun, AllSend}
use Rattle.stimulus.proofs.CaptureLemmas.{capture_begun, harts_are, sent_to_end, start_begun, turns_begun}
use Rattle.stimulus.proofs.SendLemmas.{all_then_begun}
use Rattle.stimulus.proofs.capturing.write_messages.Goals.{After-write_start}
use Rattle.stimulus.proofs.capturing.write_messages.Goals as goal

-- The header that is written counts the harts.
module _ (g : _) (c : After-write_start g) where
  abbrev header_with : ℕ → Header
  header_with n = record { mode = c.args.asked.now.mode; period = c.args.asked.now.period; harts = n }

  begins : (text : List ℕ → Type 0) → text (start_bytes c.args.asked.now.version (header_with c.from.result))
      → text (start_bytes c.args.asked.now.version (header_of c.args.asked.now))
  begins text is = subst (λ n. text (start_bytes c.args.asked.now.version (header_with n))) c.from.ensures is

pub returns-in_err-write_start-clause-begun : goal.returns-in_err-write_start-clause-begun
returns-in_err-write_start-clause-begun g c =
    start_begun c.args.program.now c.args.asked.now
    (g.W.Write.contents c.args.sink.now) (g.W.Write.contents c.write_start.new.sink)
    (begins g (goal.at.returns-in_err-write_start-clause-begun g c).After-write_start
    (λ text. AppendsBeginning text (g.W.Write.contents c.args.sink.now) (g.W.Write.contents c.write_start.new.sink))
    c.write_start.ensures.begun)

pub returns-in_err-send_mixed-clause-begun : goal.returns-in_err-send_mixed-clause-begun
returns-in_err-send_mixed-clause-begun g c =
    let asked = c.args.asked.now in
    let contents = g.W.Write.contents in
    let plan = plan_of c.args.program.now asked in
    let none = none_sent asked.harts in
    turns_begun c.args.program.now asked (contents c.args.sink.now) (contents c.write_start.new.sink)
    (contents c.send_mixed.new.sink)
    (begins g (goal.at.returns-in_err-send_mixed-clause-begun g c).After-write_start
    (Appends (g.W.Write.contents c.args.sink.now) (g.W.Write.contents c.write_start.new.sink))
    c.in_ok-write_start.ensures.written)
    (subst (λ first. AllBegun none (after_turns (words_of c.args.program.now) plan (none, first) asked.messages).0
    (g.W.Write.contents c.write_start.new.sink) (g.W.Write.contents c.send_mixed.new.sink)) c.requires.first
    (c.send_mixed.ensures.begun plan none c.requires.none))

pub returns-clause-capture : goal.returns-clause-capture
returns-clause-capture g c =
    let words = words_of c.args.program.now in
    let contents = g.W.Write.contents in
    let asked = c.args.asked.now in
    let plan = plan_of c.args.program.now asked in
    let none = none_sent asked.harts in
    let one = subst (λ first. AllSend words plan none (after_turns words plan (none, first) asked.messages).0
    c.send_mixed.new.senders.items (g.W.Write.contents c.write_start.new.sink)
    (g.W.Write.contents c.send_mixed.new.sink)) c.requires.first
    (c.in_ok-send_mixed.ensures.sent plan none c.requires.none) in
    sent_to_end c.args.program.now asked c.requires.image c.finish_all.new.senders.items (contents c.args.sink.now)
    (contents c.write_start.new.sink) (contents c.finish_all.new.sink) c.send_mixed.new.senders.items
    (contents c.send_mixed.new.sink) c.finish_all.result
    (begins g (goal.at.returns-clause-capture g c).After-write_start
    (Appends (g.W.Write.contents c.args.sink.now) (g.W.Write.contents c.write_start.new.sink))
    c.in_ok-write_start.ensures.written) one (c.finish_all.ensures.sent plan _ one.sent) c.finish_all.ensures.closed

pub returns-clause-begun : goal.returns-clause-begun
returns-clause-begun g c =
    let words = words_of c.args.program.now in
    let contents = g.W.Write.contents in
    let asked = c.args.asked.now in
    let plan = plan_of c.args.program.now asked in
    let none = none_sent asked.harts in
    let one = subst (λ first. AllSend words plan none (after_turns words plan (none, first) asked.messages).0
    c.send_mixed.new.senders.items (g.W.Write.contents c.write_start.new.sink)
    (g.W.Write.contents c.send_mixed.new.sink)) c.requires.first
    (c.in_ok-send_mixed.ensures.sent plan none c.requires.none) in
    let turned = (after_turns words plan (none, first_order asked) asked.messages).0 in
    let harts = length c.send_mixed.new.senders.items in
    capture_begun c.args.program.now asked harts (contents c.args.sink.now) (contents c.write_start.new.sink)
    (contents c.finish_all.new.sink)
    (harts_are c.args.program.now asked c.send_mixed.new.senders.items (contents c.write_start.new.sink)
    (contents c.send_mixed.new.sink) one)
    (begins g (goal.at.returns-clause-begun g c).After-write_start
    (Appends (g.W.Write.contents c.args.sink.now) (g.W.Write.contents c.write_start.new.sink))
    c.in_ok-write_start.ensures.written)
    (all_then_begun words plan none turned (after_closing words plan turned harts) c.send_mixed.new.senders.items
    (contents c.write_start.new.sink) (contents c.send_mixed.new.sink) (contents c.finish_all.new.sink) one
    (c.finish_all.ensures.begun plan turned one.sent))
